-- The order of a frame's events.
use Rattle.std.specs.Prelude.{◌≡◌, ℕ, suc, ℤ, pos, ◌-ℤ◌, Bool, true, false, if◌then◌else◌, List, [], ◌∷◌, ◌++◌}
use Rattle.std.specs.Ordering.{int_eq}
use Rattle.cilk_monoid.specs.declared.kind.MonoidKind.{MonoidKind}
use Rattle.cilk_program.specs.declared.ask.Ask.{Ask}
use Rattle.cilk_program.specs.declared.ask.Ask.TheVariants as asks
use Rattle.cilk_program.specs.declared.ask.Callee.{Callee}
use Rattle.cilk_program.specs.declared.ask.Callee.TheVariants as callees
use Rattle.cilk_types.specs.declared.invocation.Invocation.TheVariants.{Call, Spawn}
use Rattle.cilk_program.specs.declared.syntax.Place.TheVariants as places
use Rattle.cilk_program.specs.declared.syntax.ReducerPlace.{ReducerPlace}
use Rattle.cilk_program.specs.declared.syntax.ReducerPlace.TheVariants as reducers
use Rattle.cilk_program.specs.Syntax.{Source, function_at, main_of}
use Rattle.cilk_program.specs.SerialRun.{Transcript, stop, act, child}

-- writes the words that a frame is given to its first cells
abbrev pub writings : ℕ → List ℤ → List Ask
writings n [] = []
writings n (v ∷ vs) = asks.Write (places.Local 0 n) v ∷ writings (suc n) vs

-- creates reducers with these monoids
abbrev pub creations : (ℕ → ReducerPlace) → ℕ → List MonoidKind → List Ask
creations place n [] = []
creations place n (k ∷ ks) = asks.Create (record { place = place n; kind = k }) ∷ creations place (suc n) ks

-- The requests of a frame before its first statement. The first frame creates the global reducers
-- and its own. A function writes its words and creates its reducers. A single turn of a parallel
-- loop writes its variable.
abbrev pub opening_asks : Source → Callee → List Ask
opening_asks p callees.Root = let f = main_of p in creations reducers.Global 0 p.reducers ++ creations (reducers.Own 0) 0 f.reducers
opening_asks p (callees.Function c) = let f = function_at p c.function in writings 0 c.words ++ creations (reducers.Own 0) 0 f.reducers
opening_asks p (callees.Loop l) = if int_eq (l.high -ℤ l.low) (pos 1) then asks.Write (places.Local 0 0) l.low ∷ [] else []

-- The stage of a frame. Fresh: it hasn't begun. Due: some opening requests are left. Going: it runs
-- statements, and may have spawned children since its last sync. Resuming: a child has just ended.
-- Synced: it has just waited for its children. Closing: it has given its result.
pub data Stage : Type 0 where
  Fresh : (due : List Ask) → Stage
  Due : (first : Ask) (due : List Ask) → Stage
  Going : (spawned : Bool) → Stage
  Resuming : (spawned : Bool) → Stage
  Synced : Stage
  Closing : Stage

abbrev pub opened : List Ask → Stage
opened [] = Going false
opened (k ∷ due) = Due k due

-- while it runs statements, a frame doesn't begin, create a reducer, resume, give a result or end
abbrev pub goes_on : Bool → Ask → (Stage → Type 0) → Type 0
goes_on spawned asks.Begin go = ⊥
goes_on spawned (asks.Read x) go = go (Going spawned)
goes_on spawned (asks.Write x v) go = go (Going spawned)
goes_on spawned (asks.Create r) go = ⊥
goes_on spawned (asks.Update r v) go = go (Going spawned)
goes_on spawned (asks.Set r v) go = go (Going spawned)
goes_on spawned (asks.Value r) go = go (Going spawned)
goes_on spawned (asks.Print v) go = go (Going spawned)
goes_on spawned (asks.Invoke Call callee) go = go (Resuming spawned)
goes_on spawned (asks.Invoke Spawn callee) go = go (Resuming true)
goes_on spawned asks.Resume go = ⊥
goes_on spawned asks.Sync go = go Synced
goes_on spawned (asks.Result v) go = ⊥
goes_on spawned (asks.End v) go = ⊥
goes_on spawned (asks.Fault f) go = ⊥

-- right after a sync, a frame may continue, give its result or end
abbrev pub closes : Ask → (Stage → Type 0) → Type 0
closes (asks.Result v) go = go Closing
closes (asks.End v) go = Unit {0}
closes k go = goes_on false k go

-- the requests that may come next, and the frame's stage after them
abbrev pub follows : Stage → Ask → (Stage → Type 0) → Type 0
follows (Fresh due) k go = (k ≡ asks.Begin) × go (opened due)
follows (Due first due) k go = (k ≡ first) × go (opened due)
follows (Going spawned) k go = goes_on spawned k go
follows (Resuming spawned) k go = (k ≡ asks.Resume) × go (Going spawned)
follows Synced k go = closes k go
follows Closing k go = (v : ℤ) × (k ≡ asks.End v)

-- an event of the frame itself begins no child, and nothing follows its end
abbrev pub IsOwnAt : Ask → Transcript → Type 0
IsOwnAt (asks.Invoke how callee) r = ⊥
IsOwnAt (asks.End v) r = r ≡ stop
IsOwnAt k r = Unit {0}

-- from this stage on, the events of a frame are in order, and so are those of its children
abbrev pub IsOrderly : Source → Stage → Transcript → Type 0
IsOrderly p s stop = Unit {0}
IsOrderly p s (act k a r) = follows s k (λ s'. IsOrderly p s' r) × IsOwnAt k r
IsOrderly p s (child how callee u r) = IsOrderly p (Fresh (opening_asks p callee)) u × follows s (asks.Invoke how callee) (λ s'. IsOrderly p s' r)
