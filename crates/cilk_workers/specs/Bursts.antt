-- What a burst of turns leaves: the worker's tasks, and its keys.
use Rattle.std.specs.Prelude.{◌≡◌, ◌⊎◌, ◌+◌, ℕ, List, [], ◌∷◌, ◌++◌, Option, Some, None}
use Rattle.cilk_replay.specs.Chains.{ChainValue}
use Rattle.cilk_replay.specs.declared.chain.Task.{Task}
use Rattle.cilk_shared.specs.Pieces.{PieceValue}
use Rattle.cilk_tree.specs.Word.{resume, word_step}
use Rattle.cilk_tree.specs.declared.event_order.EventOrder.{EventOrder}
use Rattle.cilk_workers.specs.Held.{AreTaken, IsSameRack, waiting}
use Rattle.cilk_workers.specs.Keys.{Arrived}
use Rattle.cilk_workers.specs.Rows.{IsGood}
use Rattle.cilk_workers.specs.Shared.{SharedValue, event_order_in}
use Rattle.cilk_workers.specs.Turns.{IsSpawnAt}
use Rattle.cilk_workers.specs.declared.activity.Activity.{Activity}
use Rattle.cilk_workers.specs.declared.activity.Activity.TheVariants as hands
use Rattle.cilk_workers.specs.declared.activity.ExitReason.TheVariants as finishes
use Rattle.cilk_workers.specs.declared.activity.Tools.{Tools}
use Rattle.cilk_workers.specs.declared.rack.Rack.{Rack}

-- How the tasks that wait, the oldest first, change while a worker makes the events from position a on. Each spawn pushes its
-- continuation, and no other event pushes any. What is popped is the newest, where the next event resumes after its spawn.
pub data Leads (s : EventOrder) (a : ℕ) (ts : List Task) : ℕ → List Task → Type 0 where
  stays : Leads s a ts a ts
  passes : (b : ℕ) (us : List Task) → Leads s a ts b us → (IsSpawnAt s b → ⊥) → Leads s a ts (b + 1) us
  pushes : (b : ℕ) (us : List Task) (t : Task) → Leads s a ts b us → IsSpawnAt s b → t.ticket ≡ b → Leads s a ts (b + 1) (us ++ t ∷ [])
  pops : (b : ℕ) (us : List Task) (t : Task) → Leads s a ts b (us ++ t ∷ []) → word_step s b ≡ resume t.ticket → Leads s a ts b us

-- between the two positions no event is a spawn
abbrev pub GrowsOn : EventOrder → ℕ → ℕ → Type 0
GrowsOn s b d = (a : ℕ) (ts us : List Task) → Leads s a ts b us → Leads s a ts d us

-- a good piece has become another by such events
pub record Reaches (y : SharedValue) (first p : PieceValue) : Type 0 where
  pub good : IsGood y.run p
  pub grows : GrowsOn (event_order_in y) first.upto p.upto

-- a worker whose piece hasn't arrived has come to position b; one that ran out of memory, to any
abbrev pub ComesTo : Activity → ℕ → Type 0
ComesTo (hands.Holds w) b = let p = w.piece in p.upto ≡ b
ComesTo (hands.Idle p) b = ⊥
ComesTo (hands.Done (finishes.Whole p value)) b = p.upto ≡ b
ComesTo (hands.Done (finishes.Departed at)) b = at ≡ b
ComesTo (hands.Done finishes.Stopped) b = ⊥
ComesTo (hands.Done finishes.OutOfMemory) b = Unit {0}

module _ {N : Type 0} where
  -- the tasks of the rack have changed so from position a to position b
  abbrev pub KeepsTasks : EventOrder → ℕ → Rack N → ℕ → Rack N → Type 0
  KeepsTasks s a r b r' = IsSameRack r r' × Leads s a (waiting r) b (waiting r')

  -- A piece arrives with its chain; or, without one, where each task of the rack was taken, or where the yard refused the
  -- continuation that resumes at its end.
  abbrev pub MayArrive : (Task → Type 0) → EventOrder → PieceValue → Option ChainValue → Option ℕ → Rack N → Type 0
  MayArrive taken s p (Some c) d r = Unit {0}
  MayArrive taken s p None None r = AreTaken taken r
  MayArrive taken s p None (Some ticket) r = word_step s p.upto ≡ resume ticket

  -- A burst began at position a. Then either one piece arrived; or nothing was done with the keys, and the worker isn't without
  -- work. Up to where that piece ends, or the worker has come, the rack was kept. Nothing was stolen.
  abbrev pub ArrivedOnce : (Task → Type 0) → EventOrder → ℕ → Tools N → Activity × Option ℕ → Tools N → Type 0
  ArrivedOnce taken s a t (next, d) t' =
      (t'.pickers.items ≡ t.pickers.items)
      × (((t'.keys.items ≡ t.keys.items) × ((b : ℕ) × ComesTo next b × KeepsTasks s a t.rack b t'.rack))
      ⊎ ((p : PieceValue) × (c : Option ChainValue) × Arrived s p c t.keys.items next t'.keys.items × KeepsTasks s a t.rack p.upto t'.rack × MayArrive taken s p c d t'.rack))
