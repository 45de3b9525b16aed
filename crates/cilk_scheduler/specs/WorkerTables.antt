-- The rules of a choice, by names that no schedule changes: which worker holds which frame, whose
-- continuations are offered, and what the choice changes.
use Rattle.std.specs.Prelude.{◌≡◌, ◌⊎◌, ℕ, zero, suc, true, false, cond, ℤ, List, [], ◌∷◌, ◌++◌, set, slice_get, Option, Some, None}
use Rattle.cilk_types.specs.declared.invocation.Invocation.TheVariants.{Call, Spawn}
use Rattle.cilk_program.specs.Syntax.{Source}
use Rattle.cilk_determinacy.specs.Runs.{Name, same_name, Instance, Ask, Invoke, Sync, End, Deed}
use Rattle.cilk_determinacy.specs.Machine.{Frame, State, HasEnd, deeds_at, started, Makes, Steals, Stops}
use Rattle.cilk_determinacy.specs.Progress.{BlockHasEnded, GoesOn}
use Rattle.cilk_determinacy.specs.FrameEnvMachine.{costs}
use Rattle.cilk_determinacy.specs.Reducers.{View, monoid_of}
use Rattle.cilk_determinacy.specs.Steps.{Next}
use Rattle.cilk_determinacy.specs.FrameEnvs.{FrameEnv}
use Rattle.cilk_scheduler.specs.declared.choice.Choice.{Choice}
use Rattle.cilk_scheduler.specs.declared.choice.Choice.TheVariants.{Run, Steal}

-- The frame that each worker holds, the frames whose continuations it offers, oldest first, and the
-- frames that wait at a sync once their own piece has arrived. Workers count from 1 in choices and
-- from 0 here.
pub record WorkerTable : Type 0 where
  pub hands : List (Option Name)
  pub offered : List (List Name)
  pub waiting : List Name

-- a worker is idle
abbrev pub idle : WorkerTable → ℕ → WorkerTable
idle d w = record d { hands = set d.hands w None }

-- a worker holds a frame
abbrev pub holds : WorkerTable → ℕ → Name → WorkerTable
holds d w n = record d { hands = set d.hands w (Some n) }

-- without a name
abbrev pub without : List Name → Name → List Name
without [] n = []
without (m ∷ ms) n = cond (same_name m n) (without ms n) (m ∷ without ms n)

-- a frame's continuation is no longer offered, by whichever worker
abbrev pub withdrawn : List (List Name) → Name → List (List Name)
withdrawn [] n = []
withdrawn (ms ∷ rest) n = without ms n ∷ withdrawn rest n

-- a worker offers one more, its newest
abbrev pub newest_of : List (List Name) → ℕ → Name → List (List Name)
newest_of [] w n = []
newest_of (ms ∷ rest) zero n = (ms ++ n ∷ []) ∷ rest
newest_of (ms ∷ rest) (suc w) n = ms ∷ newest_of rest w n

-- all that are offered, worker by worker, each worker's oldest first
abbrev pub all_offered : List (List Name) → List Name
all_offered [] = []
all_offered (ms ∷ rest) = ms ++ all_offered rest

abbrev pub IsIn : Name → List Name → Type 0
IsIn n [] = ⊥
IsIn n (m ∷ ms) = (m ≡ n) ⊎ IsIn n ms

-- the result of a choice: an event, a steal, a wait at a sync, or nothing
pub data Comes : Type 0 where
  Did : Comes
  Stole : Comes
  Waited : Comes
  Skipped : Comes

-- each child that frame m spawned in its open block has ended
abbrev pub BlockIsOver : State FrameEnv View → Name → Type 0
BlockIsOver s m = BlockHasEnded FrameEnv View s m (deeds_at (s.frames m))

-- the first frame has ended
abbrev pub IsOver : State FrameEnv View → Type 0
IsOver s = HasEnd (deeds_at (s.frames []))

-- The worker table after an event of frame n, which worker w held, with the state s after it. The
-- worker continues with the child of a call or a spawn. At the end of the frame it continues with
-- the parent, unless another worker does or the parent must wait.
pub data Settles (s : State FrameEnv View) (d : WorkerTable) (w : ℕ) (n : Name) (before : List (Deed FrameEnv)) : Ask FrameEnv → WorkerTable → Type 0 where
  goes_on : (a : Ask FrameEnv) → ((v : FrameEnv) → a ≡ Invoke Call v → ⊥) → ((v : FrameEnv) → a ≡ Invoke Spawn v → ⊥) → ((v : ℤ) (gone : List Instance) → a ≡ End v gone → ⊥) → Settles s d w n before a d
  calls : (v : FrameEnv) → Settles s d w n before (Invoke Call v) (holds d w (n ++ suc (started before) ∷ []))
  spawns : (v : FrameEnv) → Settles s d w n before (Invoke Spawn v) (holds (record d { offered = newest_of d.offered w n }) w (n ++ suc (started before) ∷ []))
  ends_all : (v : ℤ) (gone : List Instance) → n ≡ [] → Settles s d w n before (End v gone) (idle d w)
  -- it was called, or the continuation beside it is still offered, by whichever worker
  returns : (v : ℤ) (gone : List Instance) (m : Name) (k : ℕ) → n ≡ m ++ k ∷ [] → s.stolen n ≡ false → Settles s d w n before (End v gone) (holds (record d { offered = withdrawn d.offered m }) w m)
  -- the continuation beside it was stolen: its parent's block passes, or isn't complete yet
  passes : (v : ℤ) (gone : List Instance) (m : Name) (k : ℕ) → n ≡ m ++ k ∷ [] → s.stolen n ≡ true → IsIn m d.waiting → BlockIsOver s m → Settles s d w n before (End v gone) (holds (record d { waiting = without d.waiting m }) w m)
  leaves : (v : ℤ) (gone : List Instance) (m : Name) (k : ℕ) → n ≡ m ++ k ∷ [] → s.stolen n ≡ true → ¬ (IsIn m d.waiting × BlockIsOver s m) → Settles s d w n before (End v gone) (idle d w)

-- A choice that is skipped: there is no such worker, it is idle and is to run, it is busy and is to
-- steal, there is no such continuation, or the run is over.
abbrev pub IsSkipped : State FrameEnv View → WorkerTable → Choice → Type 0
IsSkipped s d (Run zero) = Unit {0}
IsSkipped s d (Run (suc w)) = ((n : Name) → slice_get d.hands w ≡ Some (Some n) → ⊥) ⊎ IsOver s
IsSkipped s d (Steal zero k) = Unit {0}
IsSkipped s d (Steal (suc w) k) = (slice_get d.hands w ≡ Some None → ⊥) ⊎ (slice_get (all_offered d.offered) k ≡ None ⊎ IsOver s)

module _ (p : Source) (inputs : List ℤ) where
  -- frame n may continue, apart from its open block, and its next request is this
  pub record Stands (s : State FrameEnv View) (n : Name) (frame : Frame FrameEnv) (ask : Ask FrameEnv) : Type 0 where
    pub here : s.frames n ≡ Some frame
    pub next : Next p inputs frame.what frame.deeds ask
    pub goes_on : GoesOn FrameEnv View s n frame.deeds

  -- The effect of a choice on the worker table and on a state that nothing stopped.
  pub data Chooses (s : State FrameEnv View) (d : WorkerTable) : Choice → Comes → State FrameEnv View → WorkerTable → Type 0 where
    does : (w : ℕ) (n : Name) (s' : State FrameEnv View) (d' : WorkerTable) → slice_get d.hands w ≡ Some (Some n) → (m : Makes FrameEnv View monoid_of (Next p inputs) (costs p inputs) s n s') → (let f = m.frame in Settles s' d w n f.deeds m.ask d')
        → Chooses s d (Run (suc w)) Did s' d'
    waits : (w : ℕ) (n : Name) (f : Frame FrameEnv) → slice_get d.hands w ≡ Some (Some n) → Stands s n f Sync → ¬ (BlockIsOver s n) → Chooses s d (Run (suc w)) Waited s (idle (record d { waiting = n ∷ d.waiting }) w)
    steals : (w k : ℕ) (n : Name) (s' : State FrameEnv View) → slice_get d.hands w ≡ Some None → ¬ (IsOver s) → slice_get (all_offered d.offered) k ≡ Some n → Steals FrameEnv View monoid_of (Next p inputs) (costs p inputs) s n s'
        → Chooses s d (Steal (suc w) k) Stole s' (holds (record d { offered = withdrawn d.offered n }) w n)
    skips : (c : Choice) → IsSkipped s d c → Chooses s d c Skipped s d

  -- a choice that stops the run
  abbrev pub StopsAt : State FrameEnv View → WorkerTable → Choice → State FrameEnv View → Type 0
  StopsAt s d (Run zero) s' = ⊥
  StopsAt s d (Run (suc w)) s' = (n : Name) × (slice_get d.hands w ≡ Some (Some n)) × Stops FrameEnv View monoid_of (Next p inputs) (costs p inputs) s n s'
  StopsAt s d (Steal w k) s' = ⊥
