-- A frame continues after each child that it spawned, in each reachable state.
use Rattle.std.specs.Prelude.{◌≡◌, ◌⊎◌, true, ℤ, List, ◌∷◌, ◌++◌, Some, None}
use Rattle.cilk_types.specs.declared.invocation.Invocation.TheVariants.{Spawn}
use Rattle.cilk_program.specs.Syntax.{Source}
use Rattle.cilk_determinacy.specs.Machine.{Frame, State, deeds_at}
use Rattle.cilk_determinacy.specs.Progress.{GoesOn, HasEnded, child_after}
use Rattle.cilk_determinacy.specs.Runs.{Name, Deed, Invokes}
use Rattle.cilk_determinacy.specs.Reducers.{View}
use Rattle.cilk_determinacy.specs.Steps.{IsFirst, OneStep, Reaches}
use Rattle.cilk_determinacy.specs.FrameEnvs.{FrameEnv}
use Rattle.cilk_scheduler.specs.declared.choice.Choice.{Choice}
use Rattle.cilk_scheduler.specs.WorkerTables.{WorkerTable, Chooses, Comes}

-- Each child that frame n spawned has ended, or the continuation beside it was stolen.
abbrev pub WentOnBehind : State FrameEnv View → Name → List (Deed FrameEnv) → Type 0
WentOnBehind s n deeds = (before after : List (Deed FrameEnv)) (what : FrameEnv) → deeds ≡ before ++ Invokes Spawn what ∷ after → HasEnded FrameEnv View s (child_after n before) ⊎ (s.stolen (child_after n before) ≡ true)

-- This holds of each child that a frame spawned before its last deed, for each frame.
abbrev pub HaveGoneOn : State FrameEnv View → Type 0
HaveGoneOn s =
    (n : Name) (f : Frame FrameEnv) → s.frames n ≡ Some f → (before after : List (Deed FrameEnv)) (what : FrameEnv) (d : Deed FrameEnv) → f.deeds ≡ before ++ Invokes Spawn what ∷ d ∷ after
    → HasEnded FrameEnv View s (child_after n before) ⊎ (s.stolen (child_after n before) ≡ true)

module _ (p : Source) (inputs : List ℤ) where
  -- It holds in each state that steps or choices lead to. A frame that continues has continued
  -- after its last child too.
  pub record FramesGoOnBehind : Type 0 where
    pub opens : (s : State FrameEnv View) → IsFirst p inputs s → HaveGoneOn s
    pub keeps : (s s' : State FrameEnv View) (n : Name) → HaveGoneOn s → OneStep p inputs s n s' → HaveGoneOn s'
    pub reached : (ns : List Name) (s : State FrameEnv View) → Reaches p inputs ns s → HaveGoneOn s
    pub chosen : (s s' : State FrameEnv View) (d d' : WorkerTable) (c : Choice) (t : Comes) → s.stopped ≡ None → HaveGoneOn s → Chooses p inputs s d c t s' d' → HaveGoneOn s'
    pub behind : (s : State FrameEnv View) (n : Name) → HaveGoneOn s → GoesOn FrameEnv View s n (deeds_at (s.frames n)) → WentOnBehind s n (deeds_at (s.frames n))
