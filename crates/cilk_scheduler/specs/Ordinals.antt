-- The children of a frame are numbered from 1 on, in each reachable state.
use Rattle.std.specs.Prelude.{◌≡◌, ◌<◌, ◌≤◌, ℕ, suc, ℤ, List, [], ◌∷◌, ◌++◌, Some, None}
use Rattle.cilk_program.specs.Syntax.{Source}
use Rattle.cilk_determinacy.specs.Machine.{Frame, Frames, State, deeds_at, started}
use Rattle.cilk_determinacy.specs.Runs.{Name}
use Rattle.cilk_determinacy.specs.Reducers.{View}
use Rattle.cilk_determinacy.specs.Steps.{IsFirst, OneStep, Reaches}
use Rattle.cilk_determinacy.specs.FrameEnvs.{FrameEnv}

-- each child has an ordinal from 1 to the number of frames that its parent has started
abbrev pub AreCounted : Frames FrameEnv → Type 0
AreCounted frames = (n : Name) (q : ℕ) (f : Frame FrameEnv) → frames (n ++ q ∷ []) ≡ Some f → (0 < q) × (q ≤ started (deeds_at (frames n)))

module _ (p : Source) (inputs : List ℤ) where
  -- They have in each reachable state, so a frame's next child isn't there yet.
  pub record ChildrenAreCounted : Type 0 where
    pub opens : (s : State FrameEnv View) → IsFirst p inputs s → AreCounted s.frames
    pub keeps : (s s' : State FrameEnv View) (n : Name) → AreCounted s.frames → OneStep p inputs s n s' → AreCounted s'.frames
    pub reached : (ns : List Name) (s : State FrameEnv View) → Reaches p inputs ns s → AreCounted s.frames
    pub fresh : (s : State FrameEnv View) (n : Name) (f : Frame FrameEnv) → AreCounted s.frames → s.frames n ≡ Some f → s.frames (n ++ suc (started f.deeds) ∷ []) ≡ None
