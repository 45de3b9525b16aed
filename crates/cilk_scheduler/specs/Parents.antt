-- Invariants of reachable states: frames outlive their children, and each was started under its own
-- name.
use Rattle.std.specs.Prelude.{◌≡◌, ◌⊎◌, true, false, ℤ, List, [], ◌∷◌, ◌++◌, Some, None}
use Rattle.cilk_types.specs.declared.invocation.Invocation.{Invocation}
use Rattle.cilk_types.specs.declared.invocation.Invocation.TheVariants.{Spawn}
use Rattle.cilk_program.specs.Syntax.{Source}
use Rattle.cilk_determinacy.specs.Machine.{Frame, State}
use Rattle.cilk_determinacy.specs.Progress.{HasEnded, HasNoSync, child_after}
use Rattle.cilk_determinacy.specs.Runs.{Name, Deed, Invokes}
use Rattle.cilk_determinacy.specs.FrameEnvMachine.{has_ended}
use Rattle.cilk_determinacy.specs.Reducers.{View}
use Rattle.cilk_determinacy.specs.Steps.{IsFirst, OneStep, Reaches}
use Rattle.cilk_determinacy.specs.FrameEnvs.{FrameEnv, Sight, env_of}
use Rattle.cilk_scheduler.specs.Histories.{DidAsAsked}
use Rattle.cilk_scheduler.specs.Ordinals.{AreCounted}

-- Frame m started a child after these deeds, and hasn't ended. It has done nothing since; or it
-- spawned the child, the continuation was stolen, and it has made no sync since.
pub record GoesBeside (s : State FrameEnv View) (m : Name) (f : Frame FrameEnv) (before : List (Deed FrameEnv)) (how : Invocation) (after : List (Deed FrameEnv)) : Type 0 where
  pub goes : has_ended f.deeds ≡ false
  pub since : (after ≡ []) ⊎ ((how ≡ Spawn) × HasNoSync after × (s.stolen (child_after m before) ≡ true))

pub record OutliveChildren (s : State FrameEnv View) : Type 0 where
  -- Each child has ended, or its parent hasn't and continues beside it.
  pub outlive : (m : Name) (f : Frame FrameEnv) (before : List (Deed FrameEnv)) (how : Invocation) (what : FrameEnv) (after : List (Deed FrameEnv)) → s.frames m ≡ Some f → f.deeds ≡ before ++ Invokes how what ∷ after
      → HasEnded FrameEnv View s (child_after m before) ⊎ GoesBeside s m f before how after
  -- Continuations were stolen only beside spawned children, which exist.
  pub spawned : (m : Name) (f : Frame FrameEnv) (before : List (Deed FrameEnv)) (how : Invocation) (what : FrameEnv) (after : List (Deed FrameEnv)) → s.frames m ≡ Some f → f.deeds ≡ before ++ Invokes how what ∷ after
      → s.stolen (child_after m before) ≡ true → how ≡ Spawn
  pub unstolen : (n : Name) → s.frames n ≡ None → s.stolen n ≡ false
  -- Each child that was started exists, and each that exists was started.
  pub present : (m : Name) (f : Frame FrameEnv) (before : List (Deed FrameEnv)) (how : Invocation) (what : FrameEnv) (after : List (Deed FrameEnv)) → s.frames m ≡ Some f → f.deeds ≡ before ++ Invokes how what ∷ after
      → (g : Frame FrameEnv) × (s.frames (child_after m before) ≡ Some g)
  pub counted : AreCounted s.frames

-- each frame runs what was started under its name
abbrev pub AreStarted : Source → State FrameEnv View → Type 0
AreStarted p s = (n : Name) (f : Frame FrameEnv) → s.frames n ≡ Some f → (sight : Sight) × (let w = f.what in w ≡ env_of p n sight w.callee)

-- each child was started under its parent's name and its ordinal
abbrev pub ChildrenAreNamed : State FrameEnv View → Type 0
ChildrenAreNamed s =
    (m : Name) (f : Frame FrameEnv) (before : List (Deed FrameEnv)) (how : Invocation) (what : FrameEnv) (after : List (Deed FrameEnv)) → s.frames m ≡ Some f → f.deeds ≡ before ++ Invokes how what ∷ after → what.name ≡ child_after m before

module _ (p : Source) (inputs : List ℤ) where
  -- Frames outlive their children in each reachable state.
  pub record ParentsOutlive : Type 0 where
    pub opens : (s : State FrameEnv View) → IsFirst p inputs s → OutliveChildren s
    pub keeps : (s s' : State FrameEnv View) (n : Name) → DidAsAsked p inputs s → OutliveChildren s → OneStep p inputs s n s' → OutliveChildren s'
    pub reached : (ns : List Name) (s : State FrameEnv View) → Reaches p inputs ns s → OutliveChildren s

  -- Each was started under its name, in each reachable state.
  pub record NamesAreKept : Type 0 where
    pub opens : (s : State FrameEnv View) → IsFirst p inputs s → AreStarted p s
    pub keeps : (s s' : State FrameEnv View) (n : Name) → AreStarted p s → OneStep p inputs s n s' → AreStarted p s'
    pub reached : (ns : List Name) (s : State FrameEnv View) → Reaches p inputs ns s → AreStarted p s
    pub children : (s : State FrameEnv View) → DidAsAsked p inputs s → AreStarted p s → ChildrenAreNamed s
