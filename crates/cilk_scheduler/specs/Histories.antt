-- Invariants of reachable states: each frame did what it requested, deed by deed, and totals are
-- within their limits.
use Rattle.std.specs.Prelude.{◌≡◌, ◌≤◌, true, IsTrue, ℤ, List, [], ◌∷◌, ◌++◌, Some, None}
use Rattle.cilk_types.specs.declared.fault.Fault.{Fault}
use Rattle.cilk_program.specs.Syntax.{Source}
use Rattle.cilk_program.specs.WellNamed.{is_well_named}
use Rattle.cilk_determinacy.specs.Costs.{Total}
use Rattle.cilk_determinacy.specs.Machine.{Frame, State, Steps}
use Rattle.cilk_determinacy.specs.Progress.{Answers}
use Rattle.cilk_determinacy.specs.Runs.{Name, Ask, Pass, Fail, Begin, Resume, Deed}
use Rattle.cilk_determinacy.specs.FrameEnvMachine.{costs, next}
use Rattle.cilk_determinacy.specs.Reducers.{View, monoid_of}
use Rattle.cilk_determinacy.specs.Steps.{Next, IsFirst, OneStep, Reaches}
use Rattle.cilk_determinacy.specs.FrameEnvs.{FrameEnv}
use Rattle.cilk_scheduler.specs.declared.choice.Choice.{Choice}
use Rattle.cilk_scheduler.specs.Schedulers.{is_resuming}
use Rattle.cilk_scheduler.specs.WorkerTables.{WorkerTable, Chooses, Comes}

-- A frame that meets no fault begins exactly where it has done nothing, and resumes exactly where
-- it has just started a child.
pub record BeginsAndResumes (deeds : List (Deed FrameEnv)) (a : Ask FrameEnv) : Type 0 where
  pub begins : a ≡ Pass Begin → deeds ≡ []
  pub begins_there : deeds ≡ [] → a ≡ Pass Begin
  pub resumes : a ≡ Pass Resume → is_resuming deeds ≡ true
  pub resumes_there : is_resuming deeds ≡ true → a ≡ Pass Resume

module _ (p : Source) (inputs : List ℤ) where
  -- the deed answers what the frame requests after its earlier deeds
  abbrev pub IsAnswered : FrameEnv → List (Deed FrameEnv) → Deed FrameEnv → Type 0
  IsAnswered w past d = (a : Ask FrameEnv) × (next p inputs w past ≡ Some a) × Answers d a

  -- after these deeds, so does each of those
  abbrev pub AreAnswered : FrameEnv → List (Deed FrameEnv) → List (Deed FrameEnv) → Type 0
  AreAnswered w past [] = Unit {0}
  AreAnswered w past (d ∷ ds) = IsAnswered w past d × AreAnswered w (past ++ d ∷ []) ds

  -- each frame did what it requested
  abbrev pub DidAsAsked : State FrameEnv View → Type 0
  DidAsAsked s = (n : Name) (f : Frame FrameEnv) → s.frames n ≡ Some f → AreAnswered f.what [] f.deeds

  -- Frames do what they request in each reachable state, so they begin and resume where they must.
  pub record FramesDoAsAsked : Type 0 where
    pub opens : (s : State FrameEnv View) → IsFirst p inputs s → DidAsAsked s
    pub keeps : (s s' : State FrameEnv View) (n : Name) → DidAsAsked s → OneStep p inputs s n s' → DidAsAsked s'
    pub reached : (ns : List Name) (s : State FrameEnv View) → Reaches p inputs ns s → DidAsAsked s
    pub order : (s : State FrameEnv View) (n : Name) (f : Frame FrameEnv) (a : Ask FrameEnv) → DidAsAsked s → s.frames n ≡ Some f → next p inputs f.what f.deeds ≡ Some a
        → ((x : Fault) → a ≡ Fail x → ⊥) → BeginsAndResumes f.deeds a

  -- ticks, events, frames and cells are within the limits of a run
  abbrev pub AreWithin : State FrameEnv View → Type 0
  AreWithin s = let C = costs p inputs in (total : Total) → s.totals total ≤ C.limit total

  -- They are in each reachable state, if each name of the program means something.
  pub record TotalsStayWithin : Type 0 where
    pub opens : (s : State FrameEnv View) → IsTrue (is_well_named p) → IsFirst p inputs s → AreWithin s
    pub keeps : (s s' : State FrameEnv View) (n : Name) → AreWithin s → OneStep p inputs s n s' → AreWithin s'
    pub reached : (ns : List Name) (s : State FrameEnv View) → IsTrue (is_well_named p) → Reaches p inputs ns s → AreWithin s

  -- While nothing has stopped the run, a choice is one step of the free machine or none. So what
  -- holds of reachable states holds after choices.
  pub record ChoicesAreSteps : Type 0 where
    pub steps : (s s' : State FrameEnv View) (d d' : WorkerTable) (c : Choice) (t : Comes) → s.stopped ≡ None → Chooses p inputs s d c t s' d' → (ns : List Name) × Steps FrameEnv View monoid_of (Next p inputs) (costs p inputs) ns s s'
    pub reached : (ns : List Name) (s s' : State FrameEnv View) (d d' : WorkerTable) (c : Choice) (t : Comes) → s.stopped ≡ None → Reaches p inputs ns s → Chooses p inputs s d c t s' d' → (ms : List Name) × Reaches p inputs ms s'
    pub asked : (s s' : State FrameEnv View) (d d' : WorkerTable) (c : Choice) (t : Comes) → s.stopped ≡ None → DidAsAsked s → Chooses p inputs s d c t s' d' → DidAsAsked s'
    pub within : (s s' : State FrameEnv View) (d d' : WorkerTable) (c : Choice) (t : Comes) → s.stopped ≡ None → AreWithin s → Chooses p inputs s d c t s' d' → AreWithin s'
