-- Schedulers that show a reachable state of the free machine.
use Rattle.std.specs.Prelude.{ℕ, ℤ, List, []}
use Rattle.cilk_program.specs.Syntax.{Source}
use Rattle.cilk_lower.specs.Behaves.{Behaves}
use Rattle.cilk_lower.specs.Code.{CodeView}
use Rattle.cilk_determinacy.specs.Machine.{State}
use Rattle.cilk_determinacy.specs.Runs.{Name}
use Rattle.cilk_determinacy.specs.Reducers.{View}
use Rattle.cilk_determinacy.specs.Steps.{IsFirst, Reaches}
use Rattle.cilk_determinacy.specs.FrameEnvs.{FrameEnv}
use Rattle.cilk_scheduler.specs.Acting.{IsShown}
use Rattle.cilk_scheduler.specs.Schedulers.{ShowsBy}
use Rattle.cilk_scheduler.specs.WorkerTables.{Chooses, Comes, WorkerTable, Did, Skipped, Stole, Waited}
use Rattle.cilk_scheduler.specs.GoneOn.{HaveGoneOn}
use Rattle.cilk_scheduler.specs.Openings.{first_worker_table}
use Rattle.cilk_scheduler.specs.Parents.{AreStarted, OutliveChildren}
use Rattle.cilk_scheduler.specs.declared.scheduler.Scheduler.{Scheduler}
use Rattle.cilk_scheduler.specs.declared.choice.Choice.{Choice}
use Rattle.cilk_scheduler.specs.declared.choice.Told.{Told}
use Rattle.cilk_scheduler.specs.declared.choice.Told.TheVariants as told

module _ (code : CodeView) (p : Source) (inputs : List ℤ) where
  -- The scheduler shows this state, which keeps what each reachable state keeps: frames did what
  -- they requested, outlive their children, continued after each child that they spawned, and run
  -- what was started under their names.
  pub record IsReached (name : ℕ → Name) (b : Scheduler) (d : WorkerTable) (s : State FrameEnv View) : Type 0 where
    pub behaves : Behaves p code
    pub shown : IsShown code p inputs name b d s
    pub outlive : OutliveChildren s
    pub behind : HaveGoneOn s
    pub started : AreStarted p s

  -- A choice keeps this, for the scheduler that shows the state after it.
  abbrev pub ChoicesLeadOn : Type 0
  ChoicesLeadOn =
      (name name' : ℕ → Name) (b b' : Scheduler) (d d' : WorkerTable) (s s' : State FrameEnv View) (c : Choice) (t : Comes) → IsReached name b d s → Chooses p inputs s d c t s' d' → ShowsBy code p inputs name' b' d' s' → IsReached name' b' d' s'

-- The scheduler shows a reachable state of the program on the inputs.
pub record HasReached (code : CodeView) (p : Source) (inputs : List ℤ) (b : Scheduler) : Type 0 where
  pub steps : List Name
  pub state : State FrameEnv View
  pub reaches : Reaches p inputs steps state
  pub name : ℕ → Name
  pub worker_table : WorkerTable
  pub shows : ShowsBy code p inputs name b worker_table state

-- the result of a choice, in the rules of choices by names
abbrev pub comes_of : Told → Comes
comes_of (told.Did act) = Did
comes_of told.Stole = Stole
comes_of told.Waits = Waited
comes_of told.Skipped = Skipped

-- If a scheduler shows a reachable state, so does the next one, and the choice by names leads from
-- the one state to the other.
abbrev pub LeadsOn : CodeView → Source → List ℤ → Scheduler → Scheduler → Choice → Told → Type 0
LeadsOn code p inputs b b' c t = (h : HasReached code p inputs b) → (h' : HasReached code p inputs b') × Chooses p inputs h.state h.worker_table c (comes_of t) h'.state h'.worker_table

-- The scheduler shows the opening state: the first worker holds the first frame, and `idle` others
-- are idle.
pub record HasOpened (code : CodeView) (p : Source) (inputs : List ℤ) (b : Scheduler) (idle : ℕ) : Type 0 where
  pub state : State FrameEnv View
  pub first : IsFirst p inputs state
  pub shows : ShowsBy code p inputs (λ n. []) b (first_worker_table idle) state
