-- The run that a machine shows.
use Rattle.std.specs.Prelude.{ℕ, ℤ, List}
use Rattle.cilk_program.specs.Syntax.{Source}
use Rattle.cilk_lower.specs.Code.{CodeView}
use Rattle.cilk_determinacy.specs.Machine.{State}
use Rattle.cilk_determinacy.specs.Runs.{Name}
use Rattle.cilk_determinacy.specs.Reducers.{View}
use Rattle.cilk_determinacy.specs.Steps.{Reaches}
use Rattle.cilk_determinacy.specs.FrameEnvs.{FrameEnv}
use Rattle.cilk_scheduler.specs.Schedulers.{Tells}
use Rattle.cilk_scheduler.specs.declared.scheduler.Scheduler.{Scheduler}
use Rattle.cilk_schedule.specs.Showing.{ShowsRun}
use Rattle.cilk_schedule.specs.declared.showing.Shown.{Shown}
use Rattle.cilk_lower.specs.Behaves.{IsCodeOf}

-- The run shown is right for every reachable state, of the program on the inputs, that the
-- scheduler records. Such a state is the one that the scheduler shows, the one that a fault
-- stopped, or, out of memory, the one before.
abbrev pub ShowsReached : CodeView → List ℤ → Scheduler → Shown → Type 0
ShowsReached code inputs b shown =
    (p : Source) (steps : List Name) (name : ℕ → Name) (s : State FrameEnv View) → IsCodeOf p code → Reaches p inputs steps s → Tells code p inputs name b s → ShowsRun p name s shown
