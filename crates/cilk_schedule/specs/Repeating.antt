-- Choices of one worker, one after another, each of which continues a frame that it holds.
use Rattle.std.specs.Prelude.{◌≡◌, ◌<◌, ℕ, zero, suc, true, ℤ, List, None}
use Rattle.std.specs.Option.{is_some}
use Rattle.cilk_program.specs.Syntax.{Source}
use Rattle.cilk_lower.specs.Behaves.{IsCodeOf}
use Rattle.cilk_lower.specs.Code.{CodeView}
use Rattle.cilk_determinacy.specs.Machine.{State}
use Rattle.cilk_determinacy.specs.Reducers.{View}
use Rattle.cilk_determinacy.specs.FrameEnvs.{FrameEnv}
use Rattle.cilk_scheduler.specs.WorkerTables.{Chooses, Comes, WorkerTable, IsOver}
use Rattle.cilk_scheduler.specs.Workers.{held_by}
use Rattle.cilk_scheduler.specs.declared.scheduler.Scheduler.{Scheduler}
use Rattle.cilk_scheduler.specs.declared.choice.Choice.TheVariants as choices
use Rattle.cilk_scheduler.specs.declared.choice.Stop.{Stop}
use Rattle.cilk_schedule.specs.Faults.{FaultsAreStops, KeepsTold}
use Rattle.cilk_schedule.specs.Playing.{is_busy}
use Rattle.cilk_schedule.specs.Reached.{HasReached}

-- this many lead from a state and a worker table of the free machine to others
abbrev pub Continues : Source → List ℤ → ℕ → ℕ → State FrameEnv View → WorkerTable → State FrameEnv View → WorkerTable → Type 0
Continues p inputs worker zero s d s' d' = (s' ≡ s) × (d' ≡ d)
Continues p inputs worker (suc n) s d s' d' =
    (told : Comes) × (t : State FrameEnv View) × (e : WorkerTable) × Continues p inputs worker n s d t e × ¬ (IsOver t) × (is_busy e worker ≡ true) × Chooses p inputs t e (choices.Run worker) told s' d'

-- they lead from each state that the scheduler showed to one that it shows
abbrev pub RunsOn : CodeView → List ℤ → ℕ → ℕ → Scheduler → Scheduler → Type 0
RunsOn code inputs worker n b b' =
    (p : Source) → IsCodeOf p code → (h : HasReached code p inputs b) → (h' : HasReached code p inputs b') × Continues p inputs worker n h.state h.worker_table h'.state h'.worker_table

-- fewer than `most` are made, and the next one stops the run
pub record RunsInto (code : CodeView) (inputs : List ℤ) (worker most : ℕ) (b b' : Scheduler) (stop : Stop) : Type 0 where
  pub count : ℕ
  pub few : count < most
  pub between : Scheduler
  pub led : RunsOn code inputs worker count b between
  pub going : between.outcome ≡ None
  pub busy : let ws = between.workers in is_some (held_by ws.items worker) ≡ true
  pub faults : FaultsAreStops code inputs between b' (choices.Run worker) stop
  pub kept : KeepsTold between b'
