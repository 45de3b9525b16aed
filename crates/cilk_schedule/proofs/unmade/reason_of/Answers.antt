use Rattle.std.proofs.Common.{sym, subst}
use Rattle.cilk_scheduler.specs.WorkerTables.{IsSkipped}
use Rattle.cilk_schedule.specs.Strict.{IsWhy}
use Rattle.cilk_schedule.proofs.unmade.reason_of.Goals as goal

pub returns-in-Run : goal.returns-in-Run
returns-in-Run c = λ p is h. subst (λ z. IsSkipped h.state h.worker_table z → IsWhy h.state h.worker_table z c.of_run.result) (sym c.in-Run.is) (c.of_run.ensures p is h)
