use Rattle.cilk_scheduler.specs.Parts.{freed}
use Rattle.cilk_scheduler.proofs.Parts.{altered_at}
use Rattle.cilk_schedule.proofs.arrivals.leave.Goals as goal

pub returns-clause-has : goal.returns-clause-has
returns-clause-has c = altered_at freed c.args.workers.now.items c.args.worker c.index_mut.result.now c.index_mut.ensures.value c.requires
