use Rattle.cilk_scheduler.proofs.Viewing.{viewing_at}
use Rattle.cilk_schedule.proofs.thieves.clear.Goals as goal

pub returns-clause-views : goal.returns-clause-views
returns-clause-views c = (c.new.result, c.new.ensures, viewing_at c.new.result c.args.workers.now.items c.args.worker c.index_mut.result.now c.index_mut.ensures.value c.requires)
