use Rattle.cilk_scheduler.specs.Parts.{working}
use Rattle.cilk_scheduler.proofs.Parts.{altered_at}
use Rattle.cilk_schedule.proofs.Quieting.{moved}
use Rattle.cilk_schedule.proofs.ending.hold.Goals as goal

pub returns-clause-quiet : goal.returns-clause-quiet
returns-clause-quiet c = moved _ _ _ _ c.requires.here c.move_to.ensures

pub returns-clause-has : goal.returns-clause-has
returns-clause-has c = altered_at (working c.args.frame) c.args.workers.now.items c.args.worker c.index_mut.result.now c.index_mut.ensures.value c.requires.works
