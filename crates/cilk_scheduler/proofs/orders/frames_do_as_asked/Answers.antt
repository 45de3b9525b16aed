use Rattle.cilk_scheduler.proofs.Histories.{does_as_asked}
use Rattle.cilk_scheduler.proofs.orders.frames_do_as_asked.Goals as goal

pub returns : goal.returns
returns c = does_as_asked
