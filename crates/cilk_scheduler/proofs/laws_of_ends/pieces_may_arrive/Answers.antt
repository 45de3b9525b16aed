use Rattle.cilk_scheduler.proofs.Awaited.{may_arrive}
use Rattle.cilk_scheduler.proofs.laws_of_ends.pieces_may_arrive.Goals as goal

pub returns : goal.returns
returns c = may_arrive
