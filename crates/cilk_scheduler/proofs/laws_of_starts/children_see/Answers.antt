use Rattle.cilk_scheduler.proofs.Starting.{children_see}
use Rattle.cilk_scheduler.proofs.laws_of_starts.children_see.Goals as goal

pub returns : goal.returns
returns c = children_see
