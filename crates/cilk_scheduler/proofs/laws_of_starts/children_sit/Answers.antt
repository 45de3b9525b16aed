use Rattle.cilk_scheduler.proofs.Starting.{children_sit}
use Rattle.cilk_scheduler.proofs.laws_of_starts.children_sit.Goals as goal

pub returns : goal.returns
returns c = children_sit
