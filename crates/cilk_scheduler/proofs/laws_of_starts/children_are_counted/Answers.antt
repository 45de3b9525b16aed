use Rattle.cilk_scheduler.proofs.Ordinals.{children_are_counted}
use Rattle.cilk_scheduler.proofs.laws_of_starts.children_are_counted.Goals as goal

pub returns : goal.returns
returns c = children_are_counted
