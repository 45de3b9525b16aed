use Rattle.cilk_scheduler.proofs.Parents.{names_are_kept}
use Rattle.cilk_scheduler.proofs.laws_of_ends.names_are_kept.Goals as goal

pub returns : goal.returns
returns c = names_are_kept
