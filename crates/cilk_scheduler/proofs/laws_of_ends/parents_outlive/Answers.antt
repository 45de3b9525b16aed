use Rattle.cilk_scheduler.proofs.Parents.{parents_outlive}
use Rattle.cilk_scheduler.proofs.laws_of_ends.parents_outlive.Goals as goal

pub returns : goal.returns
returns c = parents_outlive
