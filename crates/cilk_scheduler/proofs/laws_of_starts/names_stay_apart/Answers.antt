use Rattle.cilk_scheduler.proofs.Starting.{names_stay_apart}
use Rattle.cilk_scheduler.proofs.laws_of_starts.names_stay_apart.Goals as goal

pub returns : goal.returns
returns c = names_stay_apart
