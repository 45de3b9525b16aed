use Rattle.cilk_scheduler.proofs.NewSchedulers.{schedulers_are_new}
use Rattle.cilk_scheduler.proofs.laws_of_parts.schedulers_are_new.Goals as goal

pub returns : goal.returns
returns c = schedulers_are_new
