use Rattle.cilk_scheduler.proofs.RunsEnd.{runs_end}
use Rattle.cilk_scheduler.proofs.laws_of_ends.runs_end.Goals as goal

pub returns : goal.returns
returns c = runs_end
