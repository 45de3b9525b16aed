use Rattle.cilk_helpers.proofs.Goings.{runs_are_retold}
use Rattle.cilk_helpers.proofs.laws.runs_are_retold.Goals as goal

pub returns : goal.returns
returns c = runs_are_retold
