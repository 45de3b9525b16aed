use Rattle.cilk_replay.proofs.RunsEnd.{inputs_run_along as law}
use Rattle.cilk_replay.proofs.laws.inputs_run_along.Goals as goal

pub returns : goal.returns
returns c = law
