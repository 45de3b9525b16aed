use Rattle.cilk_replay.proofs.OneRun.{runs_are_one}
use Rattle.cilk_replay.proofs.laws.serial_runs_are_one.Goals as goal

pub returns : goal.returns
returns types c = λ M next same. runs_are_one _ _ M next same
