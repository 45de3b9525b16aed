use Rattle.cilk_replay.proofs.OneRun.{named_runs_are_serial as law}
use Rattle.cilk_replay.proofs.laws.named_runs_are_serial.Goals as goal

pub returns : goal.returns
returns c = law
