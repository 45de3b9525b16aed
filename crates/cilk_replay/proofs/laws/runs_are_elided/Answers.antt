use Rattle.cilk_replay.proofs.Elided.{runs_are_elided as law}
use Rattle.cilk_replay.proofs.laws.runs_are_elided.Goals as goal

pub returns : goal.returns
returns c = law
