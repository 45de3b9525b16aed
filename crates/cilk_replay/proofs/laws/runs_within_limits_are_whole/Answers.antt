use Rattle.cilk_replay.proofs.RunsEnd.{within_limits}
use Rattle.cilk_replay.proofs.laws.runs_within_limits_are_whole.Goals as goal

pub returns : goal.returns
returns c = within_limits
