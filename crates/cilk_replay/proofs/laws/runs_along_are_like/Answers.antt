use Rattle.cilk_replay.proofs.LikeRuns.{along_are_like}
use Rattle.cilk_replay.proofs.laws.runs_along_are_like.Goals as goal

pub returns : goal.returns
returns c = along_are_like
