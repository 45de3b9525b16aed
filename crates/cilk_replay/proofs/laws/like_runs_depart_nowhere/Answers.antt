use Rattle.cilk_replay.proofs.LikeRuns.{like_departs_nowhere}
use Rattle.cilk_replay.proofs.laws.like_runs_depart_nowhere.Goals as goal

pub returns : goal.returns
returns c = like_departs_nowhere
