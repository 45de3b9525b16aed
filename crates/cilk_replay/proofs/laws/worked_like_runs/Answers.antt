use Rattle.cilk_replay.proofs.WorkedLikeRuns.{worked_like_runs as law}
use Rattle.cilk_replay.proofs.laws.worked_like_runs.Goals as goal

pub returns : goal.returns
returns c = law
