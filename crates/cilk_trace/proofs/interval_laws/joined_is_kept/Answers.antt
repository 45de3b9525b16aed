use Rattle.cilk_trace.proofs.Joined.{joined_is_kept}
use Rattle.cilk_trace.proofs.interval_laws.joined_is_kept.Goals as goal

pub returns : goal.returns
returns c = joined_is_kept
