use Rattle.cilk_trace.proofs.Prefix.{opened_is_parallel}
use Rattle.cilk_trace.proofs.interval_laws.opened_is_parallel.Goals as goal

pub returns : goal.returns
returns c = opened_is_parallel
