use Rattle.cilk_trace.proofs.KeptPositions.{order_is_told}
use Rattle.cilk_trace.proofs.interval_laws.order_is_told.Goals as goal

pub returns : goal.returns
returns c = order_is_told
