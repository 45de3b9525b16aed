use Rattle.cilk_trace.proofs.OpenedOrder.{first_is_current}
use Rattle.cilk_trace.proofs.interval_laws.first_is_current.Goals as goal

pub returns : goal.returns
returns c = first_is_current
