use Rattle.cilk_trace.proofs.OpenedOrder.{opened_is_greater}
use Rattle.cilk_trace.proofs.interval_laws.opened_is_greater.Goals as goal

pub returns : goal.returns
returns c = opened_is_greater
