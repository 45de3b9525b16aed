use Rattle.cilk_trace.proofs.OpenedOrder.{others_are_less}
use Rattle.cilk_trace.proofs.interval_laws.others_are_less.Goals as goal

pub returns : goal.returns
returns c = others_are_less
