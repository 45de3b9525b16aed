use Rattle.cilk_trace.proofs.OpenedSorted.{opened_is_sorted}
use Rattle.cilk_trace.proofs.interval_laws.opened_is_sorted.Goals as goal

pub returns : goal.returns
returns c = opened_is_sorted
