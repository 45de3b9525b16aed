use Rattle.cilk_trace.proofs.Keeping.{no_trace}
use Rattle.cilk_trace.proofs.laws.no_trace_is_refused.Goals as goal

pub returns : goal.returns
returns c = no_trace
