use Rattle.cilk_trace.proofs.Segments.{segments_decide}
use Rattle.cilk_trace.proofs.laws.segments_decide.Goals as goal

pub returns : goal.returns
returns c = segments_decide
