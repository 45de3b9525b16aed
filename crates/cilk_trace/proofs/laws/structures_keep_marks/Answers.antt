use Rattle.cilk_trace.proofs.Keeping.{keep_marks}
use Rattle.cilk_trace.proofs.laws.structures_keep_marks.Goals as goal

pub returns : goal.returns
returns c = keep_marks
