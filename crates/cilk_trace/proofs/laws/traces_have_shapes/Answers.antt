use Rattle.cilk_trace.proofs.Shapes.{have_shapes}
use Rattle.cilk_trace.proofs.laws.traces_have_shapes.Goals as goal

pub returns : goal.returns
returns c = have_shapes
