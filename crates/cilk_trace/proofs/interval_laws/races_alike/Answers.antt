use Rattle.cilk_trace.proofs.KeptPositions.{races_alike}
use Rattle.cilk_trace.proofs.interval_laws.races_alike.Goals as goal

pub returns : goal.returns
returns c = races_alike
