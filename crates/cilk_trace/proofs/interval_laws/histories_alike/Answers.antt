use Rattle.cilk_trace.proofs.KeptPositions.{histories_alike}
use Rattle.cilk_trace.proofs.interval_laws.histories_alike.Goals as goal

pub returns : goal.returns
returns c = histories_alike
