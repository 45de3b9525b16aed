use Rattle.cilk_determinacy.proofs.CutPositions.{cuts_closed}
use Rattle.cilk_determinacy.proofs.machine_laws.cuts_are_closed.Goals as goal

pub returns : goal.returns
returns types c = cuts_closed _
