use Rattle.cilk_determinacy.proofs.ClosedCuts.{cuts_closed}
use Rattle.cilk_determinacy.proofs.positions.cuts_are_closed.Goals as goal

pub returns : goal.returns
returns c = cuts_closed
