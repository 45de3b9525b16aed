use Rattle.cilk_determinacy.proofs.Determinate.{cuts_as_serial}
use Rattle.cilk_determinacy.proofs.laws.cuts_are_as_serial.Goals as goal

pub returns : goal.returns
returns c = cuts_as_serial
