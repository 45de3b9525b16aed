use Rattle.cilk_determinacy.proofs.Assembled.{counts_as_serial}
use Rattle.cilk_determinacy.proofs.laws.totals_are_serial.Goals as goal

pub returns : goal.returns
returns c = counts_as_serial
