use Rattle.cilk_determinacy.proofs.Determinate.{serial_numbered}
use Rattle.cilk_determinacy.proofs.laws.serial_run_is_numbered.Goals as goal

pub returns : goal.returns
returns c = serial_numbered
