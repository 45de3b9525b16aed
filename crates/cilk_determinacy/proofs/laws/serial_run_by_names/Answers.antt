use Rattle.cilk_determinacy.proofs.Determinate.{serial_by_names}
use Rattle.cilk_determinacy.proofs.laws.serial_run_by_names.Goals as goal

pub returns : goal.returns
returns c = serial_by_names
