use Rattle.cilk_program.proofs.Uniqueness.{serial_run_exists}
use Rattle.cilk_program.proofs.runs.serial_run_exists.Goals as goal

pub returns : goal.returns
returns c = serial_run_exists
