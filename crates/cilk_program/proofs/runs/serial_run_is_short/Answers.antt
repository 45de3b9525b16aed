use Rattle.cilk_program.proofs.Existence.{serial_run_is_short}
use Rattle.cilk_program.proofs.runs.serial_run_is_short.Goals as goal

pub returns : goal.returns
returns c = serial_run_is_short
