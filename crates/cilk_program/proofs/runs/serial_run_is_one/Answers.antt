use Rattle.cilk_program.proofs.Uniqueness.{serial_run_is_one}
use Rattle.cilk_program.proofs.runs.serial_run_is_one.Goals as goal

pub returns : goal.returns
returns c = serial_run_is_one
