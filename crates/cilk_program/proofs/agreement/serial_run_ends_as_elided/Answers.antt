use Rattle.cilk_program.proofs.Roots.{ends_as_elided}
use Rattle.cilk_program.proofs.agreement.serial_run_ends_as_elided.Goals as goal

pub returns : goal.returns
returns c = ends_as_elided
