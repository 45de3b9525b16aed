use Rattle.cilk_program.proofs.Reached.{is_reached}
use Rattle.cilk_program.proofs.agreement.elision_is_reached.Goals as goal

pub returns : goal.returns
returns c = is_reached
