use Rattle.cilk_program.proofs.Elisions.{one_elision}
use Rattle.cilk_program.proofs.agreement.elision_is_one.Goals as goal

pub returns : goal.returns
returns c = one_elision
