use Rattle.cilk_types.proofs.Words.{divides_exactly}
use Rattle.cilk_types.proofs.laws.division_is_exact.Goals as goal

pub returns : goal.returns
returns c = divides_exactly
