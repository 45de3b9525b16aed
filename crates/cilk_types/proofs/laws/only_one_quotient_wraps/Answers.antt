use Rattle.cilk_types.proofs.Words.{divides_within}
use Rattle.cilk_types.proofs.laws.only_one_quotient_wraps.Goals as goal

pub returns : goal.returns
returns c = divides_within
