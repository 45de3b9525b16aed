use Rattle.cilk_determinacy.proofs.Determinate.{opens_as_cut}
use Rattle.cilk_determinacy.proofs.laws.opening_is_a_cut.Goals as goal

pub returns : goal.returns
returns c = opens_as_cut
