use Rattle.cilk_determinacy.proofs.Determinate.{ticks_add_up}
use Rattle.cilk_determinacy.proofs.laws.ticks_add_up.Goals as goal

pub returns : goal.returns
returns c = ticks_add_up
