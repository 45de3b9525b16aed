use Rattle.cilk_determinacy.proofs.Numbers.{one_to_one}
use Rattle.cilk_determinacy.proofs.events.numbers_are_one_to_one.Goals as goal

pub returns : goal.returns
returns c = one_to_one
