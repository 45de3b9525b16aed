use Rattle.cilk_determinacy.proofs.Held.{lists_short}
use Rattle.cilk_determinacy.proofs.views.lists_are_short.Goals as goal

pub returns : goal.returns
returns c = lists_short
