use Rattle.cilk_tree.proofs.AlongPlans.{along_orderly}
use Rattle.cilk_tree.proofs.along.event_orders_along_are_orderly.Goals as goal

pub returns : goal.returns
returns c = along_orderly
