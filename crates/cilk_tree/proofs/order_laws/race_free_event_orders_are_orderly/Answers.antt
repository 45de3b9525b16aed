use Rattle.cilk_tree.proofs.Orderly.{event_orders_are_orderly}
use Rattle.cilk_tree.proofs.order_laws.race_free_event_orders_are_orderly.Goals as goal

pub returns : goal.returns
returns c = event_orders_are_orderly
