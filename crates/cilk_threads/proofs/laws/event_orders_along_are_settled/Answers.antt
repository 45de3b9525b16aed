use Rattle.cilk_threads.proofs.AlongSettled.{along_settled}
use Rattle.cilk_threads.proofs.laws.event_orders_along_are_settled.Goals as goal

pub returns : goal.returns
returns c = along_settled
