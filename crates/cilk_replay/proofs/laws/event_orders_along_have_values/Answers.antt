use Rattle.cilk_replay.proofs.EventOrderValues.{event_orders_have_values}
use Rattle.cilk_replay.proofs.laws.event_orders_along_have_values.Goals as goal

pub returns : goal.returns
returns c = event_orders_have_values
