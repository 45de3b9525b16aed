use Rattle.cilk_replay.proofs.EventOrderValues.{own_event_order as own}
use Rattle.cilk_replay.proofs.laws.own_event_order.Goals as goal

pub returns : goal.returns
returns c = own
