use Rattle.cilk_replay.proofs.AskedEventOrders.{asked_throughout}
use Rattle.cilk_replay.proofs.laws.asked_event_orders_are_of_asked_courses.Goals as goal

pub returns : goal.returns
returns types c = asked_throughout _
