-- The worked event orders, computed.
use Rattle.std.proofs.Common.{refl}
use Rattle.cilk_replay.specs.Worked.{WorkedEventOrders}

pub worked_event_orders : WorkedEventOrders
worked_event_orders = record { own = refl; none = (refl, refl); two = (refl, refl) }
