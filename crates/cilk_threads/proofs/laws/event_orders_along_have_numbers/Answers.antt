use Rattle.cilk_threads.proofs.NumbersAlong.{event_orders_have_numbers}
use Rattle.cilk_threads.proofs.laws.event_orders_along_have_numbers.Goals as goal

pub returns : goal.returns
returns c = event_orders_have_numbers
