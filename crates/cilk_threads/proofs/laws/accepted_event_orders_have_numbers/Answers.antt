use Rattle.cilk_threads.proofs.NumbersAlong.{accepted_have_numbers}
use Rattle.cilk_threads.proofs.laws.accepted_event_orders_have_numbers.Goals as goal

pub returns : goal.returns
returns c = accepted_have_numbers
