-- The event orders that are written out, by computation: `event_orders_are_of_programs`.
use Rattle.std.proofs.Common.{refl}
use Rattle.std.specs.Int.{int_wrap}
use Rattle.cilk_thread_tests.specs.Programs.{EventOrdersAreOfPrograms}

pub event_orders_are_of_programs : EventOrdersAreOfPrograms
unfolding int_wrap
event_orders_are_of_programs = record {
  squares_own = refl;
  squares_four = refl;
  squares_three = refl;
  turns_own = refl;
  turns_none = refl;
  turns_seven = refl;
}
