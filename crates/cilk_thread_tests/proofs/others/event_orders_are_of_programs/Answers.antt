use Rattle.cilk_thread_tests.proofs.Programs.{event_orders_are_of_programs as law}
use Rattle.cilk_thread_tests.proofs.others.event_orders_are_of_programs.Goals as goal

pub returns : goal.returns
returns c = law
