use Rattle.cilk_thread_tests.specs.Others.{turns_on}
use Rattle.cilk_thread_tests.proofs.others.turns_yard.Given as goal

abbrev pub ghost-new : goal.ghost-new
ghost-new a = turns_on
