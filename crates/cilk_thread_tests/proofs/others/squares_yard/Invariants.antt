use Rattle.cilk_thread_tests.specs.Others.{squares_on}
use Rattle.cilk_thread_tests.proofs.others.squares_yard.Given as goal

abbrev pub ghost-new : goal.ghost-new
ghost-new a = squares_on
