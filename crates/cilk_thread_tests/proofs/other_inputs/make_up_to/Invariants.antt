use Rattle.cilk_shared.specs.Values.{OfYard}
use Rattle.cilk_thread_tests.proofs.other_inputs.make_up_to.Given as goal

abbrev pub invariant-events : goal.invariant-events
invariant-events l = OfYard l.yard l.segment
