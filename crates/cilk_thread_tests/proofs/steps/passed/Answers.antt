use Rattle.cilk_thread_tests.proofs.steps.passed.Goals as goal

pub pass-requires-clause-next : goal.pass-requires-clause-next
pass-requires-clause-next c = (c.may_pass.ensures.0 c.if-may_pass.true, c.requires.asked)
