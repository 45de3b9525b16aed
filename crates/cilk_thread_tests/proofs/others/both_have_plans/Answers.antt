use Rattle.cilk_thread_tests.proofs.OtherRuns.{squares_have_plan, turns_have_plan}
use Rattle.cilk_thread_tests.proofs.others.both_have_plans.Goals as goal

pub returns-clause-squares : goal.returns-clause-squares
returns-clause-squares c = squares_have_plan

pub returns-clause-turns : goal.returns-clause-turns
returns-clause-turns c = turns_have_plan
