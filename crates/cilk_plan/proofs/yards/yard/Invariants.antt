use Rattle.cilk_plan.proofs.yards.yard.Given as goal

abbrev pub ghost-tell : goal.ghost-tell
ghost-tell a = a.plan.now.run

abbrev pub ghost-yard_of : goal.ghost-yard_of
ghost-yard_of a = λ _. a.told.now.event_order
