use Rattle.cilk_plan.proofs.yards.tell.Given as goal

abbrev pub ghost-of : goal.ghost-of
ghost-of g a = g.run
