use Rattle.cilk_plan.proofs.yards.yard_of.Given as goal

abbrev pub ghost-with_resumptions : goal.ghost-with_resumptions
ghost-with_resumptions g a = g.along
