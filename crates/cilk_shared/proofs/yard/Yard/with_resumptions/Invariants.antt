use Rattle.cilk_shared.proofs.yard.Yard.with_resumptions.Given as goal

abbrev pub ghost-of : goal.ghost-of
ghost-of g a = g.along
