use Rattle.cilk_shared.proofs.yard.Yard.new.Given as goal

abbrev pub ghost-with_resumptions : goal.ghost-with_resumptions
ghost-with_resumptions g a = g.along
