use Rattle.cilk_tree.specs.Placing.{Met}
use Rattle.cilk_tree.proofs.blocks.blocks_of.Given as goal

abbrev pub invariant-each : goal.invariant-each
invariant-each l = Met l.plan l.met l.pass
