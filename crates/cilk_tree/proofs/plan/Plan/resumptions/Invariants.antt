use Rattle.cilk_tree.proofs.Resuming.{SoFar}
use Rattle.cilk_tree.proofs.plan.Plan.resumptions.Given as goal

abbrev pub invariant-loop-behind : goal.invariant-loop-behind
invariant-loop-behind l = SoFar l.self l.behind l.column.items
