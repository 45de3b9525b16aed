use Rattle.cilk_tree.proofs.Backward.{At}
use Rattle.cilk_tree.proofs.building.tree_of_marks.Given as goal

abbrev pub invariant-loop-place : goal.invariant-loop-place
invariant-loop-place l = At l.marks l.place l.building

abbrev pub decreases-loop-place : goal.decreases-loop-place
decreases-loop-place l = l.place
