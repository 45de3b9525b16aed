use Rattle.std.proofs.Common.{map}
use Rattle.cilk_tree.specs.Marks.{mark_of}
use Rattle.cilk_tree.proofs.Backward.{At}
use Rattle.cilk_tree.proofs.building.tree_of.Given as goal

abbrev pub invariant-loop-place : goal.invariant-loop-place
invariant-loop-place l = At (map mark_of l.trace) l.place l.building

abbrev pub decreases-loop-place : goal.decreases-loop-place
decreases-loop-place l = l.place
