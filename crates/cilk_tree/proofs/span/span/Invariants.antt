use Rattle.cilk_tree.proofs.Spans.{At}
use Rattle.cilk_tree.proofs.span.span.Given as goal

abbrev pub invariant-loop-place : goal.invariant-loop-place
invariant-loop-place l = At l.tree l.place l.spans

abbrev pub decreases-loop-place : goal.decreases-loop-place
decreases-loop-place l = l.place
