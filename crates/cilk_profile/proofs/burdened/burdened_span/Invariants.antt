use Rattle.cilk_profile.proofs.Weights.{At}
use Rattle.cilk_profile.specs.declared.burdened.TheConstants.{BURDEN}
use Rattle.cilk_profile.proofs.burdened.burdened_span.Given as goal

abbrev pub invariant-loop-place : goal.invariant-loop-place
invariant-loop-place l = At BURDEN l.tree l.place l.spans

abbrev pub decreases-loop-place : goal.decreases-loop-place
decreases-loop-place l = l.place
