use Rattle.std.proofs.Common.{arith}
use Rattle.cilk_profile.proofs.Weights.{at_first, at_next, at_last}
use Rattle.cilk_profile.specs.declared.burdened.TheConstants.{BURDEN}
use Rattle.cilk_profile.proofs.burdened.burdened_span.Goals as goal

pub loop-place-init : goal.loop-place-init
loop-place-init c = at_first BURDEN _ _ _ c.as_slice-nodes.ensures.nodes c.new-spans.ensures

pub loop-place-preserved : goal.loop-place-preserved
loop-place-preserved c = at_next BURDEN _ _ _ _ _ _ c.as_slice-nodes.ensures.nodes c.loop-place.invariant c.loop-place-test.true c.in_ok-join.ensures

pub returns : goal.returns
returns c = λ s events sp short e. at_last BURDEN _ _ _ s events _ (omega arith) c.loop-place.invariant c.loop-place-test.false c.as_slice-nodes.ensures.few sp short e c.pop.ensures.number
