use Rattle.std.proofs.Common.{arith}
use Rattle.cilk_tree.proofs.Spans.{at_first, at_next, at_last}
use Rattle.cilk_tree.proofs.span.span.Goals as goal

pub loop-place-init : goal.loop-place-init
loop-place-init c = at_first _ _ _ c.as_slice-nodes.ensures.nodes c.new-spans.ensures

pub loop-place-preserved : goal.loop-place-preserved
loop-place-preserved c = at_next _ _ _ _ _ _ c.as_slice-nodes.ensures.nodes c.loop-place.invariant c.loop-place-test.true c.in_ok-join.ensures

pub returns-clause-span : goal.returns-clause-span
returns-clause-span c = λ s sp e. at_last _ _ _ s _ _ c.loop-place.invariant c.loop-place-test.false (let l = c.len-most.ensures in let w = l.within in let k = l.events in omega (arith, w, k)) sp e
    (let p = c.pop.ensures.number in let l = c.len-most.ensures.events in let m = c.min.ensures in omega (arith, p, l, m))
