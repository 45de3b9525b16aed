use Rattle.std.proofs.Common.{arith, ap, ◌∙◌, length, refl}
use Rattle.cilk_labels.proofs.Walks.{walked_next, walked_all}
use Rattle.cilk_labels.proofs.label.Goals as goal

pub loop-node-init : goal.loop-node-init
loop-node-init c = record {
  numbered = rw c.new-numbers.ensures.items (rw c.in_ok-push.ensures (rw c.new-starts.ensures refl));
  few = let e = c.new-numbers.ensures.len in omega (arith, e);
}

pub loop-node-preserved : goal.loop-node-preserved
loop-node-preserved c = walked_next _ _ _ _ _ _ _ _ _ c.loop-node.invariant c.loop-node-test.true c.in_ok-visit.ensures.numbered c.in_ok-visit.ensures.grows

pub invariant_of-result : goal.invariant_of-result
invariant_of-result c =
    let p = c.loop-node.invariant.few in
    let q = c.loop-node.auto.node-index-end in
    let e = ap (λ (l : _). length l) c.as_slice-node-items.ensures.nodes in
    let f = c.as_slice-node-items.ensures.few in
    omega (arith, p, q, e, f)

pub returns : goal.returns
returns c = λ t e.
    walked_all t _ _ _ _ _ c.loop-node.invariant c.loop-node-test.false
    (let k = ap (λ (l : _). length l) c.as_slice-node-items.ensures.nodes in let f = c.as_slice-node-items.ensures.few in omega (arith, k, f))
    (c.as_slice-node-items.ensures.nodes ∙ e)
