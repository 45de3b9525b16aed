use Rattle.std.proofs.Common.{arith, ap, ◌∙◌, length}
use Rattle.cilk_peers.proofs.Walks.{walked_first, walked_next, walked_all}
use Rattle.cilk_peers.proofs.walk.classes.Goals as goal

pub loop-node-init : goal.loop-node-init
loop-node-init c = walked_first _ _ _ _ _ c.new-numbers.ensures.items c.new-numbers.ensures.len c.in_ok-push.ensures c.new-waiting.ensures

pub loop-node-preserved : goal.loop-node-preserved
loop-node-preserved c = walked_next _ _ _ _ _ _ _ _ _ c.loop-node.invariant c.loop-node-test.true c.in_ok-visit.ensures.numbered c.in_ok-visit.ensures.grows

pub new-requires : goal.new-requires
new-requires c =
    let p = c.loop-node.invariant.few in
    let q = c.loop-node.auto.node-index-end in
    let e = ap (λ (l : _). length l) c.as_slice-node-items.ensures.nodes in
    let f = c.as_slice-node-items.ensures.few in
    omega (arith, p, q, e, f)

pub returns : goal.returns
returns c = λ t e. c.new.ensures ∙
    walked_all t _ _ _ _ _ c.loop-node.invariant c.loop-node-test.false
    (let k = ap (λ (l : _). length l) c.as_slice-node-items.ensures.nodes in let f = c.as_slice-node-items.ensures.few in omega (arith, k, f))
    (c.as_slice-node-items.ensures.nodes ∙ e)

pub visit-requires : goal.visit-requires
visit-requires c =
    let p = c.loop-node.invariant.few in
    let q = c.loop-node-test.true in
    let e = ap (λ (l : _). length l) c.as_slice-node-items.ensures.nodes in
    let f = c.as_slice-node-items.ensures.few in
    omega (arith, p, q, e, f)
