use Rattle.std.proofs.Common.{◌≡◌, ◌+◌, ◌-◌, ◌<◌, ◌/◌, ℕ, List, get_or, set, sum, drop, length, sym, subst, ap, ◌∙◌, arith}
use Rattle.std.proofs.lemmas.List.{get_or_read, get_or-drop, length-drop}
use Rattle.cilk_scheduler.proofs.Trees.{Lifts, Owes, lifts_first, lifts_next, settled, holds_some}
use Rattle.cilk_scheduler.proofs.tally.Tally.raise.Goals as goal

pub up-init : goal.up-init
up-init c =
    let nodes = c.self.inside.nodes.items in
    let count = c.self.inside.count in
    let at = c.args.at in
    let long = c.self.invariant.long in
    let here = subst (λ l. at < length l) (sym c.self.view_is) c.requires.here in
    let low : at < count = let d = length-drop count nodes in omega (arith, here, d, long) in
    let read : c.index_mut.result.now ≡ get_or nodes (count + at) 0 = get_or_read nodes (count + at) _ (omega (arith, low, long)) c.index_mut.ensures.value 0 in
    let it : c.index_mut.result.now ≡ get_or (drop count nodes) at 0 = read ∙ sym (get_or-drop count nodes at 0) in
    let v : ℕ = get_or (drop count nodes) at 0 + 1 in
    let first = lifts_first nodes count at v 1 0 c.self.invariant low (omega arith) in
    let first' = subst (λ l. Lifts (set nodes (count + at) (get_or l at 0 + 1)) count ((count + at) / 2) (sum l) (set l at (get_or l at 0 + 1)) 1 0) c.self.view_is first in
    subst (λ n. Lifts (set nodes (count + at) (n + 1)) count ((count + at) / 2) (sum c.args.self.now) (set c.args.self.now at (get_or c.args.self.now at 0 + 1)) 1 0) (sym (it ∙ ap (λ (l : List ℕ). get_or l at 0) c.self.view_is)) first'

pub overflow_add-index_mut-in-up : goal.overflow_add-index_mut-in-up
overflow_add-index_mut-in-up c =
    let nodes = c.up.self-inside.nodes.items in
    let node = c.up.node in
    let l = c.up.invariant in
    let long = l.long in
    let low = l.low in
    let read : c.index_mut-in-up.result.now ≡ get_or nodes node 0 = get_or_read nodes node _ (omega (arith, low, long)) c.index_mut-in-up.ensures.value 0 in
    let few = l.few in
    let top = few node c.up-test.true (omega arith) in
    let all = c.requires.few in
    omega (arith, read, top, all)

pub up-preserved : goal.up-preserved
up-preserved c =
    let nodes = c.up.self-inside.nodes.items in
    let node = c.up.node in
    let l = c.up.invariant in
    let long = l.long in
    let low = l.low in
    let read : c.index_mut-in-up.result.now ≡ get_or nodes node 0 = get_or_read nodes node _ (omega (arith, low, long)) c.index_mut-in-up.ensures.value 0 in
    lifts_next nodes c.up.self-inside.count node _ (c.index_mut-in-up.result.now + 1) _ 1 0 l c.up-test.true (omega (arith, read))

pub invariant_of-self : goal.invariant_of-self
invariant_of-self c =
    let l = c.up.invariant in
    let none : c.up.node ≡ 0 = let h = c.up-test.false in omega arith in
    settled c.up.self-inside.nodes.items c.up.self-inside.count 1 0 l.long l.doubled (subst (λ n. Owes c.up.self-inside.nodes.items c.up.self-inside.count n 1 0) none l.owes)
