use Rattle.std.proofs.Common.{◌≡◌, ◌+◌, ◌-◌, ◌<◌, ◌/◌, ℕ, List, get_or, set, sum, drop, length, sym, subst, ap, ◌∙◌, arith}
use Rattle.std.proofs.lemmas.List.{get_or_read, get_or-drop, length-drop}
use Rattle.cilk_scheduler.proofs.Trees.{Lifts, Owes, lifts_first, lifts_next, settled, holds_some}
use Rattle.cilk_scheduler.proofs.tally.Tally.lower.Goals as goal

pub overflow_sub-index_mut : goal.overflow_sub-index_mut
overflow_sub-index_mut c =
    let nodes = c.self.inside.nodes.items in
    let count = c.self.inside.count in
    let at = c.args.at in
    let long = c.self.invariant.long in
    let here = subst (λ l. at < length l) (sym c.self.view_is) c.requires.here in
    let low : at < count = let d = length-drop count nodes in omega (arith, here, d, long) in
    let read : c.index_mut.result.now ≡ get_or nodes (count + at) 0 = get_or_read nodes (count + at) _ (omega (arith, low, long)) c.index_mut.ensures.value 0 in
    let it = get_or-drop count nodes at 0 in
    let some = subst (λ l. 0 < get_or l at 0) (sym c.self.view_is) c.requires.some in
    omega (arith, read, it, some)

pub up-init : goal.up-init
up-init c =
    let nodes = c.self.inside.nodes.items in
    let count = c.self.inside.count in
    let at = c.args.at in
    let long = c.self.invariant.long in
    let here = subst (λ l. at < length l) (sym c.self.view_is) c.requires.here in
    let low : at < count = let d = length-drop count nodes in omega (arith, here, d, long) in
    let read : c.index_mut.result.now ≡ get_or nodes (count + at) 0 = get_or_read nodes (count + at) _ (omega (arith, low, long)) c.index_mut.ensures.value 0 in
    let it : c.index_mut.result.now ≡ get_or (drop count nodes) at 0 = read ∙ sym (get_or-drop count nodes at 0) in
    let v : ℕ = get_or (drop count nodes) at 0 - 1 in
    let some = subst (λ l. 0 < get_or l at 0) (sym c.self.view_is) c.requires.some in
    let first = lifts_first nodes count at v 0 1 c.self.invariant low (omega (arith, some)) in
    let first' = subst (λ l. Lifts (set nodes (count + at) (get_or l at 0 - 1)) count ((count + at) / 2) (sum l) (set l at (get_or l at 0 - 1)) 0 1) c.self.view_is first in
    subst (λ n. Lifts (set nodes (count + at) (n - 1)) count ((count + at) / 2) (sum c.args.self.now) (set c.args.self.now at (get_or c.args.self.now at 0 - 1)) 0 1) (sym (it ∙ ap (λ (l : List ℕ). get_or l at 0) c.self.view_is)) first'

pub overflow_sub-index_mut-in-up : goal.overflow_sub-index_mut-in-up
overflow_sub-index_mut-in-up c =
    let nodes = c.up.self-inside.nodes.items in
    let node = c.up.node in
    let l = c.up.invariant in
    let long = l.long in
    let low = l.low in
    let read : c.index_mut-in-up.result.now ≡ get_or nodes node 0 = get_or_read nodes node _ (omega (arith, low, long)) c.index_mut-in-up.ensures.value 0 in
    let some = holds_some nodes c.up.self-inside.count node _ _ l c.up-test.true in
    omega (arith, read, some)

pub up-preserved : goal.up-preserved
up-preserved c =
    let nodes = c.up.self-inside.nodes.items in
    let node = c.up.node in
    let l = c.up.invariant in
    let long = l.long in
    let low = l.low in
    let read : c.index_mut-in-up.result.now ≡ get_or nodes node 0 = get_or_read nodes node _ (omega (arith, low, long)) c.index_mut-in-up.ensures.value 0 in
    lifts_next nodes c.up.self-inside.count node _ (c.index_mut-in-up.result.now - 1) _ 0 1 l c.up-test.true (let some = holds_some nodes c.up.self-inside.count node _ _ l c.up-test.true in omega (arith, read, some))

pub invariant_of-self : goal.invariant_of-self
invariant_of-self c =
    let l = c.up.invariant in
    let none : c.up.node ≡ 0 = let h = c.up-test.false in omega arith in
    settled c.up.self-inside.nodes.items c.up.self-inside.count 0 1 l.long l.doubled (subst (λ n. Owes c.up.self-inside.nodes.items c.up.self-inside.count n 0 1) none l.owes)
