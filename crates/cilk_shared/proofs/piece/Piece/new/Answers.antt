use Rattle.std.proofs.Common.{◌≡◌, [], sym, ap, ◌∙◌, subst}
use Rattle.cilk_tree.specs.declared.event_order.EventOrder.{EventOrder}
use Rattle.cilk_shared.specs.declared.reducers.Reducers.{Reducers}
use Rattle.cilk_shared.specs.Reducers.{events_at}
use Rattle.cilk_shared.specs.Settled.{AreSettled}
use Rattle.cilk_shared.proofs.Covering.{covers_first}
use Rattle.cilk_shared.proofs.piece.Piece.new.Goals as goal

pub invariant_of-result : goal.invariant_of-result
invariant_of-result c =
    let s : EventOrder = c.args.yard.now.event_order in
    let same = c.requires.yard.1 in
    let r : Reducers = c.of.result.value in
    let r_is : r ≡ c.args.reducers.now = c.of.ensures in
    let settled : AreSettled s r = subst (λ (q : Reducers). AreSettled s q) (sym r_is) (subst (λ (z : EventOrder). AreSettled z c.args.reducers.now) same c.requires.settled) in
    let quiet : events_at s r 1 ≡ [] = ap (λ (q : Reducers). events_at s q 1) r_is ∙ ap (λ (z : EventOrder). events_at z c.args.reducers.now 1) (sym same) ∙ c.requires.quiet in
    covers_first s c.laws.ensures.order r settled c.new.result c.new.ensures quiet c.args.segment same c.requires.first
