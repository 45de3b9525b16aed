use Rattle.std.proofs.Common.{◌≡◌, ◌≤◌, length, ap, sym, ◌∙◌, subst}
use Rattle.cilk_tree.specs.declared.event_order.EventOrder.{EventOrder}
use Rattle.cilk_tree.specs.Orders.{IsOrderly}
use Rattle.cilk_tree.specs.Runs.{IsAsked, Departs}
use Rattle.cilk_shared.specs.Values.{SegmentValue, IsAhead}
use Rattle.cilk_shared.proofs.Steps.{departing, along}
use Rattle.cilk_shared.proofs.yard.Segment.departs.Goals as goal

pub returns-clause-departs : goal.returns-clause-departs
returns-clause-departs c =
    let s : EventOrder = c.self.inside.seat.me.0.event_order in
    let same : s ≡ c.args.yard.now.event_order = ap (λ (x : SegmentValue). x.event_order) c.self.view_is ∙ c.requires.yard.1 in
    let law : IsOrderly s = subst (λ (z : EventOrder). IsOrderly z) (sym same) c.laws.ensures.order in
    let next = along IsAhead c.self.view_is c.requires.next in
    subst (λ (x : SegmentValue). Departs x.event_order c.self.inside.upto) c.self.view_is
    (departing s law c.self.inside.seat.me.0 c.self.inside.from c.self.inside.upto c.self.invariant.1 next.0 next.1
    (along (λ (x : SegmentValue). x.upto ≤ length x.event_order.events) c.self.view_is c.requires.within)
    (along (λ (x : SegmentValue). IsAsked x.event_order x.upto → ⊥) c.self.view_is c.requires.differs))
