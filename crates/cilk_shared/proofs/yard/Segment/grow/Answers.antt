use Rattle.std.proofs.Common.{◌≡◌, ap, sym, ◌∙◌, subst, arith}
use Rattle.cilk_tree.specs.declared.event_order.EventOrder.{EventOrder}
use Rattle.cilk_tree.specs.Orders.{IsOrderly}
use Rattle.cilk_shared.specs.Values.{SegmentValue, CanPass}
use Rattle.cilk_shared.proofs.Steps.{passes, along}
use Rattle.cilk_shared.proofs.yard.Segment.grow.Goals as goal

pub overflow_add-upto : goal.overflow_add-upto
overflow_add-upto c =
    let next = along CanPass c.self.view_is c.requires.next in
    let same : c.self.inside.seat.me.0.event_order ≡ c.args.yard.now.event_order = ap (λ (g : SegmentValue). g.event_order) c.self.view_is ∙ c.requires.yard.1 in
    let law : IsOrderly c.self.inside.seat.me.0.event_order = subst (λ (z : EventOrder). IsOrderly z) (sym same) c.laws.ensures.order in
    omega (arith, next.0.1, law.few)

pub invariant_of-self : goal.invariant_of-self
invariant_of-self c =
    let next = along CanPass c.self.view_is c.requires.next in
    let same : c.self.inside.seat.me.0.event_order ≡ c.args.yard.now.event_order = ap (λ (g : SegmentValue). g.event_order) c.self.view_is ∙ c.requires.yard.1 in
    let law : IsOrderly c.self.inside.seat.me.0.event_order = subst (λ (z : EventOrder). IsOrderly z) (sym same) c.laws.ensures.order in
    (c.self.invariant.0, passes c.self.inside.seat.me.0.event_order law c.self.inside.seat.me c.self.inside.from c.self.inside.upto c.self.invariant.1 next.0.0 next.0.2 next.0.3 next.1)
