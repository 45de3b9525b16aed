use Rattle.std.proofs.Common.{arith}
use Rattle.cilk_tree.specs.Orders.{IsOrderly}
use Rattle.cilk_shared.specs.Values.{SegmentValue, CanPass}
use Rattle.cilk_shared.proofs.Steps.{passes, along}
use Rattle.cilk_shared.proofs.yard.Segment.pass.Goals as goal

pub overflow_add-self : goal.overflow_add-self
overflow_add-self c =
    let next = along CanPass c.self.view_is c.requires.next in
    let law = along (λ (g : SegmentValue). IsOrderly g.event_order) c.self.view_is (c.event_orders_along_are_orderly.ensures c.args.plan.now c.args.self.now.event_order c.laws.ensures.order c.requires.plan) in
    omega (arith, next.0.1, law.few)

pub invariant_of-self : goal.invariant_of-self
invariant_of-self c =
    let next = along CanPass c.self.view_is c.requires.next in
    let law = along (λ (g : SegmentValue). IsOrderly g.event_order) c.self.view_is (c.event_orders_along_are_orderly.ensures c.args.plan.now c.args.self.now.event_order c.laws.ensures.order c.requires.plan) in
    (c.self.invariant.0, passes c.self.inside.seat.me.0.event_order law c.self.inside.seat.me c.self.inside.from c.self.inside.upto c.self.invariant.1 next.0.0 next.0.2 next.0.3 next.1)
