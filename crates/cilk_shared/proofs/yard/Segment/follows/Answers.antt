use Rattle.std.proofs.Common.{◌≡◌, ◌≢◌, Some, ap, sym, ◌∙◌, subst}
use Rattle.cilk_types.specs.declared.event.Event.TheVariants.{Sync}
use Rattle.cilk_tree.specs.declared.event_order.EventOrder.{EventOrder}
use Rattle.cilk_tree.specs.Word.{event}
use Rattle.cilk_tree.specs.Orders.{IsOrderly}
use Rattle.cilk_tree.specs.Runs.{IsAsked, IsFollowed}
use Rattle.cilk_shared.specs.Values.{SegmentValue, IsAhead}
use Rattle.cilk_shared.proofs.Steps.{up_event, along}
use Rattle.cilk_shared.proofs.yard.Segment.follows.Goals as goal

pub returns : goal.returns
returns c =
    let g : SegmentValue = c.args.self.now in
    let s : EventOrder = c.self.inside.seat.me.0.event_order in
    let same : s ≡ c.args.yard.now.event_order = ap (λ (x : SegmentValue). x.event_order) c.self.view_is ∙ c.requires.yard.1 in
    let law : IsOrderly s = subst (λ (z : EventOrder). IsOrderly z) (sym same) c.laws.ensures.order in
    let next = along IsAhead c.self.view_is c.requires.next in
    subst (λ (x : SegmentValue). IsFollowed x.event_order x.upto) c.self.view_is
    (up_event s law c.self.inside.seat.me.0 c.self.inside.from c.self.inside.upto c.self.invariant.1 next.0 next.1
    (along (λ (x : SegmentValue). event x.event_order x.upto ≢ Some Sync) c.self.view_is c.requires.sync)
    (along (λ (x : SegmentValue). IsAsked x.event_order x.upto) c.self.view_is c.requires.asked))
