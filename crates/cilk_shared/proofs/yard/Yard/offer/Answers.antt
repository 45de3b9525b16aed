use Rattle.std.proofs.Common.{◌+◌, sym, ap, subst, arith}
use Rattle.cilk_tree.specs.declared.event_order.EventOrder.{EventOrder}
use Rattle.cilk_tree.specs.Word.{IsLine}
use Rattle.cilk_shared.specs.Values.{OfYard, NextSpawn}
use Rattle.cilk_shared.proofs.Steps.{both, stands, is_inside, offer_at, moved_at}
use Rattle.cilk_shared.proofs.yard.Yard.offer.Goals as goal

pub store-requires : goal.store-requires
store-requires c =
    let i = c.self.invariant in
    let s : EventOrder = c.self.inside.table.shared.key.event_order in
    let me = c.segment.inside.seat.me in
    let a = c.segment.inside.from in
    let p = c.segment.inside.upto in
    let of = both OfYard c.self.view_is c.segment.view_is c.requires.yard in
    let next = both NextSpawn c.self.view_is c.segment.view_is c.requires.next in
    let h = stands s me a p i.0 c.segment.invariant of.1 next.0 (subst IsLine (sym next.1) tt) in (
      of.0,
      let low = is_inside s me a p h in omega (arith, i.3, i.4, low),
      offer_at s me a p h c.self.inside.table.shared.table_id.slots c.segment.inside.seat.id _ (ap (λ n. n + p) i.4) next.1,
    )

pub invariant_of-segment : goal.invariant_of-segment
invariant_of-segment c =
    let s : EventOrder = c.self.inside.table.shared.key.event_order in
    let me = c.segment.inside.seat.me in
    let a = c.segment.inside.from in
    let p = c.segment.inside.upto in
    let of = both OfYard c.self.view_is c.segment.view_is c.requires.yard in
    let next = both NextSpawn c.self.view_is c.segment.view_is c.requires.next in
    let h = stands s me a p c.self.invariant.0 c.segment.invariant of.1 next.0 (subst IsLine (sym next.1) tt) in
    moved_at s me a p h c.store.new.seat.me c.store.ensures.2
