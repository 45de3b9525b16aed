use Rattle.std.proofs.Common.{sym, subst, arith}
use Rattle.cilk_tree.specs.declared.event_order.EventOrder.{EventOrder}
use Rattle.cilk_tree.specs.Word.{IsLine}
use Rattle.cilk_shared.specs.Values.{OfYard, NextFinish}
use Rattle.cilk_shared.proofs.Steps.{both, stands, has_room, finish_at, moved_at}
use Rattle.cilk_shared.proofs.yard.Yard.finish.Goals as goal

pub store-requires : goal.store-requires
store-requires c =
    let i = c.self.invariant in
    let s : EventOrder = c.self.inside.table.shared.key.event_order in
    let me = c.segment.inside.seat.me in
    let a = c.segment.inside.from in
    let p = c.segment.inside.upto in
    let of = both OfYard c.self.view_is c.segment.view_is c.requires.yard in
    let next = both NextFinish c.self.view_is c.segment.view_is c.requires.next in
    let h = stands s me a p i.0 c.segment.invariant of.1 next.0 (subst IsLine (sym next.1) tt) in (
      of.0,
      omega (arith, i.3, i.4),
      finish_at s me a p h c.self.inside.table.shared.table_id.slots c.segment.inside.seat.id _ i.4 next.1,
    )

pub overflow_add-segment : goal.overflow_add-segment
overflow_add-segment c =
    let s : EventOrder = c.self.inside.table.shared.key.event_order in
    let me = c.segment.inside.seat.me in
    let a = c.segment.inside.from in
    let p = c.segment.inside.upto in
    let of = both OfYard c.self.view_is c.segment.view_is c.requires.yard in
    let next = both NextFinish c.self.view_is c.segment.view_is c.requires.next in
    let room = has_room s me a p (stands s me a p c.self.invariant.0 c.segment.invariant of.1 next.0 (subst IsLine (sym next.1) tt)) in
    omega (arith, room)

pub invariant_of-segment : goal.invariant_of-segment
invariant_of-segment c =
    let s : EventOrder = c.self.inside.table.shared.key.event_order in
    let me = c.segment.inside.seat.me in
    let a = c.segment.inside.from in
    let p = c.segment.inside.upto in
    let of = both OfYard c.self.view_is c.segment.view_is c.requires.yard in
    let next = both NextFinish c.self.view_is c.segment.view_is c.requires.next in
    let h = stands s me a p c.self.invariant.0 c.segment.invariant of.1 next.0 (subst IsLine (sym next.1) tt) in
    moved_at s me a p h c.store.new.seat.me c.store.ensures.2
