use Rattle.std.proofs.Common.{◌≡◌, sym, subst, arith}
use Rattle.cilk_tree.specs.declared.event_order.EventOrder.{EventOrder}
use Rattle.cilk_tree.specs.Word.{event, predecessors_of, read, word, word_step, IsLine}
use Rattle.cilk_tree.proofs.Events.{read_what}
use Rattle.cilk_shared.specs.Values.{OfYard, NextRead}
use Rattle.cilk_shared.proofs.Steps.{both, stands, has_room, load_at, moves, moved_at}
use Rattle.cilk_shared.proofs.yard.Yard.load.Goals as goal

pub load-found-requires : goal.load-found-requires
load-found-requires c =
    let i = c.self.invariant in
    let s : EventOrder = c.self.inside.table.shared.key.event_order in
    let me = c.segment.inside.seat.me in
    let a = c.segment.inside.from in
    let p = c.segment.inside.upto in
    let of = both OfYard c.self.view_is c.segment.view_is c.requires.yard in
    let next = both (λ y g. NextRead y g c.args.cell) c.self.view_is c.segment.view_is c.requires.next in
    let is : word_step s p ≡ read c.args.cell (word next.2.0) = read_what s.events p (event s p) (predecessors_of s p) c.args.cell next.2.0 next.2.1 in
    let h = stands s me a p i.0 c.segment.invariant of.1 next.0 (subst IsLine (sym is) tt) in (
      of.0,
      omega (arith, i.3, next.1),
      load_at s me a p h i.6 c.self.inside.table.shared.table_id.slots c.segment.inside.seat.id c.args.cell (word next.2.0) next.1 is,
    )

pub overflow_add-segment : goal.overflow_add-segment
overflow_add-segment c =
    let s : EventOrder = c.self.inside.table.shared.key.event_order in
    let me = c.segment.inside.seat.me in
    let a = c.segment.inside.from in
    let p = c.segment.inside.upto in
    let of = both OfYard c.self.view_is c.segment.view_is c.requires.yard in
    let next = both (λ y g. NextRead y g c.args.cell) c.self.view_is c.segment.view_is c.requires.next in
    let is : word_step s p ≡ read c.args.cell (word next.2.0) = read_what s.events p (event s p) (predecessors_of s p) c.args.cell next.2.0 next.2.1 in
    let room = has_room s me a p (stands s me a p c.self.invariant.0 c.segment.invariant of.1 next.0 (subst IsLine (sym is) tt)) in
    omega (arith, room)

pub invariant_of-segment : goal.invariant_of-segment
invariant_of-segment c =
    let s : EventOrder = c.self.inside.table.shared.key.event_order in
    let me = c.segment.inside.seat.me in
    let a = c.segment.inside.from in
    let p = c.segment.inside.upto in
    let of = both OfYard c.self.view_is c.segment.view_is c.requires.yard in
    let next = both (λ y g. NextRead y g c.args.cell) c.self.view_is c.segment.view_is c.requires.next in
    let is : word_step s p ≡ read c.args.cell (word next.2.0) = read_what s.events p (event s p) (predecessors_of s p) c.args.cell next.2.0 next.2.1 in
    let h = stands s me a p c.self.invariant.0 c.segment.invariant of.1 next.0 (subst IsLine (sym is) tt) in
    moved_at s me a p h c.load-found.new.seat.me (moves s me a p h c.self.inside.table.shared.table_id.slots c.args.cell c.load-found.result c.load-found.new.seat.me c.load-found.ensures.2)
