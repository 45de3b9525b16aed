use Rattle.std.proofs.Common.{◌≡◌, sym, ap, ◌∙◌, subst, arith}
use Rattle.std.specs.Int.{cast_unsigned, w64}
use Rattle.std.proofs.lemmas.Int.{to_z-of_z}
use Rattle.cilk_tree.specs.declared.event_order.EventOrder.{EventOrder}
use Rattle.cilk_tree.specs.Word.{event, predecessors_of, write, word, word_step, IsLine}
use Rattle.cilk_tree.proofs.Events.{write_what}
use Rattle.cilk_shared.specs.Values.{OfYard, NextWrite}
use Rattle.cilk_shared.proofs.Steps.{both, stands, has_room, store_at, moved_at}
use Rattle.cilk_shared.proofs.yard.Yard.store.Goals as goal

pub store-requires : goal.store-requires
store-requires c =
    let i = c.self.invariant in
    let s : EventOrder = c.self.inside.table.shared.key.event_order in
    let me = c.segment.inside.seat.me in
    let a = c.segment.inside.from in
    let p = c.segment.inside.upto in
    let of = both OfYard c.self.view_is c.segment.view_is c.requires.yard in
    let next = both (λ y g. NextWrite y g c.args.cell c.args.value) c.self.view_is c.segment.view_is c.requires.next in
    let is : word_step s p ≡ write c.args.cell (word c.args.value) = write_what s.events p (event s p) (predecessors_of s p) c.args.cell c.args.value next.2 in
    let h = stands s me a p i.0 c.segment.invariant of.1 next.0 (subst IsLine (sym is) tt) in (
      of.0,
      omega (arith, i.3, next.1),
      store_at s me a p h c.self.inside.table.shared.table_id.slots c.segment.inside.seat.id c.args.cell c.cast_unsigned-word.result next.1 (is ∙ ap (λ n. write c.args.cell n) (sym (c.cast_unsigned-word.ensures ∙ ap (cast_unsigned w64) (to_z-of_z w64 c.args.value (i.6.written_words p c.args.cell c.args.value next.2))))),
    )

pub overflow_add-segment : goal.overflow_add-segment
overflow_add-segment c =
    let s : EventOrder = c.self.inside.table.shared.key.event_order in
    let me = c.segment.inside.seat.me in
    let a = c.segment.inside.from in
    let p = c.segment.inside.upto in
    let of = both OfYard c.self.view_is c.segment.view_is c.requires.yard in
    let next = both (λ y g. NextWrite y g c.args.cell c.args.value) c.self.view_is c.segment.view_is c.requires.next in
    let is : word_step s p ≡ write c.args.cell (word c.args.value) = write_what s.events p (event s p) (predecessors_of s p) c.args.cell c.args.value next.2 in
    let room = has_room s me a p (stands s me a p c.self.invariant.0 c.segment.invariant of.1 next.0 (subst IsLine (sym is) tt)) in
    omega (arith, room)

pub invariant_of-segment : goal.invariant_of-segment
invariant_of-segment c =
    let s : EventOrder = c.self.inside.table.shared.key.event_order in
    let me = c.segment.inside.seat.me in
    let a = c.segment.inside.from in
    let p = c.segment.inside.upto in
    let of = both OfYard c.self.view_is c.segment.view_is c.requires.yard in
    let next = both (λ y g. NextWrite y g c.args.cell c.args.value) c.self.view_is c.segment.view_is c.requires.next in
    let is : word_step s p ≡ write c.args.cell (word c.args.value) = write_what s.events p (event s p) (predecessors_of s p) c.args.cell c.args.value next.2 in
    let h = stands s me a p c.self.invariant.0 c.segment.invariant of.1 next.0 (subst IsLine (sym is) tt) in
    moved_at s me a p h c.store.new.seat.me c.store.ensures.2
