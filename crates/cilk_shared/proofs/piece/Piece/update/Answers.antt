use Rattle.std.proofs.Common.{◌≡◌, ◌∙◌, refl, ap}
use Rattle.std.specs.Int.{w64}
use Rattle.std.proofs.lemmas.Int.{to_z-of_z}
use Rattle.cilk_types.specs.declared.event.Event.TheVariants as events
use Rattle.cilk_monoid.specs.Kinds.{structure_of}
use Rattle.cilk_monoid.specs.Ranges.{Updated}
use Rattle.cilk_hypermap.specs.Hypermap.{value_in}
use Rattle.cilk_shared.specs.Pieces.{PieceValue, PassesOn}
use Rattle.cilk_shared.specs.Reducers.{kind_in, events_over, frame_in, of_event}
use Rattle.cilk_shared.proofs.Covering.{of_piece, covers_event, covers_kept, after_updated}
use Rattle.cilk_shared.proofs.Shown.{shows_kept}
use Rattle.cilk_shared.proofs.piece.Piece.update.Goals as goal

pub grow-requires-clause-next : goal.grow-requires-clause-next
grow-requires-clause-next c = (of_piece (λ (p : PieceValue). PassesOn p (events.Update c.args.instance c.args.value)) c.self.view_is c.requires.next).0

pub invariant_of-self : goal.invariant_of-self
invariant_of-self c =
    let g = c.self.inside.segment in
    let r = c.self.inside.reducers.value in
    covers_kept r c.self.inside.views c.update.new.self g (shows_kept (kind_in r) c.self.inside.views c.update.new.self (events_over g.event_order r g.from g.upto) c.in_err-update.ensures.err c.self.invariant.shows) c.self.invariant

pub invariant_of-self-2 : goal.invariant_of-self-2
invariant_of-self-2 c =
    let g = c.self.inside.segment in
    let r = c.self.inside.reducers.value in
    let next = of_piece (λ (p : PieceValue). PassesOn p (events.Update c.args.instance c.args.value)) c.self.view_is c.requires.next in
    let kind = of_piece (λ (p : PieceValue). c.args.kind ≡ kind_in p.reducers c.args.instance) c.self.view_is c.requires.kind in
    covers_event c.self.inside.views c.update.new.self r g c.self.invariant next.0 c.args.instance (Updated c.args.instance c.args.value) refl c.ranges.value
    (ap (of_event r (frame_in g.event_order.events g.upto)) next.1) c.args.kind kind _ c.in_ok-update.ensures.ok (ap (λ x. (structure_of c.args.kind).combine (value_in c.self.inside.views c.args.kind c.args.instance) ((structure_of c.args.kind).single x)) (to_z-of_z w64 c.args.value c.ranges.value) ∙ after_updated (structure_of c.args.kind) c.args.instance c.args.value (value_in c.self.inside.views c.args.kind c.args.instance)) _ c.grow.ensures
