use Rattle.std.specs.Int.{w64}
use Rattle.std.proofs.lemmas.Int.{to_z-of_z}
use Rattle.std.proofs.Common.{rules, ◌≡◌, sym, ap, ◌∙◌, subst}
use Rattle.cilk_types.specs.declared.event.Event.TheVariants as events
use Rattle.cilk_tree.specs.Orders.{IsOrderly}
use Rattle.cilk_shared.specs.Pieces.{PieceValue, PassesOn, IsPieceOf, number_ahead}
use Rattle.cilk_shared.specs.Reducers.{kind_in, events_over}
use Rattle.cilk_shared.proofs.Covering.{of_piece, covers_read, covers_kept, number_read}
use Rattle.cilk_shared.proofs.Shown.{shows_kept}
use Rattle.cilk_shared.proofs.piece.Piece.value.Goals as goal

pub grow-requires-clause-next : goal.grow-requires-clause-next
grow-requires-clause-next c = (of_piece (λ (p : PieceValue). PassesOn p (events.Value c.args.instance c.requires.next.0)) c.self.view_is c.requires.next.1).0

pub invariant_of-self : goal.invariant_of-self
invariant_of-self c =
    let g = c.self.inside.segment in
    let r = c.self.inside.reducers.value in
    covers_kept r c.self.inside.views c.value.new.self g (shows_kept (kind_in r) c.self.inside.views c.value.new.self (events_over g.event_order r g.from g.upto) c.in_err-number.ensures.err c.self.invariant.shows) c.self.invariant

pub invariant_of-self-2 : goal.invariant_of-self-2
invariant_of-self-2 c =
    let g = c.self.inside.segment in
    let r = c.self.inside.reducers.value in
    let next = of_piece (λ (p : PieceValue). PassesOn p (events.Value c.args.instance c.requires.next.0)) c.self.view_is c.requires.next.1 in
    let kind = of_piece (λ (p : PieceValue). c.args.kind ≡ kind_in p.reducers c.args.instance) c.self.view_is c.requires.kind in
    covers_read c.self.inside.views c.value.new.self r g c.self.invariant next.0 c.args.instance c.requires.next.0 next.1 c.args.kind kind c.in_ok-number.ensures.ok _ c.grow.ensures

pub returns-clause-number : goal.returns-clause-number
returns-clause-number c =
    let g = c.self.inside.segment in
    let r = c.self.inside.reducers.value in
    let of = of_piece (IsPieceOf c.args.yard.now) c.self.view_is c.requires.yard in
    let law : IsOrderly g.event_order = subst IsOrderly (sym of.1) c.laws.ensures.order in
    let next = of_piece (λ (p : PieceValue). PassesOn p (events.Value c.args.instance c.requires.next.0)) c.self.view_is c.requires.next.1 in
    let kind = of_piece (λ (p : PieceValue). c.args.kind ≡ kind_in p.reducers c.args.instance) c.self.view_is c.requires.kind in
    to_z-of_z w64 c.in_ok-number.number (search rules)
    ∙ number_read c.self.inside.views r g law c.self.invariant next.0 c.args.instance c.requires.next.0 next.1 c.args.kind kind _ c.in_ok-number.ensures.number
    ∙ ap (λ (p : PieceValue). number_ahead p c.args.instance) c.self.view_is
