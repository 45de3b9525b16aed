use Rattle.std.proofs.Common.{◌≡◌, inr}
use Rattle.cilk_types.specs.declared.event.Event.TheVariants as events
use Rattle.cilk_tree.specs.Frames.{IsInFrame}
use Rattle.cilk_shared.specs.Pieces.{PieceValue, PassesOn}
use Rattle.cilk_shared.proofs.Covering.{of_piece, covers_end}
use Rattle.cilk_shared.proofs.piece.Piece.end.Goals as goal

pub grow-requires-clause-next : goal.grow-requires-clause-next
grow-requires-clause-next c = (of_piece (λ (p : PieceValue). PassesOn p events.End) c.self.view_is c.requires.next).0

pub invariant_of-self : goal.invariant_of-self
invariant_of-self c =
    let g = c.self.inside.segment in
    let r = c.self.inside.reducers.value in
    let next = of_piece (λ (p : PieceValue). PassesOn p events.End) c.self.view_is c.requires.next in
    let mine = of_piece (λ (p : PieceValue). IsInFrame p.event_order.events p.upto c.args.frame) c.self.view_is c.requires.frame in
    let same = of_piece (λ (p : PieceValue). c.args.reducers.now ≡ p.reducers) c.self.view_is c.requires.reducers.0 in
    covers_end c.self.inside.views c.retire_own.new.views r g c.self.invariant next.0.0.0 (inr next.0.0.3) next.1 c.args.frame mine c.args.reducers.now same c.retire_own.ensures _ c.grow.ensures
