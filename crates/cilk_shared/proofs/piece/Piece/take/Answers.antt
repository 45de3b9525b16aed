use Rattle.cilk_shared.specs.Values.{CanTake}
use Rattle.cilk_shared.specs.Pieces.{PieceValue, IsPieceOf, segment_of}
use Rattle.cilk_shared.proofs.Covering.{of_piece, covers_taken}
use Rattle.cilk_shared.proofs.piece.Piece.take.Goals as goal

pub invariant_of-self : goal.invariant_of-self
invariant_of-self c =
    let y = c.args.yard.now in
    let of = of_piece (IsPieceOf y) c.self.view_is c.requires.yard in
    let next = of_piece (λ (p : PieceValue). CanTake y (segment_of p) c.args.ticket) c.self.view_is c.requires.next in
    covers_taken y c.laws.ensures.order c.self.inside.views c.self.inside.reducers.value c.self.inside.segment c.args.ticket of next c.self.invariant _ _ c.take.ensures
