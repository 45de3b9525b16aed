use Rattle.std.proofs.Common.{subst, sym}
use Rattle.cilk_shared.specs.Values.{NextSpawn}
use Rattle.cilk_tree.specs.Word.{IsLine}
use Rattle.cilk_shared.specs.Pieces.{PieceValue, IsPieceOf, segment_of}
use Rattle.cilk_shared.proofs.Covering.{of_piece, covers_line}
use Rattle.cilk_shared.proofs.Quiet.{quiet_spawn}
use Rattle.cilk_shared.proofs.piece.Piece.offer.Goals as goal

pub invariant_of-self : goal.invariant_of-self
invariant_of-self c =
    let y = c.args.yard.now in
    let g = c.self.inside.segment in
    let r = c.self.inside.reducers.value in
    let of = of_piece (IsPieceOf y) c.self.view_is c.requires.yard in
    let next = of_piece (λ (p : PieceValue). NextSpawn y (segment_of p)) c.self.view_is c.requires.next in
    covers_line y c.laws.ensures.order c.self.inside.views r g of c.self.invariant next.0.0 (subst IsLine (sym next.1) tt) (quiet_spawn y.event_order r g.upto next.1) _ c.offer.ensures.segment
