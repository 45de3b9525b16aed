use Rattle.std.proofs.Common.{subst, sym}
use Rattle.cilk_shared.specs.Values.{NextWrite}
use Rattle.cilk_tree.specs.Word.{event, predecessors_of, IsLine}
use Rattle.cilk_tree.proofs.Events.{write_what}
use Rattle.cilk_shared.specs.Pieces.{PieceValue, IsPieceOf, segment_of}
use Rattle.cilk_shared.proofs.Covering.{of_piece, covers_line}
use Rattle.cilk_shared.proofs.Quiet.{quiet_write}
use Rattle.cilk_shared.proofs.piece.Piece.store.Goals as goal

pub invariant_of-self : goal.invariant_of-self
invariant_of-self c =
    let y = c.args.yard.now in
    let g = c.self.inside.segment in
    let r = c.self.inside.reducers.value in
    let of = of_piece (IsPieceOf y) c.self.view_is c.requires.yard in
    let next = of_piece (λ (p : PieceValue). NextWrite y (segment_of p) c.args.cell c.args.value) c.self.view_is c.requires.next in
    covers_line y c.laws.ensures.order c.self.inside.views r g of c.self.invariant next.0.0 (subst IsLine (sym (write_what y.event_order.events g.upto (event y.event_order g.upto) (predecessors_of y.event_order g.upto) c.args.cell c.args.value next.2)) tt) (quiet_write y.event_order r g.upto c.args.cell c.args.value next.2) _ c.store.ensures
