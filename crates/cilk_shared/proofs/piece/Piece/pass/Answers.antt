use Rattle.std.proofs.Common.{◌≡◌, [], inr}
use Rattle.cilk_shared.specs.Values.{CanPass}
use Rattle.cilk_shared.specs.Pieces.{PieceValue, segment_of}
use Rattle.cilk_shared.specs.Reducers.{events_at}
use Rattle.cilk_shared.proofs.Covering.{of_piece, covers_quiet}
use Rattle.cilk_shared.proofs.piece.Piece.pass.Goals as goal

pub grow-requires-clause-next : goal.grow-requires-clause-next
grow-requires-clause-next c = of_piece (λ (p : PieceValue). CanPass (segment_of p)) c.self.view_is c.requires.next

pub invariant_of-self : goal.invariant_of-self
invariant_of-self c =
    let next = of_piece (λ (p : PieceValue). CanPass (segment_of p)) c.self.view_is c.requires.next in
    let quiet = of_piece (λ (p : PieceValue). events_at p.event_order p.reducers p.upto ≡ []) c.self.view_is c.requires.quiet in
    covers_quiet c.self.inside.views c.self.inside.views c.self.inside.reducers.value c.self.inside.segment c.self.invariant next.0.0 (inr next.0.3) quiet c.self.invariant.shows _ c.grow.ensures
