use Rattle.std.proofs.Common.{subst}
use Rattle.cilk_shared.specs.Pieces.{PieceValue}
use Rattle.cilk_shared.specs.Rule.{Whole}
use Rattle.cilk_shared.proofs.piece.Piece.laws.Goals as goal

pub returns-clause-whole : goal.returns-clause-whole
returns-clause-whole c = subst (λ (p : PieceValue). Whole p.event_order p.from p.upto) c.self.view_is c.self.invariant.whole
