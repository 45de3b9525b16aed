use Rattle.cilk_determinacy.proofs.PieceViews.{pieces_cover}
use Rattle.cilk_determinacy.proofs.views.pieces_cover_stretches.Goals as goal

pub returns : goal.returns
returns c = pieces_cover
