use Rattle.cilk_determinacy.proofs.KeptViews.{views_kept}
use Rattle.cilk_determinacy.proofs.pieces.steps_keep_views.Goals as goal

pub returns : goal.returns
returns c = views_kept
