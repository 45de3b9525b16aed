use Rattle.cilk_determinacy.proofs.Held.{views_held}
use Rattle.cilk_determinacy.proofs.views.frames_hold_views.Goals as goal

pub returns : goal.returns
returns c = views_held
