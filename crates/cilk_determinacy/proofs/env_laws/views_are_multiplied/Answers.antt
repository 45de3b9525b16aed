use Rattle.cilk_determinacy.proofs.FrameEnvViews.{are_multiplied}
use Rattle.cilk_determinacy.proofs.env_laws.views_are_multiplied.Goals as goal

pub returns : goal.returns
returns c = are_multiplied
