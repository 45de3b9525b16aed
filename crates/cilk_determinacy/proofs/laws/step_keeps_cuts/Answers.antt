use Rattle.cilk_determinacy.proofs.Determinate.{steps_keep_cuts}
use Rattle.cilk_determinacy.proofs.laws.step_keeps_cuts.Goals as goal

pub returns : goal.returns
returns c = steps_keep_cuts
