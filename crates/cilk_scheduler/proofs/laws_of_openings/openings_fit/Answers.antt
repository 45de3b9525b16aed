use Rattle.cilk_scheduler.proofs.Openings.{openings_fit}
use Rattle.cilk_scheduler.proofs.laws_of_openings.openings_fit.Goals as goal

pub returns : goal.returns
returns c = openings_fit
