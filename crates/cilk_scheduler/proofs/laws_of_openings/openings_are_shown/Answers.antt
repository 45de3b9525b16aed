use Rattle.cilk_scheduler.proofs.Openings.{openings_are_shown}
use Rattle.cilk_scheduler.proofs.laws_of_openings.openings_are_shown.Goals as goal

pub returns : goal.returns
returns c = openings_are_shown
