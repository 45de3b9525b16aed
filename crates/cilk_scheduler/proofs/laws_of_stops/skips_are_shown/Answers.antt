use Rattle.cilk_scheduler.proofs.Stopping.{skips_are_shown}
use Rattle.cilk_scheduler.proofs.laws_of_stops.skips_are_shown.Goals as goal

pub returns : goal.returns
returns c = skips_are_shown
