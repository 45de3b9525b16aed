use Rattle.cilk_scheduler.proofs.Stopping.{stops_are_shown}
use Rattle.cilk_scheduler.proofs.laws_of_stops.stops_are_shown.Goals as goal

pub returns : goal.returns
returns c = stops_are_shown
