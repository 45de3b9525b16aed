use Rattle.cilk_scheduler.proofs.Stopping.{tellings_stay}
use Rattle.cilk_scheduler.proofs.laws_of_stops.tellings_stay.Goals as goal

pub returns : goal.returns
returns c = tellings_stay
