use Rattle.cilk_scheduler.proofs.Touched.{touched_is}
use Rattle.cilk_scheduler.proofs.laws.events_are_shown.Goals as goal

pub returns : goal.returns
returns c = touched_is
