use Rattle.cilk_scheduler.proofs.Noted.{noted}
use Rattle.cilk_scheduler.proofs.noting.events_are_noted.Goals as goal

pub returns : goal.returns
returns c = noted
