use Rattle.cilk_scheduler.proofs.Noted.{reducer_there}
use Rattle.cilk_scheduler.proofs.noting.reducers_are_there.Goals as goal

pub returns : goal.returns
returns c = reducer_there
