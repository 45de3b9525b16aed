use Rattle.cilk_scheduler.proofs.Returning.{returns_are_shown}
use Rattle.cilk_scheduler.proofs.laws_of_ends.returns_are_shown.Goals as goal

pub returns : goal.returns
returns c = returns_are_shown
