use Rattle.cilk_scheduler.proofs.HandingIn.{arrivals_are_shown}
use Rattle.cilk_scheduler.proofs.laws_of_ends.arrivals_are_shown.Goals as goal

pub returns : goal.returns
returns c = arrivals_are_shown
