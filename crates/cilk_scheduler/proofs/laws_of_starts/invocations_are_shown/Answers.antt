use Rattle.cilk_scheduler.proofs.Invocations.{invocations_are_shown}
use Rattle.cilk_scheduler.proofs.laws_of_starts.invocations_are_shown.Goals as goal

pub returns : goal.returns
returns c = invocations_are_shown
