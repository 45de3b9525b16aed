use Rattle.cilk_scheduler.proofs.Begun.{invocations_are_noted}
use Rattle.cilk_scheduler.proofs.beginning.invocations_are_noted.Goals as goal

pub returns : goal.returns
returns c = invocations_are_noted
