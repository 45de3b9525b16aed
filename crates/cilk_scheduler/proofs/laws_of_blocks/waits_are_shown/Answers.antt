use Rattle.cilk_scheduler.proofs.Waiting.{waits_are_shown}
use Rattle.cilk_scheduler.proofs.laws_of_blocks.waits_are_shown.Goals as goal

pub returns : goal.returns
returns c = waits_are_shown
