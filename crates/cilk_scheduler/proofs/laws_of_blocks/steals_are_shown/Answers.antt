use Rattle.cilk_scheduler.proofs.Thieves.{steals_are_shown}
use Rattle.cilk_scheduler.proofs.laws_of_blocks.steals_are_shown.Goals as goal

pub returns : goal.returns
returns c = steals_are_shown
