use Rattle.cilk_scheduler.proofs.Synced.{syncs_are_shown}
use Rattle.cilk_scheduler.proofs.laws_of_blocks.syncs_are_shown.Goals as goal

pub returns : goal.returns
returns c = syncs_are_shown
