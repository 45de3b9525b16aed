use Rattle.cilk_scheduler.proofs.OverBlocks.{blocks_are_over}
use Rattle.cilk_scheduler.proofs.laws_of_stops.blocks_are_over.Goals as goal

pub returns : goal.returns
returns c = blocks_are_over
