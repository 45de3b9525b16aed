use Rattle.cilk_workers.proofs.ShelfHistories.{laws}
use Rattle.cilk_workers.proofs.laws.blocks_pass_once.Goals as goal

pub returns : goal.returns
returns c = laws
