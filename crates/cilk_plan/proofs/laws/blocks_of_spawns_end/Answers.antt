use Rattle.cilk_plan.proofs.Blocked.{blocks_end}
use Rattle.cilk_plan.proofs.laws.blocks_of_spawns_end.Goals as goal

pub returns : goal.returns
returns c = blocks_end
