use Rattle.std.proofs.Common.{rules}
use Rattle.cilk_hypermap.proofs.hypermap.Hypermap.retire.Goals as goal

pub returns : goal.returns
returns c = search rules
