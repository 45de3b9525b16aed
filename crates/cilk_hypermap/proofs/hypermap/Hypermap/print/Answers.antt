use Rattle.std.proofs.Common.{rules}
use Rattle.cilk_hypermap.proofs.hypermap.Hypermap.print.Goals as goal

pub returns-clause-ok : goal.returns-clause-ok
returns-clause-ok c = search rules
