use Rattle.std.proofs.Common.{rules}
use Rattle.cilk_hypermap.proofs.hypermap.Hypermap.set.Goals as goal

pub returns-in-Append-clause-ok : goal.returns-in-Append-clause-ok
returns-in-Append-clause-ok c = search rules
