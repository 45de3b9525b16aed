use Rattle.std.proofs.Common.{rules}
use Rattle.cilk_hypermap.proofs.hypermap.Hypermap.create.Goals as goal

pub returns-in-Least-clause-ok : goal.returns-in-Least-clause-ok
returns-in-Least-clause-ok c = search rules
