use Rattle.std.proofs.Common.{rules}
use Rattle.cilk_monoid.proofs.list.AppendMonoid.update.Goals as goal

pub returns-clause-ok : goal.returns-clause-ok
returns-clause-ok c = search rules
