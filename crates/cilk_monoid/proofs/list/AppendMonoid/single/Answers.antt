use Rattle.std.proofs.Common.{rules}
use Rattle.cilk_monoid.proofs.list.AppendMonoid.single.Goals as goal

pub returns : goal.returns
returns c = search rules
