use Rattle.std.proofs.Common.{rules}
use Rattle.cilk_monoid.proofs.list.AppendMonoid.room.Goals as goal

pub returns-clause-room : goal.returns-clause-room
returns-clause-room c = search rules
