use Rattle.std.proofs.Common.{rules}
use Rattle.cilk_hypermap.proofs.hypermap.Hypermap.room.Goals as goal

pub returns-clause-room : goal.returns-clause-room
returns-clause-room c = search rules
