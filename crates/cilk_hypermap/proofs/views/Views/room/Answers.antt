use Rattle.std.proofs.Common.{rules}
use Rattle.cilk_hypermap.proofs.views.Views.room.Goals as goal

pub returns-clause-room : goal.returns-clause-room
returns-clause-room g c = search rules
