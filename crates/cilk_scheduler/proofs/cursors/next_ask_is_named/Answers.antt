use Rattle.cilk_scheduler.proofs.KeptCursors.{next_is_named}
use Rattle.cilk_scheduler.proofs.cursors.next_ask_is_named.Goals as goal

pub returns : goal.returns
returns c = next_is_named
