use Rattle.cilk_scheduler.proofs.Nexts.{named_next}
use Rattle.cilk_scheduler.proofs.laws.asks_are_named.Goals as goal

pub returns : goal.returns
returns c = named_next
