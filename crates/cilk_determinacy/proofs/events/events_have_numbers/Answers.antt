use Rattle.cilk_determinacy.proofs.Numbered.{events_numbered}
use Rattle.cilk_determinacy.proofs.events.events_have_numbers.Goals as goal

pub returns : goal.returns
returns c = events_numbered
