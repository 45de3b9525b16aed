use Rattle.cilk_helpers.proofs.Within.{within}
use Rattle.cilk_helpers.proofs.ticks.notes_are_within_fewer_ticks.Goals as goal

pub returns : goal.returns
returns c = within
