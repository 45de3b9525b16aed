use Rattle.cilk_determinacy.specs.MachineTheorem.{follows}
use Rattle.cilk_determinacy.proofs.StretchViews.{are_views}
use Rattle.cilk_determinacy.proofs.MachineTheorem.{follows_determined}
use Rattle.cilk_determinacy.proofs.stretches.pieces_are_views_of_stretches.Goals as goal

pub returns : goal.returns
returns types c = λ M next C w t opening law run free s ok. are_views M law (follows next) C w t opening (follows_determined next) run free s ok
