use Rattle.cilk_determinacy.specs.MachineTheorem.{follows}
use Rattle.cilk_determinacy.proofs.MachineTheorem.{race_free_agrees, follows_determined}
use Rattle.cilk_determinacy.proofs.machine_laws.cuts_agree.Goals as goal

pub returns : goal.returns
returns types c = λ M next C w t opening law run free. race_free_agrees _ _ M (follows next) C law (follows_determined next) w t opening run free
