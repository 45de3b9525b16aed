use Rattle.cilk_determinacy.specs.MachineTheorem.{follows}
use Rattle.cilk_determinacy.proofs.Kept.{opening_ok}
use Rattle.cilk_determinacy.proofs.machine_laws.opening_is_consistent.Goals as goal

pub returns : goal.returns
returns types c = λ M next C w t opening s o. opening_ok _ _ M (follows next) C w t opening s o
