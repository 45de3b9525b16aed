use Rattle.cilk_determinacy.specs.MachineTheorem.{follows}
use Rattle.cilk_determinacy.proofs.Progress.{progress}
use Rattle.cilk_determinacy.proofs.machine_laws.machine_has_progress.Goals as goal

pub returns : goal.returns
returns types c = λ M next C. progress _ _ M (follows next) C
