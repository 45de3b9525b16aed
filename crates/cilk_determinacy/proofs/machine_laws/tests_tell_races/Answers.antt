use Rattle.cilk_determinacy.proofs.Decided.{tests_tell}
use Rattle.cilk_determinacy.proofs.machine_laws.tests_tell_races.Goals as goal

pub returns : goal.returns
returns c = tests_tell
