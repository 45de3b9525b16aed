use Rattle.cilk_determinacy.proofs.Determinate.{is_determinate}
use Rattle.cilk_determinacy.proofs.laws.race_free_programs_are_determinate.Goals as goal

pub returns : goal.returns
returns c = is_determinate
