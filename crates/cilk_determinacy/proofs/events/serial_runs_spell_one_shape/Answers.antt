use Rattle.cilk_determinacy.proofs.Strands.{spell_one_shape}
use Rattle.cilk_determinacy.proofs.events.serial_runs_spell_one_shape.Goals as goal

pub returns : goal.returns
returns c = spell_one_shape
