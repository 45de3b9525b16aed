use Rattle.cilk_determinacy.proofs.Spells.{events_spell}
use Rattle.cilk_determinacy.proofs.machine_laws.events_spell_the_shape.Goals as goal

pub returns : goal.returns
returns types c = events_spell _
