use Rattle.cilk_tree.proofs.Spelled.{spells_one}
use Rattle.cilk_tree.proofs.laws.events_spell_one_shape.Goals as goal

pub returns : goal.returns
returns c = spells_one
