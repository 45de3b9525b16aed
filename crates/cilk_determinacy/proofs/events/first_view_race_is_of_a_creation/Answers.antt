use Rattle.cilk_determinacy.proofs.Creations.{have_creations}
use Rattle.cilk_determinacy.proofs.events.first_view_race_is_of_a_creation.Goals as goal

pub returns : goal.returns
returns c = have_creations
