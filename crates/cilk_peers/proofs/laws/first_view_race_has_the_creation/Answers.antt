use Rattle.cilk_peers.proofs.Creations.{first_is}
use Rattle.cilk_peers.proofs.laws.first_view_race_has_the_creation.Goals as goal

pub returns : goal.returns
returns c = first_is
