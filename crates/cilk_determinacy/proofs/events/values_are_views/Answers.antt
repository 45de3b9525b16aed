use Rattle.cilk_determinacy.proofs.ReducerEvents.{values_viewed, finals_viewed}
use Rattle.cilk_determinacy.proofs.events.values_are_views.Goals as goal

pub returns : goal.returns
returns c = record { values = values_viewed; finals = finals_viewed }
