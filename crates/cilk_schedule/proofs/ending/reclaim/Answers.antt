use Rattle.cilk_schedule.proofs.Parting.{seeks_length}
use Rattle.cilk_schedule.proofs.ending.reclaim.Goals as goal

pub returns-clause-same : goal.returns-clause-same
returns-clause-same c = seeks_length _ _ _ _ _ _ c.take_back.ensures
