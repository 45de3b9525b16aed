use Rattle.cilk_scheduler.proofs.Refused.{refused_is}
use Rattle.cilk_scheduler.proofs.laws.refusals_are_faults.Goals as goal

pub returns : goal.returns
returns c = refused_is
