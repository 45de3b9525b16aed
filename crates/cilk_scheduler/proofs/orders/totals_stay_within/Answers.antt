use Rattle.cilk_scheduler.proofs.Limits.{totals_within}
use Rattle.cilk_scheduler.proofs.orders.totals_stay_within.Goals as goal

pub returns : goal.returns
returns c = totals_within
