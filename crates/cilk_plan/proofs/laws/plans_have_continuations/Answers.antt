use Rattle.cilk_plan.proofs.Blocked.{have_continuations}
use Rattle.cilk_plan.proofs.laws.plans_have_continuations.Goals as goal

pub returns : goal.returns
returns c = have_continuations
