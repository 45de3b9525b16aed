use Rattle.std.proofs.Common.{refl}
use Rattle.cilk_tree.proofs.WorkedPlan.{has_plan}
use Rattle.cilk_tree.proofs.plan_laws.worked_plans.Goals as goal

pub returns : goal.returns
returns c = record { plan = has_plan; predecessors = refl }
