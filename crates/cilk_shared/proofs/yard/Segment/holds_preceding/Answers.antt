use Rattle.std.proofs.Common.{refl}
use Rattle.cilk_shared.proofs.Preceding.{earliest_next, holds_all, holds_from}
use Rattle.cilk_shared.proofs.yard.Segment.holds_preceding.Goals as goal

pub returns-in-None : goal.returns-in-None
returns-in-None c = (
  λ t. holds_all c.args.self.now (earliest_next _ c.args.self.now c.args.plan.now _ _ c.self.view_is c.requires c.earliest_before.ensures c.in-None.is),
  λ h. refl,
)

pub returns-in-Some : goal.returns-in-Some
returns-in-Some c = holds_from _ c.args.self.now c.in-Some.first c.self.view_is (earliest_next _ c.args.self.now c.args.plan.now _ _ c.self.view_is c.requires c.earliest_before.ensures c.in-Some.is)
