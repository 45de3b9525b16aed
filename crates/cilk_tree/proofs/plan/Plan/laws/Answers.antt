use Rattle.std.proofs.Common.{subst}
use Rattle.cilk_tree.specs.Planned.{HasOneAhead}
use Rattle.cilk_tree.proofs.Passing.{one_ahead}
use Rattle.cilk_tree.proofs.plan.Plan.laws.Goals as goal

pub returns-clause-ahead : goal.returns-clause-ahead
returns-clause-ahead c = subst HasOneAhead c.self.view_is (one_ahead c.self.inside.events.value c.self.inside.opening.items)
