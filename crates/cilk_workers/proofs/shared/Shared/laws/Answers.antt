use Rattle.std.proofs.Common.{subst}
use Rattle.cilk_workers.specs.Shared.{HasCells, SharedValue, event_order_in}
use Rattle.cilk_shared.specs.Numbers.{HasNumbers}
use Rattle.cilk_workers.proofs.shared.Shared.laws.Goals as goal

pub returns-clause-cells : goal.returns-clause-cells
returns-clause-cells c = subst (λ (y : SharedValue). HasCells (event_order_in y)) c.self.view_is c.self.invariant.3

pub returns-clause-numbers : goal.returns-clause-numbers
returns-clause-numbers c = subst (λ (y : SharedValue). HasNumbers (event_order_in y) (let r = y.run in r.reducers)) c.self.view_is c.self.invariant.4
