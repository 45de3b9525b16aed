use Rattle.std.proofs.Common.{arith, subst}
use Rattle.cilk_workers.specs.Shared.{IsNext, SharedValue, event_order_in}
use Rattle.cilk_workers.proofs.Planned.{next_is}
use Rattle.cilk_workers.proofs.shared.Shared.next.Goals as goal

pub returns : goal.returns
returns c =
    let i = c.self.inside in
    subst (λ (y : SharedValue). IsNext (event_order_in y) c.args.at c.next.result) c.self.view_is
    (next_is i.plan.now i.yard.now.event_order c.args.at c.next.result c.self.invariant.0 c.frames_are_along.ensures (omega arith) c.next.ensures)
