use Rattle.std.proofs.Common.{arith}
use Rattle.cilk_tree.proofs.Numbered.{earliest_told}
use Rattle.cilk_tree.proofs.plan.Plan.earliest_before.Goals as goal

pub returns-then-first-eq0 : goal.returns-then-first-eq0
returns-then-first-eq0 c =
    let h = earliest_told c.self.inside.events.value c.self.inside.opening.items c.args.self.now c.args.at c.saturating_sub.result c.number_in-first.result c.self.inside.earliest.items
    c.self.view_is c.saturating_sub.ensures c.self.invariant.4 c.number_in-first.ensures in
    h.1 c.if-first-eq0.true

pub returns-else-first-eq0 : goal.returns-else-first-eq0
returns-else-first-eq0 c =
    let h = earliest_told c.self.inside.events.value c.self.inside.opening.items c.args.self.now c.args.at c.saturating_sub.result c.number_in-first.result c.self.inside.earliest.items
    c.self.view_is c.saturating_sub.ensures c.self.invariant.4 c.number_in-first.ensures in
    h.0 (let some = c.if-first-eq0.false in omega (arith, some))
