use Rattle.std.proofs.Common.{◌≡◌, ◌<◌, sum, get_or, length, sym, ap, ◌∙◌, subst, arith}
use Rattle.cilk_scheduler.proofs.Trees.{whole}
use Rattle.cilk_scheduler.proofs.tally.Tally.total.Goals as goal

pub returns-in-Some : goal.returns-in-Some
returns-in-Some c =
    let h = c.in-Some.ensures.lookup in
    let nodes = c.self.inside.nodes.items in
    let same = c.deref.ensures.value in
    let at = subst (λ l. 1 < length l) same h.3.0 in
    let read = h.3.1 0 ∙ ap (λ l. get_or l 1 0) same in
    let long = c.self.invariant.long in
    read ∙ whole nodes c.self.inside.count c.self.invariant (omega (arith, at, long)) ∙ ap sum c.self.view_is
