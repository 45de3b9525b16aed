use Rattle.std.proofs.Common.{ℕ, Bool, inr, length, subst}
use Rattle.cilk_tree.specs.Runs.{IsFollowed}
use Rattle.cilk_tree.specs.declared.event_order.EventOrder.{EventOrder}
use Rattle.cilk_workers.specs.Keys.{TellsSteal}
use Rattle.cilk_workers.specs.Shared.{event_order_in}
use Rattle.cilk_workers.proofs.context.WorkerContext.find_work.Goals as goal

pub returns-then-announce_steal-clause-told : goal.returns-then-announce_steal-clause-told
returns-then-announce_steal-clause-told g c =
    let s = event_order_in c.args.self.now.shared.now in
    let told = subst (λ (z : ℕ × ℕ × Bool). TellsSteal s z.0 z.1 c.args.tools.now.keys.items z.2 c.announce_steal.new.keys.items) (λ i. (c.ticket-child.ensures i, c.from.ensures i, c.if-announce_steal.true i)) c.announce_steal.ensures.told in
    (c.in-Some.task.ticket, c.in-Ok.ensures.1, told)

pub returns-else-announce_steal-clause-told : goal.returns-else-announce_steal-clause-told
returns-else-announce_steal-clause-told g c =
    let s = event_order_in c.args.self.now.shared.now in
    let told = subst (λ (z : ℕ × ℕ × Bool). TellsSteal s z.0 z.1 c.args.tools.now.keys.items z.2 c.announce_steal.new.keys.items) (λ i. (c.ticket-child.ensures i, c.from.ensures i, c.if-announce_steal.false i)) c.announce_steal.ensures.told in
    inr (c.in-Some.task.ticket, c.in-Ok.work.piece.from, c.in-Ok.ensures.1, told)

pub returns-then-ended-clause-sought : goal.returns-then-ended-clause-sought
returns-then-ended-clause-sought g c =
    (subst (λ (s : EventOrder). IsFollowed s (length s.events)) c.requires.piece.0.1 (c.ended.ensures.whole c.if-ended.true), c.in_default.ensures.none, c.in_default.ensures.takes)
