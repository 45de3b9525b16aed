use Rattle.std.proofs.Common.{rules, ◌≡◌, ◌<◌, ◌∙◌, ℕ, sym, ap, subst}
use Rattle.cilk_types.specs.declared.event.Event.TheVariants as events
use Rattle.cilk_replay.specs.Chains.{ChainValue, standing}
use Rattle.cilk_tree.specs.declared.kind.Kind.TheVariants as kinds
use Rattle.cilk_shared.specs.Values.{YardValue}
use Rattle.cilk_tree.specs.Runs.{IsAsked}
use Rattle.cilk_tree.specs.Word.{event, resume, spawn, word_step}
use Rattle.cilk_workers.specs.BegunTurn.{IsStart}
use Rattle.cilk_workers.specs.Shared.{event_order_in}
use Rattle.cilk_workers.proofs.BegunTurn.{starts}
use Rattle.cilk_workers.proofs.Bursts.{spawn_at}
use Rattle.cilk_workers.proofs.Due.{chain_follows, here, in_yard, on_chain, on_standing}
use Rattle.cilk_workers.proofs.OfKind.{what_spawn}
use Rattle.cilk_workers.proofs.starting.spawned.Goals as goal

pub unreachable-requires : goal.unreachable-requires
unreachable-requires c =
    let y = c.args.shared.now in
    let p = c.args.work.now.piece in
    let due = c.requires.due.1 in
    let r = c.laws.ensures.order.returns p.upto (what_spawn (event_order_in y) p.upto c.requires.due.0 due.kind_is) in
    c.in_default.not-Some r.0 ((c.resumption.ensures r.0).1 (in_yard (λ s. word_step s r.0 ≡ resume c.upto-at.result) y _ c.yard.ensures
    (subst (λ (n : ℕ). word_step (event_order_in y) r.0 ≡ resume n) (sym c.upto-at.ensures) r.1)))

pub frame_begun-frame-requires-clause-start : goal.frame_begun-frame-requires-clause-start
frame_begun-frame-requires-clause-start c =
    let y = c.args.shared.now in
    let p = c.args.work.now.piece in
    let due = c.requires.due.1 in
    subst (λ (n : ℕ). IsStart (event (event_order_in y) n)) (sym c.upto-at.ensures) (starts (event (event_order_in y) p.upto) (kinds.Spawn c.requires.due.0) due.kind_is tt)

pub spawn-requires-clause-spawns : goal.spawn-requires-clause-spawns
spawn-requires-clause-spawns c =
    let y = c.args.shared.now in
    let p = c.args.work.now.piece in
    let f = c.requires.due.0 in
    let due = c.requires.due.1 in
    let same = c.laws.ensures.same in
    let there = subst (λ (z : YardValue). word_step z.event_order c.in-Some.next ≡ resume c.upto-at.result) c.yard.ensures ((c.resumption.ensures c.in-Some.next).0 c.in-Some.is) in (
      (f, chain_follows y c.args.work.now (kinds.Spawn f) due c.requires.more same (events.Spawn f) (here y c.args.work.now (kinds.Spawn f) due c.requires.more same).1),
      on_chain (λ s at. word_step s c.in-Some.next ≡ resume at) y c.args.work.now due.works same (subst (λ (n : ℕ). word_step (event_order_in y) c.in-Some.next ≡ resume n) c.upto-at.ensures there),
    )

pub offer-ticket-requires-clause-next : goal.offer-ticket-requires-clause-next
offer-ticket-requires-clause-next c =
    let y = c.args.shared.now in
    let p = c.args.work.now.piece in
    let due = c.requires.due.1 in
    let works = due.works in
    in_yard (λ s. (p.from < p.upto × IsAsked s p.upto) × (word_step s p.upto ≡ spawn)) y _ c.yard-2.ensures
    ((works.good.1, due.asked), what_spawn (event_order_in y) p.upto c.requires.due.0 due.kind_is)

pub new-requires : goal.new-requires
new-requires c =
    let y = c.args.shared.now in
    let due = c.requires.due.1 in
    let works = due.works in
    let there = subst (λ (z : YardValue). word_step z.event_order c.in-Some.next ≡ resume c.upto-at.result) c.yard.ensures ((c.resumption.ensures c.in-Some.next).0 c.in-Some.is) in
    on_standing (λ s at. word_step s at ≡ resume c.offer-ticket.result) y c.in-Ok.rest c.in-Some.next (c.in-Ok.ensures.parent ∙ ap (λ (k : ChainValue). standing k.of c.in-Some.next) works.stands) c.laws.ensures.same
    (subst (λ (n : ℕ). word_step (event_order_in y) c.in-Some.next ≡ resume n) (c.upto-at.ensures ∙ sym c.offer-ticket.ensures.ticket) there)

pub returns-clause-turned : goal.returns-clause-turned
returns-clause-turned c =
    let y = c.args.shared.now in
    let p = c.args.work.now.piece in
    let due = c.requires.due.1 in
    (search rules, search rules, search rules, search rules, spawn_at (event_order_in y) p.upto c.requires.due.0 due.kind_is)
