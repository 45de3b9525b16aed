use Rattle.std.proofs.Common.{ℕ, true, replicate, ap, ◌∙◌}
use Rattle.cilk_thread_tests.proofs.Own.{own_are_of_whole}
use Rattle.cilk_thread_tests.proofs.settings.on_its_own.Goals as goal

pub returns-clause-run : goal.returns-clause-run
returns-clause-run c = own_are_of_whole c.args.accepted.now c.in_ok-whole.whole.run c.in_ok-whole.whole.event_order c.into_events.result c.in_ok-yard.yard.event_order
    c.in_ok-events.events c.in_ok-asked.asked.items c.input.result.now c.in_ok-whole.ensures c.into_events.ensures c.laws.ensures.plan
    c.in_ok-yard.ensures.along c.in_ok-yard.ensures.own c.input.ensures.value (c.in_ok-events.ensures ∙ c.trace.ensures.value)
    (c.in_ok-asked.ensures ∙ ap (λ (n : ℕ). replicate n true) c.len.ensures.events)
