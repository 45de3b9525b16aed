use Rattle.std.proofs.Common.{◌≡◌, ◌<◌, ◌+◌, ◌∙◌, ℕ, length, inl, sym, ap, subst, arith}
use mathlib.Core.Logic.{dite}
use native.Mathlib.Decide.{dec_lt}
use Rattle.cilk_types.specs.declared.event.Event.TheVariants as events
use Rattle.cilk_workers.specs.Rows.{yard_of}
use Rattle.cilk_replay.specs.Asking.{IsAnswered}
use Rattle.cilk_replay.specs.Chains.{ChainValue, TaskValue, standing}
use Rattle.cilk_replay.specs.Replays.{ReplayValue}
use Rattle.cilk_frames.specs.declared.cursor.Answer.TheVariants.{Done}
use Rattle.cilk_shared.specs.Values.{SegmentValue, YardValue}
use Rattle.cilk_tree.specs.declared.event_order.EventOrder.{EventOrder}
use Rattle.cilk_tree.specs.Orders.{IsOrderly}
use Rattle.cilk_tree.specs.Runs.{IsAsked}
use Rattle.cilk_tree.specs.Word.{IsWord, predecessors_of, event, finish, resume, word_step}
use Rattle.cilk_workers.specs.Shared.{SharedValue, event_order_in}
use Rattle.cilk_workers.proofs.Due.{began, began_there, begun_asked, begun_good, can_take, on_standing}
use Rattle.cilk_workers.proofs.OfKind.{resume_event}
use Rattle.cilk_workers.proofs.turn.begin.Goals as goal

-- the position at which the task continues
resumes : (y : SharedValue) (t : TaskValue) → t.of ≡ y.replay → (let u = y.replay in u.yard ≡ yard_of y.run) → (let u = t.of in let z = u.yard in word_step z.event_order t.at ≡ resume t.ticket)
    → word_step (event_order_in y) t.at ≡ resume t.ticket
resumes y t of same is =
    subst (λ (z : YardValue). word_step z.event_order t.at ≡ resume t.ticket) same (subst (λ (u : ReplayValue). let z = u.yard in word_step z.event_order t.at ≡ resume t.ticket) of is)

-- the `resume` is answered with nothing; it isn't the last event
answer : (s : EventOrder) (at ticket : ℕ) → IsOrderly s → word_step s at ≡ resume ticket → IsAsked s at → IsAnswered s at Done
answer s at ticket order is asked =
    let e = resume_event s.events at (event s at) (predecessors_of s at) ticket is in
    let inside = order.inside at (subst IsWord (sym is) tt) in
    let within = inside.1 in
    let more : at < length s.events = dite (dec_lt at (length s.events)) (λ (l : at < length s.events). l)
    (λ no. let last : at ≡ length s.events = omega (arith, no, within) in
    let z : resume ticket ≡ finish = sym is ∙ ap (word_step s) last ∙ order.last in
    absurd (cc z)) in
    (events.Resume e.0, record { first = inside.0; asked = asked; is = e.1; more = more }, tt)

pub take-requires-clause-next : goal.take-requires-clause-next
take-requires-clause-next c =
    let y = c.args.shared.now in
    let t = c.args.task in
    let at = resumes y t c.requires.task c.laws.ensures.same c.rest-rest.ensures.resumption in
    can_take y _ c.args.piece c.ticket-ticket.result t.at c.yard.ensures c.laws.ensures.order (subst (λ (n : ℕ). word_step (event_order_in y) t.at ≡ resume n) (sym c.ticket-ticket.ensures) at)
    (inl c.requires.piece.1)

pub has_followed-requires : goal.has_followed-requires
has_followed-requires c =
    let y = c.args.shared.now in
    let t = c.args.task in
    let at = resumes y t c.requires.task c.laws.ensures.same c.rest-rest.ensures.resumption in
    let there = subst (λ (n : ℕ). word_step (event_order_in y) t.at ≡ resume n) (sym c.ticket-ticket.ensures) at in
    let good = begun_good y _ c.args.piece c.ticket-ticket.result t.at c.take.new.self c.yard.ensures c.laws.ensures.order c.requires.piece.0 c.requires.piece.1 there c.in-Yes.ensures in
    subst (λ (g : SegmentValue). g.from < g.upto) (sym c.segment.ensures) good.0.1

pub answer-requires-clause-answer : goal.answer-requires-clause-answer
answer-requires-clause-answer c =
    let y = c.args.shared.now in
    let t = c.args.task in
    let same = c.laws.ensures.same in
    let at = resumes y t c.requires.task same c.rest-rest.ensures.resumption in
    let there = subst (λ (n : ℕ). word_step (event_order_in y) t.at ≡ resume n) (sym c.ticket-ticket.ensures) at in
    let good = begun_good y _ c.args.piece c.ticket-ticket.result t.at c.take.new.self c.yard.ensures c.laws.ensures.order c.requires.piece.0 c.requires.piece.1 there c.in-Yes.ensures in
    let asked = begun_asked y c.take.new.self _ t.at good.0 good.1 c.segment.ensures c.has_followed.ensures in
    on_standing (λ s p. IsAnswered s p Done) y c.wake-chain.result t.at (c.wake-chain.ensures ∙ c.rest-rest.ensures.rest ∙ ap (λ (u : ReplayValue). standing u t.at) c.requires.task) same
    (answer (event_order_in y) t.at t.ticket c.laws.ensures.order at asked)

pub returns-in-Yes : goal.returns-in-Yes
returns-in-Yes c =
    let y = c.args.shared.now in
    let t = c.args.task in
    let at = resumes y t c.requires.task c.laws.ensures.same c.rest-rest.ensures.resumption in
    let there = subst (λ (n : ℕ). word_step (event_order_in y) t.at ≡ resume n) (sym c.ticket-ticket.ensures) at in
    let stands = c.wake-chain.ensures ∙ c.rest-rest.ensures.rest ∙ ap (λ (u : ReplayValue). standing u t.at) c.requires.task in (
      began y c.yard.result.now c.args.piece c.ticket-ticket.result t.at c.take.new.self c.answer.new.self c.yard.ensures c.laws.ensures.order c.requires.piece.0 c.requires.piece.1 there c.in-Yes.ensures
          (c.answer.ensures ∙ ap (λ (k : ChainValue). standing k.of (k.at + 1)) stands),
      subst (λ (n : ℕ). word_step (event_order_in y) c.take.new.self.from ≡ resume n) c.ticket-ticket.ensures
          (began_there y c.yard.result.now c.args.piece c.ticket-ticket.result c.take.new.self c.yard.ensures c.requires.piece.1 c.in-Yes.ensures),
    )
