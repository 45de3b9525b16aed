use Rattle.std.proofs.Common.{◌≡◌, Some}
use Rattle.cilk_shared.specs.Reducers.{frame_in}
use Rattle.cilk_tree.specs.Kinds.{kind_of_event}
use Rattle.cilk_tree.specs.Word.{event}
use Rattle.cilk_workers.proofs.Due.{answered_done, can_pass, of_event_order}
use Rattle.cilk_workers.proofs.OfKind.{quiet, silent_done, silent_quiet}
use Rattle.cilk_workers.proofs.passing.passed.Goals as goal

pub pass-requires-clause-next : goal.pass-requires-clause-next
pass-requires-clause-next c =
    let due = c.requires.due.1 in
    let works = due.works in
    can_pass c.args.shared.now c.args.work.now.piece works.good c.laws.ensures.order due.asked c.requires.more c.requires.plain c.requires.ordinary

pub pass-requires-clause-quiet : goal.pass-requires-clause-quiet
pass-requires-clause-quiet c =
    let k = c.requires.due.0 in
    let due = c.requires.due.1 in
    let works = due.works in
    let p = c.args.work.now.piece in
    quiet p.reducers (frame_in p.event_order.events p.upto) (event p.event_order p.upto) k
    (of_event_order (λ s. kind_of_event (event s p.upto) ≡ Some k) c.args.shared.now.run p works.good.0 due.kind_is) (silent_quiet k c.requires.due.2)

pub answer-requires-clause-answer : goal.answer-requires-clause-answer
answer-requires-clause-answer c =
    answered_done c.args.shared.now c.args.work.now c.requires.due.0 c.requires.due.1 c.requires.more c.laws.ensures.same (silent_done c.requires.due.0 c.requires.due.2)
