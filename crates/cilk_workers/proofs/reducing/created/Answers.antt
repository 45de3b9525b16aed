use Rattle.cilk_types.specs.declared.event.Event.TheVariants as events
use Rattle.cilk_tree.specs.declared.kind.Kind.TheVariants as kinds
use Rattle.cilk_tree.specs.Word.{event}
use Rattle.cilk_workers.specs.Shared.{event_order_in}
use Rattle.cilk_workers.proofs.OfKind.{no_sync, what_plain}
use Rattle.cilk_workers.proofs.Due.{answered_done, can_pass, here, passes}
use Rattle.cilk_workers.proofs.reducing.created.Goals as goal

pub create-requires-clause-next : goal.create-requires-clause-next
create-requires-clause-next c =
    let y = c.args.shared.now in
    let p = c.args.work.now.piece in
    let due = c.requires.due in
    let works = due.works in
    let is = due.kind_is in
    passes y p (events.Create c.args.instance) works.good (can_pass y p works.good c.laws.ensures.order due.asked c.requires.more (what_plain (event_order_in y) p.upto (kinds.Create c.args.instance) is tt) (no_sync (event (event_order_in y) p.upto) (kinds.Create c.args.instance) is (λ q. cc q)))
    (here y c.args.work.now (kinds.Create c.args.instance) due c.requires.more c.laws.ensures.same).1

pub answer-requires-clause-answer : goal.answer-requires-clause-answer
answer-requires-clause-answer c = answered_done c.args.shared.now c.args.work.now (kinds.Create c.args.instance) c.requires.due c.requires.more c.laws.ensures.same tt
