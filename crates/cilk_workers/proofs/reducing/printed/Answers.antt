use Rattle.std.proofs.Common.{sym, subst, w64}
use Rattle.std.proofs.lemmas.Int.{to_z-of_z}
use Rattle.cilk_shared.specs.Pieces.{PassesOn}
use Rattle.cilk_types.specs.declared.event.Event.TheVariants as events
use Rattle.cilk_tree.specs.declared.kind.Kind.TheVariants as kinds
use Rattle.cilk_tree.specs.Runs.{IsAsked}
use Rattle.cilk_tree.specs.Word.{event}
use Rattle.cilk_workers.specs.Asks.{Carries, HasNumber}
use Rattle.cilk_workers.specs.Shared.{event_order_in}
use Rattle.cilk_workers.proofs.OfKind.{has_number, no_sync, what_plain, with_number}
use Rattle.cilk_workers.proofs.Due.{answered_done, off_chain, can_pass, on_chain, passes}
use Rattle.cilk_workers.proofs.reducing.printed.Goals as goal

pub print-requires-clause-next : goal.print-requires-clause-next
print-requires-clause-next c =
    let y = c.args.shared.now in
    let p = c.args.work.now.piece in
    let due = c.requires.due in
    let works = due.works in
    let is = due.kind_is in
    subst (λ v. PassesOn p (events.Print v)) (sym (to_z-of_z w64 c.number_asked-number.result (record { sfits = c.number_asked-number.type_inv })))
    (passes y p (events.Print c.number_asked-number.result) works.good (can_pass y p works.good c.laws.ensures.order due.asked c.requires.more (what_plain (event_order_in y) p.upto kinds.Print is tt) (no_sync (event (event_order_in y) p.upto) kinds.Print is (λ q. cc q)))
    (with_number (event (event_order_in y) p.upto) kinds.Print c.number_asked-number.result is (off_chain (λ s at. Carries (event s at) c.number_asked-number.result) y c.args.work.now works c.laws.ensures.same c.number_asked-number.ensures)))

pub number_asked-number-requires-clause-asked : goal.number_asked-number-requires-clause-asked
number_asked-number-requires-clause-asked c =
    let due = c.requires.due in
    on_chain (λ s at. IsAsked s at) c.args.shared.now c.args.work.now due.works c.laws.ensures.same due.asked

pub number_asked-number-requires-clause-number : goal.number_asked-number-requires-clause-number
number_asked-number-requires-clause-number c =
    let due = c.requires.due in
    let p = c.args.work.now.piece in
    on_chain (λ s at. HasNumber (event s at)) c.args.shared.now c.args.work.now due.works c.laws.ensures.same (has_number (event (event_order_in c.args.shared.now) p.upto) kinds.Print due.kind_is tt)

pub answer-requires-clause-answer : goal.answer-requires-clause-answer
answer-requires-clause-answer c = answered_done c.args.shared.now c.args.work.now kinds.Print c.requires.due c.requires.more c.laws.ensures.same tt
