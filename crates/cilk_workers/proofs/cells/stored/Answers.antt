use Rattle.std.proofs.Common.{◌≡◌, inr, ◌<◌, ◌∙◌, Some, length, sym, ap, w64, to_z, of_z}
use Rattle.std.proofs.lemmas.Int.{to_z-of_z}
use Rattle.cilk_types.specs.declared.event.Event.TheVariants.{Write}
use Rattle.cilk_tree.specs.declared.kind.Kind.TheVariants as kinds
use Rattle.cilk_tree.specs.Runs.{IsAsked}
use Rattle.cilk_tree.specs.Word.{event}
use Rattle.cilk_workers.specs.Asks.{Carries, HasNumber}
use Rattle.cilk_workers.specs.Shared.{event_order_in}
use Rattle.cilk_workers.proofs.Due.{answered_done, in_yard, off_chain, on_chain}
use Rattle.cilk_workers.proofs.OfKind.{has_number, with_number}
use Rattle.cilk_workers.proofs.cells.stored.Goals as goal

pub number_asked-number-requires-clause-asked : goal.number_asked-number-requires-clause-asked
number_asked-number-requires-clause-asked c =
    let due = c.requires.due in
    on_chain (λ s at. IsAsked s at) c.args.shared.now c.args.work.now due.works c.laws.ensures.same due.asked

pub number_asked-number-requires-clause-number : goal.number_asked-number-requires-clause-number
number_asked-number-requires-clause-number c =
    let due = c.requires.due in
    let p = c.args.work.now.piece in
    on_chain (λ s at. HasNumber (event s at)) c.args.shared.now c.args.work.now due.works c.laws.ensures.same (has_number (event (event_order_in c.args.shared.now) p.upto) (kinds.Write c.args.cell) due.kind_is tt)

pub store-requires-clause-next : goal.store-requires-clause-next
store-requires-clause-next c =
    let y = c.args.shared.now in
    let due = c.requires.due in
    let works = due.works in
    let p = c.args.work.now.piece in
    let n = c.number_asked-number.result in
    in_yard (λ s. (p.from < p.upto × IsAsked s p.upto) × (c.args.cell < length s.opening) × (event s p.upto ≡ Some (Write c.args.cell (to_z w64 (of_z w64 n))))) y _ c.yard.ensures (
      (works.good.1, due.asked),
      c.laws.ensures.cells p.upto c.args.cell (inr due.kind_is),
      with_number (event (event_order_in y) p.upto) (kinds.Write c.args.cell) n due.kind_is (off_chain (λ s at. Carries (event s at) n) y c.args.work.now works c.laws.ensures.same c.number_asked-number.ensures)
          ∙ ap (λ v. Some (Write c.args.cell v)) (sym (to_z-of_z w64 n (record { sfits = c.number_asked-number.type_inv }))),
    )

pub answer-requires-clause-answer : goal.answer-requires-clause-answer
answer-requires-clause-answer c = answered_done c.args.shared.now c.args.work.now (kinds.Write c.args.cell) c.requires.due c.requires.more c.laws.ensures.same tt
