use Rattle.std.proofs.Common.{◌≡◌, inl, ◌<◌, Some, length, refl, sym, subst, w64}
use Rattle.std.proofs.lemmas.Int.{to_z-of_z}
use Rattle.cilk_replay.specs.Asking.{IsAnswered}
use Rattle.cilk_types.specs.declared.event.Event.TheVariants.{Read}
use Rattle.cilk_frames.specs.declared.cursor.Answer.TheVariants.{Value}
use Rattle.cilk_tree.specs.declared.kind.Kind.TheVariants as kinds
use Rattle.cilk_shared.specs.Values.{YardValue}
use Rattle.cilk_tree.specs.Runs.{IsAsked}
use Rattle.cilk_tree.specs.Word.{event}
use Rattle.cilk_workers.proofs.Due.{answered, here, in_yard}
use Rattle.cilk_workers.proofs.cells.loaded.Goals as goal

pub load-value-requires-clause-next : goal.load-value-requires-clause-next
load-value-requires-clause-next c =
    let due = c.requires.due in
    let works = due.works in
    let p = c.args.work.now.piece in
    in_yard (λ s. (p.from < p.upto × IsAsked s p.upto) × (c.args.cell < length s.opening) × ((v : _) × (event s p.upto ≡ Some (Read c.args.cell v)))) c.args.shared.now _ c.yard.ensures
    ((works.good.1, due.asked), c.laws.ensures.cells p.upto c.args.cell (inl due.kind_is), here c.args.shared.now c.args.work.now (kinds.Read c.args.cell) due c.requires.more c.laws.ensures.same)

pub answer-requires-clause-answer : goal.answer-requires-clause-answer
answer-requires-clause-answer c =
    let p = c.args.work.now.piece in
    let k = c.args.work.now.chain in
    subst (λ v. IsAnswered k.of.yard.event_order k.at (Value v)) (sym (to_z-of_z w64 c.load-value.result (record { sfits = c.load-value.type_inv })))
    (answered c.args.shared.now c.args.work.now (kinds.Read c.args.cell) c.requires.due c.requires.more c.laws.ensures.same c.load-value.result (Value c.load-value.result)
    (subst (λ (z : YardValue). event z.event_order p.upto ≡ Some (Read c.args.cell c.load-value.result)) c.yard.ensures c.load-value.ensures.value) refl)
