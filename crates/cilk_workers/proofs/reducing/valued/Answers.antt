use Rattle.std.proofs.Common.{◌≡◌, Some, sym, ◌∙◌, rules, subst, w64, SFits}
use Rattle.std.proofs.lemmas.Int.{to_z-of_z}
use Rattle.cilk_replay.specs.Asking.{IsAnswered}
use Rattle.cilk_types.specs.declared.event.Event.TheVariants as events
use Rattle.cilk_frames.specs.declared.cursor.Answer.TheVariants.{Value}
use Rattle.cilk_tree.specs.declared.kind.Kind.TheVariants as kinds
use Rattle.cilk_tree.specs.Runs.{IsAsked, IsFollowed}
use Rattle.cilk_tree.specs.Word.{event, plain, resume}
use Rattle.cilk_workers.specs.Shared.{event_order_in}
use Rattle.cilk_workers.proofs.Due.{ahead, answered, can_pass, here, in_segment, number_read, off_segment, passes}
use Rattle.cilk_workers.proofs.OfKind.{no_sync, what_plain}
use Rattle.cilk_workers.proofs.reducing.valued.Goals as goal

pub follows-requires-clause-next : goal.follows-requires-clause-next
follows-requires-clause-next c =
    let y = c.args.shared.now in
    let p = c.args.work.now.piece in
    let due = c.requires.due in
    let works = due.works in
    ahead y p _ c.segment.ensures works.good (λ k q. let z : plain ≡ resume k = sym (what_plain (event_order_in y) p.upto (kinds.Value c.args.instance) due.kind_is tt) ∙ q in cc z)

pub follows-requires-clause-sync : goal.follows-requires-clause-sync
follows-requires-clause-sync c =
    let y = c.args.shared.now in
    let p = c.args.work.now.piece in
    let due = c.requires.due in
    let works = due.works in
    in_segment (λ s at. event s at ≡ Some events.Sync → ⊥) y p _ c.segment.ensures works.good.0 (no_sync (event (event_order_in y) p.upto) (kinds.Value c.args.instance) due.kind_is (λ q. cc q))

pub follows-requires-clause-asked : goal.follows-requires-clause-asked
follows-requires-clause-asked c =
    let due = c.requires.due in
    let works = due.works in
    in_segment (λ s at. IsAsked s at) c.args.shared.now c.args.work.now.piece _ c.segment.ensures works.good.0 due.asked

pub value-requires-clause-next : goal.value-requires-clause-next
value-requires-clause-next c =
    let y = c.args.shared.now in
    let p = c.args.work.now.piece in
    let due = c.requires.due in
    let works = due.works in
    let is = due.kind_is in
    let k = kinds.Value c.args.instance in
    let e = here y c.args.work.now k due c.requires.more c.laws.ensures.same in
    (e.0, passes y p (events.Value c.args.instance e.0) works.good (can_pass y p works.good c.laws.ensures.order due.asked c.requires.more (what_plain (event_order_in y) p.upto k is tt) (no_sync (event (event_order_in y) p.upto) k is (λ q. cc q))) e.1)

pub answer-requires-clause-answer : goal.answer-requires-clause-answer
answer-requires-clause-answer c =
    let y = c.args.shared.now in
    let p = c.args.work.now.piece in
    let due = c.requires.due in
    let works = due.works in
    let k = kinds.Value c.args.instance in
    let e = here y c.args.work.now k due c.requires.more c.laws.ensures.same in
    let f : SFits w64 c.in-Ok.number = search rules in
    let h = c.args.work.now.chain in
    subst (λ v. IsAnswered h.of.yard.event_order h.at (Value v)) (sym (to_z-of_z w64 c.in-Ok.number f))
    (answered y c.args.work.now k due c.requires.more c.laws.ensures.same e.0 (Value c.in-Ok.number) e.1
    (number_read y p c.args.instance e.0 c.in-Ok.number works.good.0 c.laws.ensures.numbers (off_segment (λ s at. IsFollowed s at) y p _ c.segment.ensures works.good.0 c.follows.ensures) e.1 c.in-Ok.ensures.number))
