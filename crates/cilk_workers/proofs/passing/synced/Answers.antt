use Rattle.std.proofs.Common.{◌≡◌, Some, refl, sym, subst}
use Rattle.std.proofs.lemmas.Bool.{iff_false}
use Rattle.cilk_replay.specs.Awaited.{SyncsAwaitSpawns}
use Rattle.cilk_replay.specs.Starts.{RangesBeginInBlocks}
use Rattle.cilk_shared.specs.Pieces.{segment_of}
use Rattle.cilk_shared.specs.Reducers.{frame_in}
use Rattle.cilk_tree.specs.Kinds.{kind_of_event}
use Rattle.cilk_tree.specs.declared.kind.Kind.TheVariants.{Sync}
use Rattle.cilk_shared.specs.Values.{MayPass}
use Rattle.cilk_tree.specs.Runs.{IsAsked}
use Rattle.cilk_tree.specs.Word.{event}
use Rattle.cilk_workers.specs.Shared.{event_order_in}
use Rattle.cilk_workers.proofs.Due.{answered_done, of_event_order}
use Rattle.cilk_workers.proofs.Held.{of_replay, owed_in}
use Rattle.cilk_workers.proofs.OfKind.{quiet, with_kind}
use Rattle.cilk_workers.proofs.passing.synced.Goals as goal

pub returns-then-not-may_pass : goal.returns-then-not-may_pass
returns-then-not-may_pass c =
    let due = c.requires.due in
    let works = due.works in
    let y = c.args.shared.now in
    let p = c.args.work.now.piece in
    let is = (with_kind (event (event_order_in y) p.upto) Sync due.kind_is).1 in
    let held : MayPass (segment_of p) → ⊥ = λ may. iff_false c.may_pass.ensures c.if-not-may_pass.true (subst MayPass (sym c.segment.ensures) may) in
    let law : SyncsAwaitSpawns (event_order_in y) = of_replay SyncsAwaitSpawns y _ c.replay.ensures.replay c.replay.ensures.yard c.awaits.ensures in
    let in_blocks : RangesBeginInBlocks (event_order_in y) = of_replay RangesBeginInBlocks y _ c.replay-then-not-may_pass.ensures.replay c.replay-then-not-may_pass.ensures.yard c.begins_in_blocks.ensures in
    (due.works, refl, (is, held, owed_in y p works.good law in_blocks c.laws.ensures.begins c.laws.ensures.whole c.requires.more is held))

pub pass-requires-clause-next : goal.pass-requires-clause-next
pass-requires-clause-next c =
    let due = c.requires.due in
    let works = due.works in
    let p = c.args.work.now.piece in
    let may = c.may_pass.ensures.0 c.if-not-may_pass.false in
    (subst MayPass c.segment.ensures may, of_event_order (λ s. IsAsked s p.upto) c.args.shared.now.run p works.good.0 due.asked)

pub pass-requires-clause-quiet : goal.pass-requires-clause-quiet
pass-requires-clause-quiet c =
    let due = c.requires.due in
    let works = due.works in
    let p = c.args.work.now.piece in
    quiet p.reducers (frame_in p.event_order.events p.upto) (event p.event_order p.upto) Sync
    (of_event_order (λ s. kind_of_event (event s p.upto) ≡ Some Sync) c.args.shared.now.run p works.good.0 due.kind_is) tt

pub answer-requires-clause-answer : goal.answer-requires-clause-answer
answer-requires-clause-answer c = answered_done c.args.shared.now c.args.work.now Sync c.requires.due c.requires.more c.replay-2.ensures.yard tt
