use Rattle.std.proofs.Common.{◌≡◌, inr, refl, sym, subst}
use Rattle.cilk_replay.specs.Starts.{RangesHoldSpawns}
use Rattle.cilk_shared.specs.Pieces.{PieceValue}
use Rattle.cilk_tree.specs.Word.{resume, word_step}
use Rattle.cilk_workers.specs.Rows.{IsGood}
use Rattle.cilk_workers.specs.Shared.{event_order_in}
use Rattle.cilk_workers.proofs.Due.{answered_done, can_take, took}
use Rattle.cilk_workers.proofs.Held.{has_spawn, of_replay}
use Rattle.cilk_workers.proofs.OfKind.{silent_done}
use Rattle.cilk_workers.proofs.passing.taken.Goals as goal

pub take-requires-clause-next : goal.take-requires-clause-next
take-requires-clause-next c =
    let due = c.requires.due.1 in
    let works = due.works in
    let p = c.args.work.now.piece in
    can_take c.args.shared.now _ p c.args.ticket p.upto c.yard.ensures c.laws.ensures.order c.requires.resumes (inr (works.good.1, refl))

pub answer-requires-clause-answer : goal.answer-requires-clause-answer
answer-requires-clause-answer c =
    answered_done c.args.shared.now c.args.work.now c.requires.due.0 c.requires.due.1 c.requires.more c.laws.ensures.same (silent_done c.requires.due.0 c.requires.due.2)

pub returns-in-Yes : goal.returns-in-Yes
returns-in-Yes c =
    let due = c.requires.due.1 in
    took c.args.shared.now c.yard.result.now c.args.work.now c.args.ticket c.take.new.self c.answer.new.self c.yard.ensures c.laws.ensures.order due.works c.requires.resumes c.in-Yes.ensures c.answer.ensures

pub returns-in-No : goal.returns-in-No
returns-in-No c =
    let y = c.args.shared.now in
    let due = c.requires.due.1 in
    let works = due.works in
    let q = c.take.new.self in
    let same = c.in-No.ensures.0 in
    let good = subst (IsGood y.run) (sym same) works.good in
    let is = subst (λ (x : PieceValue). word_step (event_order_in y) x.upto ≡ resume c.args.ticket) (sym same) c.requires.resumes in
    let law : RangesHoldSpawns (event_order_in y) = of_replay RangesHoldSpawns y _ c.replay-in-No.ensures.replay c.replay-in-No.ensures.yard c.holds_spawns.ensures in (
      good,
      (
        (c.args.ticket, is, has_spawn y q c.args.ticket good c.laws-in-No.ensures.begins c.laws-in-No.ensures.whole law is),
        (same, subst (λ n. word_step (event_order_in y) q.upto ≡ resume n) (sym c.in-No.ensures.1) is),
      ),
    )
