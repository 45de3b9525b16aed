use Rattle.std.proofs.Common.{◌≡◌, arith, List, None, Some, inl, inr, refl, sym, ap, rules, subst}
use Rattle.cilk_replay.specs.Starts.{BeginsInBlock}
use Rattle.cilk_shared.specs.Pieces.{PieceValue}
use Rattle.cilk_tree.specs.Word.{event}
use Rattle.cilk_types.specs.declared.event.Event.TheVariants.{Sync}
use Rattle.cilk_workers.specs.Bursts.{KeepsTasks, stays}
use Rattle.cilk_workers.specs.Keys.{Arrived}
use Rattle.cilk_workers.specs.Shared.{SharedValue, event_order_in}
use Rattle.cilk_workers.specs.Turns.{IsHeldUp}
use Rattle.cilk_workers.proofs.Bursts.{as_before, goes, goes_on, joined, may_arrive, offers, resumes, stops, was_pushed, was_refused}
use Rattle.cilk_workers.proofs.Keys.{Key}
use Rattle.cilk_workers.proofs.context.WorkerContext.run_burst.Goals as goal
use Rattle.cilk_workers.proofs.context.WorkerContext.run_burst.Goals.{in-Goes, in-Offers+else-not-offered, in-Ended+in-Some}

-- where a piece is held up
held_up : (y : SharedValue) (before p : PieceValue) → p ≡ before → IsHeldUp y before → (event (event_order_in y) p.upto ≡ Some Sync) × BeginsInBlock (event_order_in y) p.from p.upto
held_up y before p same held =
    let owed = held.2 in subst (λ (q : PieceValue). (event (event_order_in y) q.upto ≡ Some Sync) × BeginsInBlock (event_order_in y) q.from q.upto) (sym same) (held.0, owed.begins)

pub arrived-requires-clause-ends : goal.arrived-requires-clause-ends
arrived-requires-clause-ends g c = let turned = c.in-Arrives.ensures.turned in held_up c.args.self.now.shared.now c.along.new.work.piece c.act.new.work.piece turned.1 turned.2

pub each-init : goal.each-init
each-init g c = record { works = c.requires.works; keys = c.requires.keys; untold = refl; idle = refl; kept = ((refl, omega arith), stays) }

pub each-preserved : goal.each-preserved
each-preserved g c =
    let start = c.args.work.piece in
    let i = c.each.invariant in
    let y = c.args.self.now.shared.now in
    let s = event_order_in y in
    let before = c.along.new.work.piece in
    let was = c.each.work.piece in
    let so_far = goes_on c.args.self.now.shared.now start.upto c.args.tools.now.rack was.upto before.upto c.each.tools.rack i.kept c.along.ensures.grows in
    let after = c.act.new.work.piece in
    let rack = c.each.tools.rack in
    elim c.match-act.branch [
      | in-Goes w ↦ record {
        works = search rules;
        keys = search rules;
        untold = search rules;
        idle = search rules;
        kept = joined y start.upto c.args.tools.now.rack _ _ _ _ w.work-is w.tools-is (goes y start.upto c.args.tools.now.rack before after rack so_far w.in-Goes.ensures.turned.1 w.in-Goes.ensures.spawn);
      }
      | in-Offers+else-not-offered w ↦ record {
        works = search rules;
        keys = search rules;
        untold = search rules;
        idle = search rules;
        kept =
            let turned = w.in-Offers.ensures.turned in
            let more = was_pushed rack w.in-Offers.task w.offered.result w.offered.new.rack w.offered.ensures.rule w.if-not-offered.false in
            joined y start.upto c.args.tools.now.rack _ _ _ _ w.work-is w.tools-is
            (offers y start.upto c.args.tools.now.rack before after rack w.offered.new.rack w.in-Offers.task so_far turned.1 turned.4 turned.3 more w.offered.ensures.same);
      }
      | in-Ended+in-Some w ↦ record {
        works = search rules;
        keys = search rules;
        untold = search rules;
        idle = search rules;
        kept =
            let there = stops y start.upto c.args.tools.now.rack before after rack w.in-Ended.denied so_far w.in-Ended.ensures.turned.1.1 in
            let popped = resumes y start.upto c.args.tools.now.rack after.upto rack w.behind.new.rack w.in-Some.task there w.in-Some.ensures.rule w.behind.ensures.same w.own.ensures.resumes in
            joined y start.upto c.args.tools.now.rack _ _ _ _ w.work-is w.tools-is (subst (λ (p : PieceValue). KeepsTasks s start.upto c.args.tools.now.rack p.upto w.behind.new.rack) (sym w.own.ensures.same) popped);
      }
    ]

pub returns-then-not-offered-clause-told : goal.returns-then-not-offered-clause-told
returns-then-not-offered-clause-told g c =
    let start = c.args.work.piece in
    let i = c.each.invariant in
    let rack = c.each.tools.rack in
    let same = was_refused rack c.in-Offers.task c.offered.result c.offered.new.rack c.offered.ensures.rule c.if-not-offered.true in
    let before = c.along.new.work.piece in
    let was = c.each.work.piece in
    let so_far = goes_on c.args.self.now.shared.now start.upto c.args.tools.now.rack was.upto before.upto c.each.tools.rack i.kept c.along.ensures.grows in
    (i.idle, inl (i.untold, (before.upto, tt, as_before c.args.self.now.shared.now start.upto c.args.tools.now.rack before.upto rack c.offered.new.rack so_far same c.offered.ensures.same)))

pub returns-in_default-clause-told : goal.returns-in_default-clause-told
returns-in_default-clause-told g c =
    let start = c.args.work.piece in
    let i = c.each.invariant in
    let y = c.args.self.now.shared.now in
    let s = event_order_in y in
    let before = c.along.new.work.piece in
    let was = c.each.work.piece in
    let so_far = goes_on c.args.self.now.shared.now start.upto c.args.tools.now.rack was.upto before.upto c.each.tools.rack i.kept c.along.ensures.grows in
    let after = c.act.new.work.piece in
    let rack = c.each.tools.rack in
    let its = λ (ks : List Key). Arrived s c.into_piece.result None ks c.arrived-next.result c.arrived-next.new.keys.items in
    let there = stops y start.upto c.args.tools.now.rack before after rack c.in-Ended.denied so_far c.in-Ended.ensures.turned.1.1 in
    let kept = as_before y start.upto c.args.tools.now.rack after.upto rack c.behind.new.rack there c.in_default.ensures.rule c.behind.ensures.same in (
      i.idle,
      inr (
        c.into_piece.result,
        None,
        subst its i.untold c.arrived-next.ensures.told,
        subst (λ (p : PieceValue). KeepsTasks s start.upto c.args.tools.now.rack p.upto c.behind.new.rack) (sym c.into_piece.ensures) kept,
        may_arrive y start.upto c.args.tools.now.rack g.N.Naming.taken before after c.into_piece.result c.behind.new.rack c.in-Ended.denied c.in-Ended.ensures.turned.1.1 c.in_default.ensures.none c.into_piece.ensures,
      ),
    )

pub returns-in-Arrives-clause-told : goal.returns-in-Arrives-clause-told
returns-in-Arrives-clause-told g c =
    let start = c.args.work.piece in
    let i = c.each.invariant in
    let s = event_order_in c.args.self.now.shared.now in
    let before = c.along.new.work.piece in
    let was = c.each.work.piece in
    let so_far = goes_on c.args.self.now.shared.now start.upto c.args.tools.now.rack was.upto before.upto c.each.tools.rack i.kept c.along.ensures.grows in
    let after = c.act.new.work.piece in
    let chain = Some c.act.new.work.chain in
    let its = λ (ks : List Key). Arrived s after chain ks c.arrived.result c.arrived.new.keys.items in
    let turned = c.in-Arrives.ensures.turned in (
      i.idle,
      inr (
        after,
        chain,
        subst its i.untold c.arrived.ensures.told,
        subst (λ (p : PieceValue). KeepsTasks s start.upto c.args.tools.now.rack p.upto c.each.tools.rack) (sym turned.1) so_far,
        tt,
      ),
    )

pub returns-in-Finished-clause-told : goal.returns-in-Finished-clause-told
returns-in-Finished-clause-told g c =
    let start = c.args.work.piece in
    let i = c.each.invariant in
    let before = c.along.new.work.piece in
    let was = c.each.work.piece in
    let so_far = goes_on c.args.self.now.shared.now start.upto c.args.tools.now.rack was.upto before.upto c.each.tools.rack i.kept c.along.ensures.grows in
    let after = c.act.new.work.piece in
    let kept = goes c.args.self.now.shared.now start.upto c.args.tools.now.rack before after c.each.tools.rack so_far c.in-Finished.ensures.turned.1 c.in-Finished.ensures.spawn in
    (i.idle, inl (i.untold, (after.upto, ap (λ (p : PieceValue). p.upto) c.into_piece-in-Finished.ensures, kept)))

pub returns-in-Departed-clause-told : goal.returns-in-Departed-clause-told
returns-in-Departed-clause-told g c =
    let start = c.args.work.piece in
    let i = c.each.invariant in
    let before = c.along.new.work.piece in
    let was = c.each.work.piece in
    let so_far = goes_on c.args.self.now.shared.now start.upto c.args.tools.now.rack was.upto before.upto c.each.tools.rack i.kept c.along.ensures.grows in
    (i.idle, inl (i.untold, (before.upto, c.in-Departed.ensures.turned.1, so_far)))

pub returns-in-Stopped-clause-told : goal.returns-in-Stopped-clause-told
returns-in-Stopped-clause-told g c =
    let start = c.args.work.piece in
    let i = c.each.invariant in
    let before = c.along.new.work.piece in
    let was = c.each.work.piece in
    let so_far = goes_on c.args.self.now.shared.now start.upto c.args.tools.now.rack was.upto before.upto c.each.tools.rack i.kept c.along.ensures.grows in
    (i.idle, inl (i.untold, (before.upto, tt, so_far)))

pub returns-clause-told : goal.returns-clause-told
returns-clause-told g c =
    let i = c.each.invariant in
    let before = c.each.work.piece in
    (i.idle, inl (i.untold, (before.upto, refl, i.kept)))
