use Rattle.std.proofs.Common.{◌-◌, length, refl, sym, ap, ◌∙◌, subst, arith}
use Rattle.cilk_types.specs.declared.limits.TheConstants.{MAX_TICKS}
use Rattle.cilk_shared.specs.Pieces.{PieceValue}
use Rattle.cilk_replay.specs.Standing.{Stand}
use Rattle.cilk_replay.specs.declared.replay_frame.ReplayFrame.{ReplayFrame}
use Rattle.cilk_replay.proofs.Along.{event_order_of}
use Rattle.cilk_replay.proofs.Stretches.{as_it_was, continued, fits, fewer, frame_of, runs, small}
use Rattle.cilk_replay.proofs.replay_frame.ReplayFrame.along.Goals as goal

pub granted-requires-clause-stands : goal.granted-requires-clause-stands
granted-requires-clause-stands g c = (c.args.self.now, c.requires.stands.0, refl, c.requires.stands.1)

pub returns-in_default-clause-stands : goal.returns-in_default-clause-stands
returns-in_default-clause-stands g c = λ below S. subst (λ (q : PieceValue). Stand c.args.replay.now q.upto c.args.asked.now c.args.self.now below) (sym c.in_default.ensures.made) S

pub overflow_sub-left : goal.overflow_sub-left
overflow_sub-left g c = let p = c.args.piece.now in small c.args.replay.now p.upto c.args.asked.now c.args.self.now c.requires.stands.0 c.requires.stands.1

pub each-init : goal.each-init
each-init g c =
    let l = c.args.self.now in
    let p = c.args.piece.now in
    let few = small c.args.replay.now p.upto c.args.asked.now l c.requires.stands.0 c.requires.stands.1 in
    let same = as_it_was l c.replace-cursor.result (MAX_TICKS - l.took) few c.replace-cursor.ensures.value refl in
    record {
      few = omega arith;
      sight = refl;
      between = record {
        at = p.upto;
        place = c.in-Some.ensures.made.1;
        answered = c.in-Some.ensures.made.0;
        stands = λ below S. subst (λ (z : ReplayFrame). Stand c.args.replay.now p.upto c.args.asked.now z below) (sym same) S;
      };
      reached = c.granted.ensures.reached;
    }

pub step_on-requires-clause-runs : goal.step_on-requires-clause-runs
step_on-requires-clause-runs g c =
    let p = c.args.piece.now in
    let now = c.each.piece in
    let l = c.args.self.now in
    runs c.args.replay.now p.upto c.args.asked.now l now.upto c.each.asked c.each.cursor c.each.left l.sight c.each.answer c.each.invariant.between c.requires.stands.0 c.requires.stands.1

pub step_on-requires-clause-fits : goal.step_on-requires-clause-fits
step_on-requires-clause-fits g c =
    let p = c.args.piece.now in
    let now = c.each.piece in
    let l = c.args.self.now in
    fits c.args.replay.now p.upto c.args.asked.now l now.upto c.each.asked c.each.cursor c.each.left l.sight c.each.answer c.each.invariant.between c.requires.stands.0 c.requires.stands.1

pub granted-requires-in-each-clause-stands : goal.granted-requires-in-each-clause-stands
granted-requires-in-each-clause-stands g c =
    let p = c.args.piece.now in
    let now = c.each.piece in
    let l = c.args.self.now in (
      frame_of c.step_on.new.cursor c.step_on.new.left l.sight,
      c.requires.stands.0,
      sym c.each.invariant.sight,
      continued c.args.replay.now p.upto c.args.asked.now l now.upto c.each.asked c.each.cursor c.each.left l.sight c.each.answer c.each.invariant.between c.step_on.new.asked c.step_on.new.cursor c.step_on.new.left c.step_on.ensures.asks c.requires.stands.0
          c.requires.stands.1,
    )

pub each-preserved : goal.each-preserved
each-preserved g c =
    let p = c.args.piece.now in
    let now = c.each.piece in
    let l = c.args.self.now in
    record {
      few = c.step_on.ensures.few;
      sight = c.each.invariant.sight;
      between = record {
        at = now.upto;
        place = c.in-Some-granted.ensures.made.1;
        answered = c.in-Some-granted.ensures.made.0;
        stands = continued c.args.replay.now p.upto c.args.asked.now l now.upto c.each.asked c.each.cursor c.each.left l.sight c.each.answer c.each.invariant.between c.step_on.new.asked c.step_on.new.cursor c.step_on.new.left c.step_on.ensures.asks;
      };
      reached = λ first h. c.granted-in-each.ensures.reached first (c.each.invariant.reached first h);
    }

pub each-smaller : goal.each-smaller
each-smaller g c =
    let now = c.each.piece in
    let then = c.granted-in-each.new.piece in
    let s = event_order_of c.args.replay.now in
    let made = c.in-Some-granted.ensures.made in
    let follows = made.0.1 in
    fewer (length s.events) now.upto then.upto follows.more made.1

pub returns-in-None-clause-stands : goal.returns-in-None-clause-stands
returns-in-None-clause-stands g c = λ below S.
    let p = c.args.piece.now in
    let now = c.each.piece in
    let l = c.args.self.now in
    let same = ap (frame_of c.step_on.new.cursor c.step_on.new.left) (sym c.each.invariant.sight) ∙ sym c.put_back.ensures in
    subst (λ (q : PieceValue). Stand c.args.replay.now q.upto c.step_on.new.asked c.put_back.new.self below) (sym c.in-None.ensures.made)
    (subst (λ (z : ReplayFrame). Stand c.args.replay.now now.upto c.step_on.new.asked z below) same
    (continued c.args.replay.now p.upto c.args.asked.now l now.upto c.each.asked c.each.cursor c.each.left l.sight c.each.answer c.each.invariant.between c.step_on.new.asked c.step_on.new.cursor c.step_on.new.left c.step_on.ensures.asks below S))
