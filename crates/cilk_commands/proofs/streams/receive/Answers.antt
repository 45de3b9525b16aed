use Rattle.std.proofs.Common.{◌≡◌, length, take, subst, arith, length-take, ◌∙◌}
use Rattle.std.specs.Prelude.{IfSome}
use Rattle.cilk_commands.proofs.Reading.{more_read, longer, read_last, read_enough, takes_on}
use Rattle.cilk_commands.proofs.streams.receive.Goals as goal

pub loop-turn-preserved : goal.loop-turn-preserved
loop-turn-preserved g c =
    let same = longer _ _ _ _ _ c.in_ok-count.ensures.grows in
    record {
      within = omega (arith, c.in_ok-count.ensures.within, same, length-take c.min-room.result c.loop-turn.buffer);
      far = omega (arith, same);
      few = omega (arith, c.receive_some.ensures.one);
      unfailed = c.in_ok-count.ensures.unfailed ∙ c.loop-turn.invariant.unfailed;
      read = more_read _ _ _ _ _ _ c.loop-turn.invariant.read c.in_ok-count.ensures.grows;
    }

pub returns-then-count-eq0-clause-whole : goal.returns-then-count-eq0-clause-whole
returns-then-count-eq0-clause-whole g c =
    read_last _ _ _ _ _ _ _ c.loop-turn.invariant.within c.loop-turn.invariant.read c.in_ok-count.ensures.grows c.if-count-eq0.true

pub returns-then-room-eq0-clause-whole : goal.returns-then-room-eq0-clause-whole
returns-then-room-eq0-clause-whole g c =
    let full : length c.loop-turn.text.items ≡ 262145 = omega arith in
    subst (λ n. IfSome (g.R.CountedRead.remaining c.args.input.now) (λ all. c.loop-turn.text.items ≡ take n all)) full (read_enough _ _ _ c.loop-turn.invariant.read)

pub returns-clause-whole : goal.returns-clause-whole
returns-clause-whole g c =
    let full : length c.loop-turn.text.items ≡ 262145 = omega arith in
    subst (λ n. IfSome (g.R.CountedRead.remaining c.args.input.now) (λ all. c.loop-turn.text.items ≡ take n all)) full (read_enough _ _ _ c.loop-turn.invariant.read)

pub returns-then-count-eq0-clause-taken : goal.returns-then-count-eq0-clause-taken
returns-then-count-eq0-clause-taken g c = more_read _ _ _ _ _ _ c.loop-turn.invariant.read c.in_ok-count.ensures.grows

pub returns-in_err-count-clause-most : goal.returns-in_err-count-clause-most
returns-in_err-count-clause-most g c =
    takes_on _ _ _ _ _ _ c.loop-turn.invariant.read c.receive_some.ensures.some (omega (arith, length-take c.min-room.result c.loop-turn.buffer))

pub returns-then-count-eq0-clause-most : goal.returns-then-count-eq0-clause-most
returns-then-count-eq0-clause-most g c =
    takes_on _ _ _ _ _ _ c.loop-turn.invariant.read c.receive_some.ensures.some (omega (arith, length-take c.min-room.result c.loop-turn.buffer))

pub returns-then-room-eq0-clause-most : goal.returns-then-room-eq0-clause-most
returns-then-room-eq0-clause-most g c = (c.loop-turn.text.items, c.loop-turn.invariant.read, c.loop-turn.invariant.within)

pub returns-clause-most : goal.returns-clause-most
returns-clause-most g c = (c.loop-turn.text.items, c.loop-turn.invariant.read, c.loop-turn.invariant.within)
