use Rattle.std.proofs.Common.{rules, refl, take, arith, length-take}
use Rattle.cilk_checker.proofs.Expected.{heard_again, heard_spelled}
use Rattle.cilk_checker.proofs.hearing.hear_events.Goals as goal

pub returns-then-pass_all-clause-lines : goal.returns-then-pass_all-clause-lines
returns-then-pass_all-clause-lines c = λ text h.
    let end = c.in_ok-end.end in
    let room = c.spell_events.new.room in
    heard_spelled c.args.right.now _ text c.args.piece.now end (take end room) c.args.reader.now c.pass_all.new.self c.args.tally.now c.spell_events.new.tally
    c.in_ok-end.ensures.spells (omega (arith, length-take end room, c.in_ok-end.ensures.within, c.spell_events.auto.room))
    (c.pass_all.ensures.lines c.if-pass_all.true) (c.pass_all.ensures.silent c.if-pass_all.true) h

pub returns-clause-lines : goal.returns-clause-lines
returns-clause-lines c = λ text h.
    heard_again c.args.right.now text c.args.piece.now c.args.reader.now c.pass_all.new.self c.args.tally.now c.events_again.new.tally
    (c.pass_all.ensures.same c.if-pass_all.false)
    (λ d k. c.in_ok-events_again.ensures d c.args.tally.now c.in_ok-end.ensures.rest refl (search rules) k) h
