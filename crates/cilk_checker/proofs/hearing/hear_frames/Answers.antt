use Rattle.std.proofs.Common.{take, arith, length-take}
use Rattle.cilk_checker.proofs.Expected.{heard_spelled}
use Rattle.cilk_checker.proofs.hearing.hear_frames.Goals as goal

pub returns-then-pass_all-clause-lines : goal.returns-then-pass_all-clause-lines
returns-then-pass_all-clause-lines c = λ text h.
    let end = c.spell_frames-end.result in
    let room = c.spell_frames-end.new.room in
    heard_spelled c.args.right.now _ text c.args.piece.now end (take end room) c.args.reader.now c.pass_all.new.self c.args.tally.now c.spell_frames-end.new.tally
    c.spell_frames-end.ensures.spells (omega (arith, length-take end room, c.spell_frames-end.ensures.within, c.spell_frames-end.auto.room))
    (c.pass_all.ensures.lines c.if-pass_all.true) (c.pass_all.ensures.silent c.if-pass_all.true) h
