use Rattle.std.proofs.Common.{arith}
use Rattle.itoa.proofs.Decimal.{decimal_pair, length_pair}
use Rattle.cilk_cert_text.proofs.Pairs.{joined}
use Rattle.cilk_cert_text.proofs.digits.put_short.Goals as goal

pub put_first-at-requires-clause-room : goal.put_first-at-requires-clause-room
put_first-at-requires-clause-room c = omega (arith, length_pair c.args.n c.if-n-lt100.false (omega arith), c.requires.room)

pub put_pair-requires-clause-room : goal.put_pair-requires-clause-room
put_pair-requires-clause-room c =
    omega (arith, length_pair c.args.n c.if-n-lt100.false (omega arith), c.requires.room, c.put_first-at.ensures.end, c.put_first-at.auto.room)

pub returns-clause-text : goal.returns-clause-text
returns-clause-text c =
    joined _ _ _ _ _ _ c.put_pair.ensures c.put_first-at.ensures.text (decimal_pair c.args.n c.if-n-lt100.false (omega arith))

pub returns-clause-end : goal.returns-clause-end
returns-clause-end c = omega (arith, length_pair c.args.n c.if-n-lt100.false (omega arith), c.put_first-at.ensures.end)
