use Rattle.std.proofs.Common.{arith}
use Rattle.itoa.proofs.Decimal.{decimal_four, length_four}
use Rattle.cilk_cert_text.proofs.Pairs.{joined}
use Rattle.cilk_cert_text.proofs.digits.put_digits.Goals as goal

pub put_short-at-requires-clause-room : goal.put_short-at-requires-clause-room
put_short-at-requires-clause-room c = omega (arith, length_four c.args.n c.if-n-lt10000.false c.ranges.n.fits, c.requires)

pub put_four-requires-clause-room : goal.put_four-requires-clause-room
put_four-requires-clause-room c =
    omega (arith, length_four c.args.n c.if-n-lt10000.false c.ranges.n.fits, c.requires, c.put_short-at.ensures.end, c.put_short-at.auto.room)

pub returns-clause-text : goal.returns-clause-text
returns-clause-text c =
    joined _ _ _ _ _ _ c.put_four.ensures c.put_short-at.ensures.text (decimal_four c.args.n c.if-n-lt10000.false c.ranges.n.fits)

pub returns-clause-end : goal.returns-clause-end
returns-clause-end c = omega (arith, length_four c.args.n c.if-n-lt10000.false c.ranges.n.fits, c.put_short-at.ensures.end)
