use Rattle.std.proofs.Common.{arith}
use Rattle.itoa.proofs.Decimal.{decimal_four, length_four}
use Rattle.cilk_cert_text.proofs.Pairs.{joined}
use Rattle.cilk_cert_text.proofs.digits.+put_long.Goals as goal

pub put_long-at-requires : goal.put_long-at-requires
put_long-at-requires t c =
    let long = length_four c.args.n c.if-n-lt10000.false c.ranges.n.fits in
    (omega (arith, c.decreases), omega (arith, long, c.requires))

pub put_four-requires-clause-room : goal.put_four-requires-clause-room
put_four-requires-clause-room t c =
    omega (arith, length_four c.args.n c.if-n-lt10000.false c.ranges.n.fits, c.requires, c.put_long-at.ensures.end, c.put_long-at.auto.room)

pub returns-clause-text : goal.returns-clause-text
returns-clause-text t c =
    joined _ _ _ _ _ _ c.put_four.ensures c.put_long-at.ensures.text (decimal_four c.args.n c.if-n-lt10000.false c.ranges.n.fits)

pub returns-clause-end : goal.returns-clause-end
returns-clause-end t c = omega (arith, length_four c.args.n c.if-n-lt10000.false c.ranges.n.fits, c.put_long-at.ensures.end)
