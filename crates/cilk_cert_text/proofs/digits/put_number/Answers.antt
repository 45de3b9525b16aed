use Rattle.std.proofs.Common.{◌/◌, arith}
use Rattle.std.proofs.lemmas.Fmt.{length-decimal-le}
use Rattle.cilk_cert_text.proofs.Pairs.{joined}
use Rattle.cilk_cert_text.proofs.Threes.{decimal_thousand, length_thousand}
use Rattle.cilk_cert_text.proofs.digits.put_number.Goals as goal

pub returns-clause-text : goal.returns-clause-text
returns-clause-text c =
    joined _ _ _ _ _ _ c.put_three.ensures c.put_leading-at.ensures.text (decimal_thousand c.args.n c.if-n-lt1000.false c.ranges.n.fits)

pub returns-clause-end : goal.returns-clause-end
returns-clause-end c = omega (arith, length_thousand c.args.n c.if-n-lt1000.false c.ranges.n.fits, c.put_leading-at.ensures.end)

pub put_three-requires-clause-room : goal.put_three-requires-clause-room
put_three-requires-clause-room c =
    let few = length-decimal-le 3 (c.args.n / 1000) (omega arith) (omega arith) (omega arith) in
    omega (arith, few, c.requires.more, c.put_leading-at.ensures.end, c.put_leading-at.auto.room)
