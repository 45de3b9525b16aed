use Rattle.std.proofs.Common.{arith}
use Rattle.std.proofs.lemmas.Fmt.{length-decimal-le}
use Rattle.cilk_cert_text.proofs.spelling.number.Goals as goal

pub put_number-requires : goal.put_number-requires
put_number-requires c =
    omega (arith, length-decimal-le 10 c.from.result (omega arith) (omega arith) (omega arith), c.requires, c.byte-at.ensures.end, c.byte-at.auto.room)

pub returns-clause-short : goal.returns-clause-short
returns-clause-short c =
    omega (arith, length-decimal-le 10 c.from.result (omega arith) (omega arith) (omega arith), c.byte-at.ensures.end, c.put_number.ensures.end)
