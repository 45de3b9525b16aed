use Rattle.std.proofs.Common.{arith}
use Rattle.std.proofs.lemmas.Fmt.{length-decimal-le}
use Rattle.cilk_cert_text.proofs.spelling.value.Goals as goal

pub put_number-requires : goal.put_number-requires
put_number-requires c =
    let few = length-decimal-le 19 c.unsigned_abs.result (omega arith) (omega arith) (omega arith) in
    omega (arith, few, c.requires, c.byte-at.ensures.end, c.byte-at.auto.room, c.byte-at-then-value-lt0.ensures.end, c.byte-at-then-value-lt0.auto.room)

pub returns-then-value-lt0-clause-short : goal.returns-then-value-lt0-clause-short
returns-then-value-lt0-clause-short c =
    let few = length-decimal-le 19 c.unsigned_abs.result (omega arith) (omega arith) (omega arith) in
    omega (arith, few, c.byte-at.ensures.end, c.byte-at-then-value-lt0.ensures.end, c.put_number.ensures.end)

pub put_number-requires-2 : goal.put_number-requires-2
put_number-requires-2 c =
    let few = length-decimal-le 19 c.unsigned_abs-2.result (omega arith) (omega arith) (omega arith) in
    omega (arith, few, c.requires, c.byte-at.ensures.end, c.byte-at.auto.room)

pub returns-clause-short : goal.returns-clause-short
returns-clause-short c =
    let few = length-decimal-le 19 c.unsigned_abs-2.result (omega arith) (omega arith) (omega arith) in
    omega (arith, few, c.byte-at.ensures.end, c.put_number-2.ensures.end)
