use Rattle.std.proofs.Common.{◌++◌, take, ap, ◌∙◌, sym, arith}
use Rattle.std.proofs.lemmas.Fmt.{decimal_digit}
use Rattle.std.proofs.lemmas.List.{take_more_set}
use Rattle.itoa.proofs.Decimal.{length_one, decimal_two, length_two}
use Rattle.cilk_cert_text.proofs.digits.put_first.Goals as goal

pub bounds-room-at : goal.bounds-room-at
bounds-room-at c = omega (arith, length_one c.args.n c.if-n-lt10.true, c.requires.room)

pub returns-then-n-lt10-clause-text : goal.returns-then-n-lt10-clause-text
returns-then-n-lt10-clause-text c =
    take_more_set c.args.room.now c.args.at _ (omega (arith, length_one c.args.n c.if-n-lt10.true, c.requires.room))
    ∙ ap (λ l. take c.args.at c.args.room.now ++ l) (sym (decimal_digit c.args.n c.if-n-lt10.true))

pub returns-then-n-lt10-clause-end : goal.returns-then-n-lt10-clause-end
returns-then-n-lt10-clause-end c = omega (arith, length_one c.args.n c.if-n-lt10.true)

pub put_pair-requires-clause-room : goal.put_pair-requires-clause-room
put_pair-requires-clause-room c = omega (arith, length_two c.args.n c.if-n-lt10.false c.requires.small, c.requires.room)

pub returns-clause-text : goal.returns-clause-text
returns-clause-text c =
    c.put_pair.ensures ∙ ap (λ l. take c.args.at c.args.room.now ++ l) (sym (decimal_two c.args.n c.if-n-lt10.false c.requires.small))

pub returns-clause-end : goal.returns-clause-end
returns-clause-end c = omega (arith, length_two c.args.n c.if-n-lt10.false c.requires.small)
