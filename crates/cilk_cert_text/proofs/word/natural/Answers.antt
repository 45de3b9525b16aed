use Rattle.std.proofs.Common.{arith, sym}
use Rattle.std.proofs.lemmas.Bool.{eqb-true}
use Rattle.cilk_cert_text.proofs.Numerals.{not_empty, leading_zero, spells_zero, no_digit, over, too_large, spells, not_nil}
use Rattle.cilk_cert_text.proofs.word.natural.Goals as goal

pub returns-then-is_empty-clause-none : goal.returns-then-is_empty-clause-none
returns-then-is_empty-clause-none c = λ n h e. not_empty n c.args.digits.now (omega arith) (eqb-true _ _ (sym c.if-is_empty.ensures)) e

pub returns-then-digits-eq1-clause-found : goal.returns-then-digits-eq1-clause-found
returns-then-digits-eq1-clause-found c = (omega arith, spells_zero c.args.digits.now c.if-digits-eq48.true c.if-digits-eq1.true)

pub returns-else-digits-eq1-clause-none : goal.returns-else-digits-eq1-clause-none
returns-else-digits-eq1-clause-none c = λ n h e. leading_zero n c.args.digits.now (omega arith) c.if-digits-eq48.true c.if-digits-eq1.false e

pub returns-then-not-is_ascii_digit-clause-none : goal.returns-then-not-is_ascii_digit-clause-none
returns-then-not-is_ascii_digit-clause-none c = λ n h e.
    no_digit n c.loop-digit.digit-index c.args.digits.now (omega arith) c.loop-digit-test.true (sym c.if-not-is_ascii_digit.ensures.value) c.loop-digit.invariant.digits e

pub returns-then-value-gt922337203685477580-clause-none : goal.returns-then-value-gt922337203685477580-clause-none
returns-then-value-gt922337203685477580-clause-none c = λ n h e.
    over n c.loop-digit.digit-index c.loop-digit.value c.args.digits.now (omega arith) c.loop-digit-test.true c.if-value-gt922337203685477580.true c.loop-digit.invariant.value e

pub returns-then-value-most-clause-none : goal.returns-then-value-most-clause-none
returns-then-value-most-clause-none c = λ n h e.
    too_large n c.loop-digit.digit-index c.loop-digit.value c.args.most c.args.digits.now h c.requires c.loop-digit-test.false c.if-value-most.true c.loop-digit.invariant.value e

pub returns-else-value-most-clause-found : goal.returns-else-value-most-clause-found
returns-else-value-most-clause-found c = (
  c.if-value-most.false,
  spells c.loop-digit.digit-index c.loop-digit.value c.args.digits.now (omega arith) c.loop-digit-test.false (not_nil c.args.digits.now c.if-is_empty.ensures) c.if-digits-eq48.false c.loop-digit.invariant.digits c.loop-digit.invariant.value,
)
