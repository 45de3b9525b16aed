use Rattle.std.proofs.Common.{sym, ◌∙◌}
use Rattle.cilk_cert_text.proofs.Numerals.{minus_none, minus_zero, minus_found}
use Rattle.cilk_cert_text.proofs.word.negative.Goals as goal

pub returns-in_err-size : goal.returns-in_err-size
returns-in_err-size c = c.from_residual.ensures ∙ sym (minus_none c.args.digits.now c.in_err-size.ensures.none)

pub returns-then-size-eq0 : goal.returns-then-size-eq0
returns-then-size-eq0 c = sym (minus_zero c.in_ok-size.size c.args.digits.now c.if-size-eq0.true c.in_ok-size.ensures.found.1)

pub returns : goal.returns
returns c = sym (minus_found c.in_ok-size.size c.args.digits.now c.if-size-eq0.false c.in_ok-size.ensures.found.0 c.in_ok-size.ensures.found.1)
