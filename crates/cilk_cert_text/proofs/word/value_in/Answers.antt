use Rattle.std.proofs.Common.{sym, ◌∙◌}
use Rattle.cilk_cert_text.proofs.Numerals.{plain_none, plain_found, empty_plain}
use Rattle.cilk_cert_text.proofs.word.value_in.Goals as goal
use Rattle.cilk_cert_text.proofs.word.value_in.Goals.{else-not-is_empty-via-then-not-is_empty+else-word-eq45, else-not-is_empty-via-else-not-is_empty}

pub returns-in_err-size : goal.returns-in_err-size
returns-in_err-size c =
    c.from_residual.ensures ∙ sym (plain_none c.args.word.now
    (elim c.else-not-is_empty.branch [
      | else-not-is_empty-via-then-not-is_empty+else-word-eq45 w ↦ w.if-word-eq45.false
      | else-not-is_empty-via-else-not-is_empty w ↦ empty_plain c.args.word.now w.if-not-is_empty.ensures
    ]) c.in_err-size.ensures.none)

pub returns : goal.returns
returns c = sym (plain_found c.in_ok-size.size c.args.word.now c.in_ok-size.ensures.found.0 c.in_ok-size.ensures.found.1)
