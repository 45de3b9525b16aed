use Rattle.std.proofs.Common.{◌∙◌, sym}
use Rattle.std.proofs.lemmas.Bool.{iff_false}
use Rattle.cilk_checker.proofs.verdict.first_difference.Goals as goal

pub returns-in-Some-wrong_frame : goal.returns-in-Some-wrong_frame
returns-in-Some-wrong_frame c = λ s d columns h. (c.in_default.ensures d h, c.in-Some-wrong_frame.ensures s d columns h)

pub returns-in-Some-wrong_owner : goal.returns-in-Some-wrong_owner
returns-in-Some-wrong_owner c = λ s d columns h. (c.in_default.ensures d h, c.in_default-wrong_frame.ensures s d columns h, c.in-Some-wrong_owner.ensures s d columns h)

pub returns-in-Some-wrong_hebrew : goal.returns-in-Some-wrong_hebrew
returns-in-Some-wrong_hebrew c = λ s d columns h. (c.in_default.ensures d h, c.in_default-wrong_frame.ensures s d columns h, c.in_default-wrong_owner.ensures s d columns h, c.in-Some-wrong_hebrew.ensures s d columns h)

pub returns-in-Some-wrong_class : goal.returns-in-Some-wrong_class
returns-in-Some-wrong_class c = λ s d columns h. (c.in_default.ensures d h, c.in_default-wrong_frame.ensures s d columns h, c.in_default-wrong_owner.ensures s d columns h, c.in_default-wrong_hebrew.ensures s d columns h, c.in-Some-wrong_class.ensures s d columns h)

pub returns-in-Some-wrong_source : goal.returns-in-Some-wrong_source
returns-in-Some-wrong_source c = λ s d columns h. (c.in_default.ensures d h, c.in_default-wrong_frame.ensures s d columns h, c.in_default-wrong_owner.ensures s d columns h, c.in_default-wrong_hebrew.ensures s d columns h, c.in_default-wrong_class.ensures s d columns h, c.in-Some-wrong_source.ensures d (c.in_default.ensures d h) h)

pub returns-then-not-is_result : goal.returns-then-not-is_result
returns-then-not-is_result c = λ s d columns h. (c.in_default.ensures d h, c.in_default-wrong_frame.ensures s d columns h, c.in_default-wrong_owner.ensures s d columns h, c.in_default-wrong_hebrew.ensures s d columns h, c.in_default-wrong_class.ensures s d columns h, c.in_default-wrong_source.ensures d (c.in_default.ensures d h) h, (λ e. iff_false c.is_same-is_result.ensures c.if-not-is_result.true (h.result ∙ e)))

pub returns : goal.returns
returns c = λ s d columns h. record {
  events = c.in_default.ensures d h;
  frames = c.in_default-wrong_frame.ensures s d columns h;
  owners = c.in_default-wrong_owner.ensures s d columns h;
  hebrews = c.in_default-wrong_hebrew.ensures s d columns h;
  classes = c.in_default-wrong_class.ensures s d columns h;
  sources = c.in_default-wrong_source.ensures d (c.in_default.ensures d h) h;
  result = sym h.result ∙ c.is_same-is_result.ensures.0 c.if-not-is_result.false;
}
