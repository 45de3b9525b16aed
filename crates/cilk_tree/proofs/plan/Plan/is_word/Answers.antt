use Rattle.std.proofs.Common.{Some, sym, ap, ◌∙◌}
use Rattle.cilk_tree.proofs.Resuming.{is_word_here}
use Rattle.cilk_tree.proofs.plan.Plan.is_word.Goals as goal

pub returns-in-Some-Resume : goal.returns-in-Some-Resume
returns-in-Some-Resume c =
    is_word_here c.args.self.now c.args.at _ c.resumed_by.result c.is_some.result (sym c.kind_at.ensures ∙ c.in-Some-Resume.is ∙ ap Some c.in-Some-Resume.field-0-is) c.resumed_by.ensures c.is_some.ensures
