use Rattle.std.proofs.Common.{◌∷◌, ap, ◌∙◌}
use Rattle.std.specs.Prelude.{codes}
use Rattle.cilk_messages.specs.Asked.{unmarked}
use Rattle.cilk_messages.specs.Words.{texts}
use Rattle.cilk_messages.proofs.asked.check_words.Goals as goal

pub returns : goal.returns
returns c =
    ap texts c.in_ok-insert.ensures.items
    ∙ ap (λ ts. codes "check" ∷ ts) (c.in_ok-plain.ensures ∙ ap (unmarked (codes "schedule")) c.behind_first.ensures)
