use Rattle.std.proofs.Common.{◌∷◌, ap, ◌∙◌}
use Rattle.std.specs.Prelude.{codes}
use Rattle.cilk_messages.specs.Asked.{unformed}
use Rattle.cilk_messages.specs.Words.{texts}
use Rattle.cilk_messages.proofs.asked.run_words.Goals as goal

pub returns : goal.returns
returns c =
    ap texts c.in_ok-insert.ensures.items
    ∙ ap (λ ts. codes "run" ∷ ts) (c.in_ok-plain.ensures ∙ ap unformed c.behind_first.ensures)
