use Rattle.std.proofs.Common.{ap, ◌∙◌, sym, List, ℕ, ◌∷◌, ◌++◌}
use Rattle.cilk_labels.specs.Walk.{numbers_from}
use Rattle.cilk_labels.proofs.Walks.{nothing_waits}
use Rattle.cilk_labels.proofs.visit.Goals as goal

pub returns-in_default-clause-numbered : goal.returns-in_default-clause-numbered
returns-in_default-clause-numbered c = λ rest.
    ap (λ (l : List ℕ). c.args.numbers.now.items ++ numbers_from rest l) c.in_default.ensures.1
    ∙ (ap (λ (l : List ℕ). c.args.numbers.now.items ++ l) (nothing_waits rest) ∙ ap (λ (l : List ℕ). c.args.numbers.now.items ++ numbers_from (c.args.node.now ∷ rest) l) (sym c.in_default.ensures.0))
