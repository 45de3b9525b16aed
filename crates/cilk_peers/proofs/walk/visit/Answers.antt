use Rattle.std.proofs.Common.{ap, ◌∙◌, sym, List, ℕ, ◌∷◌, ◌++◌, ◌+◌, vec_len}
use Rattle.cilk_peers.specs.Walk.{classes_from}
use Rattle.cilk_peers.proofs.Walks.{nothing_waits}
use Rattle.cilk_peers.proofs.walk.visit.Goals as goal

pub returns-in_default-clause-numbered : goal.returns-in_default-clause-numbered
returns-in_default-clause-numbered c = λ rest.
    ap (λ (l : List ℕ). c.args.numbers.now.items ++ classes_from rest (vec_len c.args.numbers.now + 1) l) c.in_default.ensures.1
    ∙ (ap (λ (l : List ℕ). c.args.numbers.now.items ++ l) (nothing_waits rest (vec_len c.args.numbers.now + 1))
    ∙ ap (λ (l : List ℕ). c.args.numbers.now.items ++ classes_from (c.args.node.now ∷ rest) (vec_len c.args.numbers.now + 1) l) (sym c.in_default.ensures.0))
