use Rattle.cilk_syntax.proofs.Lists.{spells_reducer}
use Rattle.cilk_syntax.proofs.Stopping.{if_ok}
use Rattle.cilk_parser.proofs.items.declaration.Goals as goal

pub returns-in-Some-clause-tree : goal.returns-in-Some-clause-tree
returns-in-Some-clause-tree c =
    λ ts is. (c.args.tokens.now, c.in_ok-declared.rest.now, is, spells_reducer _ _ _ _ c.in-Some.ensures.found c.in_ok-declared.ensures.tree, c.in_ok-rest.ensures.token)

pub returns-clause-tree : goal.returns-clause-tree
returns-clause-tree c = if_ok c.declared.result _ _ (λ v h ts is. h ts c.args.tokens.now is c.in_ok-first.ensures.token) c.declared.ensures.tree
