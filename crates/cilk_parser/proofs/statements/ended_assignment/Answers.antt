use Rattle.std.proofs.Common.{◌≡◌, sym, subst, rules}
use Rattle.cilk_syntax.specs.declared.tree.Assignment.{Assignment}
use Rattle.cilk_syntax.specs.Grammar.{SpellsStmt}
use Rattle.cilk_syntax.specs.Trees as trees
use Rattle.cilk_parser.proofs.statements.ended_assignment.Goals as goal

pub returns-clause-tree : goal.returns-clause-tree
returns-clause-tree c =
    let same : c.in_ok-new.field-0.value ≡ c.in_ok-assignment.assignment = search rules in
    subst (λ (a : Assignment). SpellsStmt (trees.Assign (trees.assignment a)) c.args.tokens.now c.in_ok-assignment.rest.now) (sym same) c.in_ok-assignment.ensures.tree
