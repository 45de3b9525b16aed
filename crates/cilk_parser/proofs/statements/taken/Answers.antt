-- The assignment is what its box holds.
use Rattle.std.proofs.Common.{◌≡◌, sym, subst, rules}
use Rattle.cilk_syntax.specs.declared.tree.Assignment.{Assignment}
use Rattle.cilk_syntax.specs.declared.tree.Assignment.TheVariants as assignments
use Rattle.cilk_syntax.specs.declared.tree.Lvalue.TheVariants as places
use Rattle.cilk_syntax.specs.Grammar.{SpellsSource, SpellsStmt}
use Rattle.cilk_syntax.specs.Trees as trees
use Rattle.cilk_parser.specs.declared.calls.Source.{Source}
use Rattle.cilk_parser.specs.Sources.{source}
use Rattle.cilk_parser.proofs.statements.taken.Goals as goal

pub returns-in_ok-new-in-Value-clause-tree : goal.returns-in_ok-new-in-Value-clause-tree
returns-in_ok-new-in-Value-clause-tree c =
    let assigned : Assignment = assignments.Set (places.Variable c.args.name) c.in-Value.value in
    let same : c.in_ok-new-in-Value.field-0.value ≡ assigned = search rules in
    let value = subst (λ (s : Source). SpellsSource (source s) c.args.tokens.now c.in_ok-source.rest.now) c.in-Value.is c.in_ok-source.ensures.tree in
    λ ts ts1 is next. subst (λ (a : Assignment). SpellsStmt (trees.Assign (trees.assignment a)) ts c.in_ok-rest.rest.now) (sym same)
    (c.in_ok-source.rest.now, (ts1, c.args.tokens.now, is, next, value), c.in_ok-rest.ensures.token)
