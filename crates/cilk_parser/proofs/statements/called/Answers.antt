-- The call is what its box holds.
use Rattle.std.proofs.Common.{◌≡◌, sym, subst, rules}
use Rattle.cilk_types.specs.declared.invocation.Invocation.TheVariants as invocations
use Rattle.cilk_syntax.specs.declared.tree.Call.{Call}
use Rattle.cilk_syntax.specs.Grammar.{SpellsCall, SpellsStmt}
use Rattle.cilk_syntax.specs.Trees as trees
use Rattle.cilk_parser.proofs.statements.called.Goals as goal

pub returns-clause-tree : goal.returns-clause-tree
unfolding SpellsCall
returns-clause-tree c =
    let call : Call = record { at = c.args.name.at; name = c.args.name; arguments = c.in_ok-arguments.arguments } in
    let same : c.in_ok-new.field-0.value ≡ call = search rules in
    λ ts ts1 is next. subst (λ (x : Call). SpellsStmt (trees.Statement.Invoke invocations.Call (trees.call x)) ts c.in_ok-rest.rest.now) (sym same)
    (c.in_ok-arguments.rest.now, (ts1, c.args.tokens.now, is, next, c.in_ok-arguments.ensures.tree), c.in_ok-rest.ensures.token)
