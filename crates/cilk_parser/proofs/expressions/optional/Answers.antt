use Rattle.std.proofs.Common.{◌∷◌, ◌∙◌, refl, sym, subst}
use Rattle.cilk_syntax.specs.declared.token.Kind.TheVariants as kinds
use Rattle.cilk_syntax.specs.Expected.{Optional}
use Rattle.cilk_syntax.specs.Grammar.{SpellsOptional}
use Rattle.cilk_syntax.specs.Stops.{IsStop}
use Rattle.cilk_syntax.proofs.Runs.{some_value, takes}
use Rattle.cilk_syntax.proofs.Stopping.{handed}
use Rattle.cilk_parser.proofs.expressions.optional.Goals as goal

pub returns-in-Some-clause-tree : goal.returns-in-Some-clause-tree
unfolding SpellsOptional
returns-in-Some-clause-tree c = c.in-Some.ensures.found

pub returns-in-Some-clause-reads : goal.returns-in-Some-clause-reads
returns-in-Some-clause-reads c =
    λ stack. takes kinds.Semicolon _ _ (Optional c.args.depth ∷ stack) stack 0 0 c.in-Some.ensures.found refl

pub returns-in_err-value-clause-stops : goal.returns-in_err-value-clause-stops
returns-in_err-value-clause-stops c =
    handed c.from_residual.result c.in_err-value.field-0.0 _ c.from_residual.ensures.1
    (λ stack. subst (IsStop c.in_err-value.field-0.0) (sym (some_value c.args.tokens.now c.args.depth stack 0 c.in_default.ensures.none))
    (c.in_err-value.ensures.stops stack))

pub returns-clause-tree : goal.returns-clause-tree
unfolding SpellsOptional
returns-clause-tree c = c.in_ok-value.ensures.tree

pub returns-clause-reads : goal.returns-clause-reads
returns-clause-reads c =
    λ stack. some_value c.args.tokens.now c.args.depth stack 0 c.in_default.ensures.none ∙ c.in_ok-value.ensures.reads stack
