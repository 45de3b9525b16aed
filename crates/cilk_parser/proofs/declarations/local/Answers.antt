use Rattle.std.proofs.Common.{◌∷◌, ◌∙◌, sym, subst}
use Rattle.cilk_syntax.specs.Expected.{LocalInitial}
use Rattle.cilk_syntax.specs.Grammar.{SpellsLocal}
use Rattle.cilk_syntax.specs.Stops.{IsStop}
use Rattle.cilk_syntax.proofs.Stopping.{handed}
use Rattle.cilk_parser.proofs.declarations.local.Goals as goal

pub returns-in_err-name-clause-stops : goal.returns-in_err-name-clause-stops
returns-in_err-name-clause-stops c =
    handed c.from_residual.result c.in_err-name.field-0.0 _ c.from_residual.ensures.1
    (λ stack. c.in_err-name.ensures.stops (LocalInitial c.args.depth ∷ stack) 0)

pub returns-in_err-initializer-clause-stops : goal.returns-in_err-initializer-clause-stops
returns-in_err-initializer-clause-stops c =
    handed c.from_residual-in_err-initializer.result c.in_err-initializer.field-0.0 _ c.from_residual-in_err-initializer.ensures.1
    (λ stack. subst (IsStop c.in_err-initializer.field-0.0) (sym (c.in_ok-name.ensures.reads (LocalInitial c.args.depth ∷ stack) 0))
    (c.in_err-initializer.ensures.stops stack))

pub returns-clause-tree : goal.returns-clause-tree
unfolding SpellsLocal
returns-clause-tree c = (c.in_ok-name.rest.now, c.in_ok-name.ensures.token, c.in_ok-initializer.ensures.tree)

pub returns-clause-reads : goal.returns-clause-reads
returns-clause-reads c =
    λ stack. c.in_ok-name.ensures.reads (LocalInitial c.args.depth ∷ stack) 0 ∙ c.in_ok-initializer.ensures.reads stack
