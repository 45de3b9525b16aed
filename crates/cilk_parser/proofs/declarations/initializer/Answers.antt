use Rattle.std.proofs.Common.{◌≡◌, ℕ, List, ◌∷◌, ◌∙◌, refl, sym, subst}
use Rattle.cilk_syntax.specs.declared.token.Kind.TheVariants as kinds
use Rattle.cilk_syntax.specs.declared.token.Token.{Token}
use Rattle.cilk_syntax.specs.Expected.{Symbol, LocalInitial, Source, run}
use Rattle.cilk_syntax.specs.Grammar.{Is}
use Rattle.cilk_syntax.specs.Stops.{IsStop}
use Rattle.cilk_syntax.proofs.Runs.{no_source, takes}
use Rattle.cilk_syntax.proofs.Stopping.{handed}
use Rattle.cilk_parser.proofs.declarations.initializer.Goals as goal

begins : (ts ts1 : List Token) (d : ℕ) (stack : List Symbol) → Is kinds.Assign ts ts1 → run ts (LocalInitial d ∷ stack) 0 ≡ run ts1 (Source d ∷ stack) 0
begins ts ts1 d stack is = takes kinds.Assign ts ts1 (LocalInitial d ∷ stack) (Source d ∷ stack) 0 0 is refl

pub returns-in_default-clause-reads : goal.returns-in_default-clause-reads
returns-in_default-clause-reads c = λ stack. no_source c.args.tokens.now c.args.depth stack 0 c.in_default.ensures.none

pub returns-in_err-taken-clause-stops : goal.returns-in_err-taken-clause-stops
returns-in_err-taken-clause-stops c =
    handed c.from_residual.result c.in_err-taken.field-0.0 _ c.from_residual.ensures.1
    (λ stack. subst (IsStop c.in_err-taken.field-0.0) (sym (begins _ _ c.args.depth stack c.in-Some.ensures.found)) (c.in_err-taken.ensures.stops stack))

pub returns-in-Value-clause-reads : goal.returns-in-Value-clause-reads
returns-in-Value-clause-reads c =
    λ stack. begins _ _ c.args.depth stack c.in-Some.ensures.found ∙ c.in_ok-taken.ensures.reads stack

pub returns-in-Invoke-clause-reads : goal.returns-in-Invoke-clause-reads
returns-in-Invoke-clause-reads c =
    λ stack. begins _ _ c.args.depth stack c.in-Some.ensures.found ∙ c.in_ok-taken.ensures.reads stack
