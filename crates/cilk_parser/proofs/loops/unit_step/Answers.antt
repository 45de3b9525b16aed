use Rattle.std.proofs.Common.{◌≡◌, pos, List, ◌∷◌, refl, ◌∙◌, rules, slice_index_or}
use Rattle.cilk_syntax.specs.declared.token.Kind.TheVariants as kinds
use Rattle.cilk_syntax.specs.declared.token.Token.{Token}
use Rattle.cilk_syntax.specs.Expected.{Symbol, Named, UnitStep, run}
use Rattle.cilk_syntax.specs.Grammar.{Is}
use Rattle.cilk_syntax.proofs.Runs.{takes}
use Rattle.cilk_syntax.proofs.Stopping.{along, first_is, if_ok, if_err}
use Rattle.cilk_parser.proofs.loops.unit_step.Goals as goal

begins : (ts ts1 : List Token) (stack : List Symbol) → Is kinds.Increment ts ts1 → run ts (UnitStep ∷ stack) 0 ≡ run ts1 (Named ∷ stack) 0
begins ts ts1 stack is = takes kinds.Increment ts ts1 (UnitStep ∷ stack) (Named ∷ stack) 0 0 is refl

pub returns-in-Increment-clause-reads : goal.returns-in-Increment-clause-reads
returns-in-Increment-clause-reads c =
    let t0 : Token = record { kind = kinds.Number (pos 0); at = 0; end = 0 } in
    let kind : (slice_index_or c.args.tokens.now 0 t0).kind ≡ kinds.Increment = search rules in
    let is = first_is _ t0 kinds.Increment c.in-Increment.len_at_least kind in
    if_ok c.name.result _ _ (λ v h stack. begins _ _ stack is ∙ h stack 0) c.name.ensures.reads

pub returns-in-Increment-clause-stops : goal.returns-in-Increment-clause-stops
returns-in-Increment-clause-stops c =
    let t0 : Token = record { kind = kinds.Number (pos 0); at = 0; end = 0 } in
    let kind : (slice_index_or c.args.tokens.now 0 t0).kind ≡ kinds.Increment = search rules in
    let is = first_is _ t0 kinds.Increment c.in-Increment.len_at_least kind in
    if_err c.name.result _ _
    (λ e h stack. along e c.args.tokens.now _ (UnitStep ∷ stack) (Named ∷ stack) (begins _ _ stack is) (h stack 0))
    c.name.ensures.stops
