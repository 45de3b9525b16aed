use Rattle.std.proofs.Common.{◌≡◌, pos, List, ◌∷◌, refl, sym, subst, ◌∙◌, rules, slice_index_or}
use Rattle.cilk_syntax.specs.declared.token.Kind.TheVariants as kinds
use Rattle.cilk_syntax.specs.declared.token.Token.{Token}
use Rattle.cilk_syntax.specs.Expected.{Symbol, Single, UnitStepRest, run}
use Rattle.cilk_syntax.specs.Grammar.{Is}
use Rattle.cilk_syntax.specs.Stops.{IsStop}
use Rattle.cilk_syntax.proofs.Runs.{takes}
use Rattle.cilk_syntax.proofs.Stopping.{first_is, if_ok, if_err}
use Rattle.cilk_parser.proofs.loops.unit.Goals as goal

begins : (ts ts1 : List Token) (stack : List Symbol) → Is kinds.PlusAssign ts ts1 → run ts (UnitStepRest ∷ stack) 0 ≡ run ts1 (Single ∷ stack) 0
begins ts ts1 stack is = takes kinds.PlusAssign ts ts1 (UnitStepRest ∷ stack) (Single ∷ stack) 0 0 is refl

pub returns-in-PlusAssign-clause-reads : goal.returns-in-PlusAssign-clause-reads
returns-in-PlusAssign-clause-reads c =
    let t0 : Token = record { kind = kinds.Number (pos 0); at = 0; end = 0 } in
    let kind : (slice_index_or c.args.tokens.now 0 t0).kind ≡ kinds.PlusAssign = search rules in
    let is = first_is _ t0 kinds.PlusAssign c.in-PlusAssign.len_at_least kind in
    if_ok c.single.result _ _ (λ v h stack. begins _ _ stack is ∙ h stack 0) c.single.ensures.reads

pub returns-in-PlusAssign-clause-stops : goal.returns-in-PlusAssign-clause-stops
returns-in-PlusAssign-clause-stops c =
    let t0 : Token = record { kind = kinds.Number (pos 0); at = 0; end = 0 } in
    let kind : (slice_index_or c.args.tokens.now 0 t0).kind ≡ kinds.PlusAssign = search rules in
    let is = first_is _ t0 kinds.PlusAssign c.in-PlusAssign.len_at_least kind in
    if_err c.single.result _ _ (λ e h stack. subst (IsStop e) (sym (begins _ _ stack is)) (h stack 0)) c.single.ensures.stops
