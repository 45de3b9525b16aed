use Rattle.std.proofs.Common.{◌≡◌, ℕ, pos, List, ◌∷◌, refl, sym, subst, ◌∙◌, rules, slice_index_or}
use Rattle.cilk_syntax.specs.declared.token.Kind.TheVariants as kinds
use Rattle.cilk_syntax.specs.declared.token.Token.{Token}
use Rattle.cilk_syntax.specs.Expected as expected
use Rattle.cilk_syntax.specs.Expected.{Symbol, Subscript, Operation, run}
use Rattle.cilk_syntax.specs.Grammar.{Is}
use Rattle.cilk_syntax.specs.Stops.{IsStop}
use Rattle.cilk_syntax.proofs.Runs.{takes}
use Rattle.cilk_syntax.proofs.Stopping.{first_is, if_ok, if_err}
use Rattle.cilk_parser.proofs.assignments.assignment.Goals as goal

begins : (ts ts1 : List Token) (d : ℕ) (stack : List Symbol) → Is kinds.Name ts ts1 → run ts (expected.Assignment d ∷ stack) 0 ≡ run ts1 (Subscript d ∷ Operation d ∷ stack) 0
begins ts ts1 d stack is = takes kinds.Name ts ts1 (expected.Assignment d ∷ stack) (Subscript d ∷ Operation d ∷ stack) 0 0 is refl

pub returns-in-Name-clause-reads : goal.returns-in-Name-clause-reads
returns-in-Name-clause-reads c =
    let t0 : Token = record { kind = kinds.Number (pos 0); at = 0; end = 0 } in
    let kind : (slice_index_or c.args.tokens.now 0 t0).kind ≡ kinds.Name = search rules in
    let is = first_is _ t0 kinds.Name c.in-len1-up.len_at_least kind in
    if_ok c.assigned.result _ _ (λ v h stack. begins _ _ c.args.depth stack is ∙ h stack) c.assigned.ensures.reads

pub returns-in-Name-clause-stops : goal.returns-in-Name-clause-stops
returns-in-Name-clause-stops c =
    let t0 : Token = record { kind = kinds.Number (pos 0); at = 0; end = 0 } in
    let kind : (slice_index_or c.args.tokens.now 0 t0).kind ≡ kinds.Name = search rules in
    let is = first_is _ t0 kinds.Name c.in-len1-up.len_at_least kind in
    if_err c.assigned.result _ _ (λ e h stack. subst (IsStop e) (sym (begins _ _ c.args.depth stack is)) (h stack)) c.assigned.ensures.stops
