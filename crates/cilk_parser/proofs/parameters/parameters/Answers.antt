use Rattle.std.proofs.Common.{◌≡◌, pos, inl, inr, List, ◌∷◌, refl, sym, subst, ◌∙◌, false, rules, slice_index_or}
use Rattle.cilk_syntax.specs.declared.token.Kind.{Kind}
use Rattle.cilk_syntax.specs.declared.token.Kind.TheVariants as kinds
use Rattle.cilk_syntax.specs.declared.token.Token.{Token}
use Rattle.cilk_syntax.specs.declared.marks.Punct.TheVariants as marks
use Rattle.cilk_syntax.specs.Expected as expected
use Rattle.cilk_syntax.specs.Expected.{Symbol, One, MoreParameters, Goes, after, run}
use Rattle.cilk_syntax.specs.Grammar.{Is}
use Rattle.cilk_syntax.specs.Stops.{IsStop}
use Rattle.cilk_syntax.proofs.Lists.{spells_parameters}
use Rattle.cilk_syntax.proofs.Runs.{takes}
use Rattle.cilk_syntax.proofs.Stopping.{first_is, handed}
use Rattle.cilk_parser.proofs.parameters.parameters.Goals as goal

begins : (k : Kind) (ts ts1 : List Token) (stack front : List Symbol) → Is k ts ts1 → after (expected.Parameters ∷ stack) 0 k ≡ Goes false front 0 → run ts (expected.Parameters ∷ stack) 0 ≡ run ts1 front 0
begins k ts ts1 stack front is e = takes k ts ts1 (expected.Parameters ∷ stack) front 0 0 is e

pub returns-in_ok-rest-in-Void-clause-reads : goal.returns-in_ok-rest-in-Void-clause-reads
returns-in_ok-rest-in-Void-clause-reads c =
    let t0 : Token = record { kind = kinds.Number (pos 0); at = 0; end = 0 } in
    let kind : (slice_index_or c.args.tokens.now 0 t0).kind ≡ kinds.Void = search rules in
    let is = first_is _ t0 kinds.Void c.in-len1-up.len_at_least kind in
    λ stack. begins kinds.Void _ _ stack (One marks.Close ∷ stack) is refl ∙ c.in_ok-rest-in-Void.ensures.reads stack 0

pub returns-in_err-rest-in-Void-clause-stops : goal.returns-in_err-rest-in-Void-clause-stops
returns-in_err-rest-in-Void-clause-stops c =
    let t0 : Token = record { kind = kinds.Number (pos 0); at = 0; end = 0 } in
    let kind : (slice_index_or c.args.tokens.now 0 t0).kind ≡ kinds.Void = search rules in
    let is = first_is _ t0 kinds.Void c.in-len1-up.len_at_least kind in
    handed c.from_residual.result c.in_err-rest-in-Void.field-0.0 _ c.from_residual.ensures.1
    (λ stack. subst (IsStop c.in_err-rest-in-Void.field-0.0) (sym (begins kinds.Void _ _ stack (One marks.Close ∷ stack) is refl)) (c.in_err-rest-in-Void.ensures.stops stack 0))

pub returns-in_err-list-in-Int-clause-stops : goal.returns-in_err-list-in-Int-clause-stops
returns-in_err-list-in-Int-clause-stops c =
    let t0 : Token = record { kind = kinds.Number (pos 0); at = 0; end = 0 } in
    let kind : (slice_index_or c.args.tokens.now 0 t0).kind ≡ kinds.Int = search rules in
    let is = first_is _ t0 kinds.Int c.in-len1-up.len_at_least kind in
    handed c.from_residual-in_err-list-in-Int.result c.in_err-list-in-Int.field-0.0 _ c.from_residual-in_err-list-in-Int.ensures.1
    (λ stack. subst (IsStop c.in_err-list-in-Int.field-0.0) (sym (begins kinds.Int _ _ stack (expected.Parameter ∷ MoreParameters ∷ stack) is refl)) (c.in_err-list-in-Int.ensures.stops stack))

pub returns-in-Close-rest-clause-reads : goal.returns-in-Close-rest-clause-reads
returns-in-Close-rest-clause-reads c =
    let t0 : Token = record { kind = kinds.Number (pos 0); at = 0; end = 0 } in
    let kind : (slice_index_or c.args.tokens.now 0 t0).kind ≡ kinds.Int = search rules in
    let is = first_is _ t0 kinds.Int c.in-len1-up.len_at_least kind in
    let last : (slice_index_or c.in_ok-list-in-Int.rest.now 0 t0).kind ≡ kinds.Close = search rules in
    let closes = first_is _ t0 kinds.Close c.in-Close-rest.len_at_least last in
    λ stack. begins kinds.Int _ _ stack (expected.Parameter ∷ MoreParameters ∷ stack) is refl
    ∙ (c.in_ok-list-in-Int.ensures.reads stack ∙ takes kinds.Close _ _ (MoreParameters ∷ stack) stack 0 0 closes refl)

pub returns-in-Close-clause-reads : goal.returns-in-Close-clause-reads
returns-in-Close-clause-reads c =
    let t0 : Token = record { kind = kinds.Number (pos 0); at = 0; end = 0 } in
    let kind : (slice_index_or c.args.tokens.now 0 t0).kind ≡ kinds.Close = search rules in
    let is = first_is _ t0 kinds.Close c.in-len1-up.len_at_least kind in
    λ stack. begins kinds.Close _ _ stack stack is refl

pub returns-in-Close-rest-clause-tree : goal.returns-in-Close-rest-clause-tree
returns-in-Close-rest-clause-tree c =
    let t0 : Token = record { kind = kinds.Number (pos 0); at = 0; end = 0 } in
    let kind : (slice_index_or c.args.tokens.now 0 t0).kind ≡ kinds.Int = search rules in
    let is = first_is _ t0 kinds.Int c.in-len1-up.len_at_least kind in
    let last : (slice_index_or c.in_ok-list-in-Int.rest.now 0 t0).kind ≡ kinds.Close = search rules in
    let closes = first_is _ t0 kinds.Close c.in-Close-rest.len_at_least last in
    spells_parameters _ _ _ _ _ is c.in_ok-list-in-Int.ensures.tree closes

pub returns-in-Close-clause-tree : goal.returns-in-Close-clause-tree
returns-in-Close-clause-tree c =
    let t0 : Token = record { kind = kinds.Number (pos 0); at = 0; end = 0 } in
    let kind : (slice_index_or c.args.tokens.now 0 t0).kind ≡ kinds.Close = search rules in
    let is = first_is _ t0 kinds.Close c.in-len1-up.len_at_least kind in
    rw c.new.ensures.items (inl is)

pub returns-in_ok-rest-in-Void-clause-tree : goal.returns-in_ok-rest-in-Void-clause-tree
returns-in_ok-rest-in-Void-clause-tree c =
    let t0 : Token = record { kind = kinds.Number (pos 0); at = 0; end = 0 } in
    let kind : (slice_index_or c.args.tokens.now 0 t0).kind ≡ kinds.Void = search rules in
    let is = first_is _ t0 kinds.Void c.in-len1-up.len_at_least kind in
    rw c.new-in-Void.ensures.items (inr (_, is, c.in_ok-rest-in-Void.ensures.token))
