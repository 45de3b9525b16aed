use Rattle.std.proofs.Common.{◌≡◌, ℕ, false, pos, List, ◌∷◌, refl, sym, subst, ◌∙◌, rules, slice_index_or}
use Rattle.cilk_syntax.specs.declared.token.Kind.{Kind}
use Rattle.cilk_syntax.specs.declared.token.Kind.TheVariants as kinds
use Rattle.cilk_syntax.specs.declared.token.Token.{Token}
use Rattle.cilk_syntax.specs.Expected.{Symbol, Operand, Tail, Anew, Operation, Goes, after, run}
use Rattle.cilk_syntax.specs.Grammar.{Is}
use Rattle.cilk_syntax.specs.Stops.{IsStop}
use Rattle.cilk_syntax.proofs.Runs.{takes}
use Rattle.cilk_syntax.proofs.Stopping.{first_is, handed}
use Rattle.cilk_parser.proofs.assignments.operation.Goals as goal

-- an operator that a value follows is read
begins : (k : Kind) (ts ts1 : List Token) (d : ℕ) (stack : List Symbol) → Is k ts ts1 → after (Operation d ∷ stack) 0 k ≡ Goes false (Operand d ∷ Tail d ∷ Anew ∷ stack) 0 → run ts (Operation d ∷ stack) 0 ≡ run ts1 (Operand d ∷ Tail d ∷ Anew ∷ stack) 0
begins k ts ts1 d stack is e = takes k ts ts1 (Operation d ∷ stack) (Operand d ∷ Tail d ∷ Anew ∷ stack) 0 0 is e

pub returns-in_ok-value-in-Assign-clause-reads : goal.returns-in_ok-value-in-Assign-clause-reads
returns-in_ok-value-in-Assign-clause-reads c =
    let t0 : Token = record { kind = kinds.Number (pos 0); at = 0; end = 0 } in
    let kind : (slice_index_or c.args.tokens.now 0 t0).kind ≡ kinds.Assign = search rules in
    let is = first_is _ t0 kinds.Assign c.in-len1-up.len_at_least kind in
    λ stack. begins kinds.Assign _ _ c.args.depth stack is refl ∙ c.in_ok-value-in-Assign.ensures.reads stack

pub returns-in_err-value-in-Assign-clause-stops : goal.returns-in_err-value-in-Assign-clause-stops
returns-in_err-value-in-Assign-clause-stops c =
    let t0 : Token = record { kind = kinds.Number (pos 0); at = 0; end = 0 } in
    let kind : (slice_index_or c.args.tokens.now 0 t0).kind ≡ kinds.Assign = search rules in
    let is = first_is _ t0 kinds.Assign c.in-len1-up.len_at_least kind in
    handed c.from_residual.result c.in_err-value-in-Assign.field-0.0 _ c.from_residual.ensures.1
    (λ stack. subst (IsStop c.in_err-value-in-Assign.field-0.0) (sym (begins kinds.Assign _ _ c.args.depth stack is refl)) (c.in_err-value-in-Assign.ensures.stops stack))

pub returns-in_ok-value-in-PlusAssign-clause-reads : goal.returns-in_ok-value-in-PlusAssign-clause-reads
returns-in_ok-value-in-PlusAssign-clause-reads c =
    let t0 : Token = record { kind = kinds.Number (pos 0); at = 0; end = 0 } in
    let kind : (slice_index_or c.args.tokens.now 0 t0).kind ≡ kinds.PlusAssign = search rules in
    let is = first_is _ t0 kinds.PlusAssign c.in-len1-up.len_at_least kind in
    λ stack. begins kinds.PlusAssign _ _ c.args.depth stack is refl ∙ c.in_ok-value-in-PlusAssign.ensures.reads stack

pub returns-in_err-value-in-PlusAssign-clause-stops : goal.returns-in_err-value-in-PlusAssign-clause-stops
returns-in_err-value-in-PlusAssign-clause-stops c =
    let t0 : Token = record { kind = kinds.Number (pos 0); at = 0; end = 0 } in
    let kind : (slice_index_or c.args.tokens.now 0 t0).kind ≡ kinds.PlusAssign = search rules in
    let is = first_is _ t0 kinds.PlusAssign c.in-len1-up.len_at_least kind in
    handed c.from_residual-in_err-value-in-PlusAssign.result c.in_err-value-in-PlusAssign.field-0.0 _ c.from_residual-in_err-value-in-PlusAssign.ensures.1
    (λ stack. subst (IsStop c.in_err-value-in-PlusAssign.field-0.0) (sym (begins kinds.PlusAssign _ _ c.args.depth stack is refl)) (c.in_err-value-in-PlusAssign.ensures.stops stack))

pub returns-in_ok-value-in-MinusAssign-clause-reads : goal.returns-in_ok-value-in-MinusAssign-clause-reads
returns-in_ok-value-in-MinusAssign-clause-reads c =
    let t0 : Token = record { kind = kinds.Number (pos 0); at = 0; end = 0 } in
    let kind : (slice_index_or c.args.tokens.now 0 t0).kind ≡ kinds.MinusAssign = search rules in
    let is = first_is _ t0 kinds.MinusAssign c.in-len1-up.len_at_least kind in
    λ stack. begins kinds.MinusAssign _ _ c.args.depth stack is refl ∙ c.in_ok-value-in-MinusAssign.ensures.reads stack

pub returns-in_err-value-in-MinusAssign-clause-stops : goal.returns-in_err-value-in-MinusAssign-clause-stops
returns-in_err-value-in-MinusAssign-clause-stops c =
    let t0 : Token = record { kind = kinds.Number (pos 0); at = 0; end = 0 } in
    let kind : (slice_index_or c.args.tokens.now 0 t0).kind ≡ kinds.MinusAssign = search rules in
    let is = first_is _ t0 kinds.MinusAssign c.in-len1-up.len_at_least kind in
    handed c.from_residual-in_err-value-in-MinusAssign.result c.in_err-value-in-MinusAssign.field-0.0 _ c.from_residual-in_err-value-in-MinusAssign.ensures.1
    (λ stack. subst (IsStop c.in_err-value-in-MinusAssign.field-0.0) (sym (begins kinds.MinusAssign _ _ c.args.depth stack is refl)) (c.in_err-value-in-MinusAssign.ensures.stops stack))

pub returns-in_ok-value-in-StarAssign-clause-reads : goal.returns-in_ok-value-in-StarAssign-clause-reads
returns-in_ok-value-in-StarAssign-clause-reads c =
    let t0 : Token = record { kind = kinds.Number (pos 0); at = 0; end = 0 } in
    let kind : (slice_index_or c.args.tokens.now 0 t0).kind ≡ kinds.StarAssign = search rules in
    let is = first_is _ t0 kinds.StarAssign c.in-len1-up.len_at_least kind in
    λ stack. begins kinds.StarAssign _ _ c.args.depth stack is refl ∙ c.in_ok-value-in-StarAssign.ensures.reads stack

pub returns-in_err-value-in-StarAssign-clause-stops : goal.returns-in_err-value-in-StarAssign-clause-stops
returns-in_err-value-in-StarAssign-clause-stops c =
    let t0 : Token = record { kind = kinds.Number (pos 0); at = 0; end = 0 } in
    let kind : (slice_index_or c.args.tokens.now 0 t0).kind ≡ kinds.StarAssign = search rules in
    let is = first_is _ t0 kinds.StarAssign c.in-len1-up.len_at_least kind in
    handed c.from_residual-in_err-value-in-StarAssign.result c.in_err-value-in-StarAssign.field-0.0 _ c.from_residual-in_err-value-in-StarAssign.ensures.1
    (λ stack. subst (IsStop c.in_err-value-in-StarAssign.field-0.0) (sym (begins kinds.StarAssign _ _ c.args.depth stack is refl)) (c.in_err-value-in-StarAssign.ensures.stops stack))
