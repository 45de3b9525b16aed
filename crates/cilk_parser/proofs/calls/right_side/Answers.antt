use Rattle.std.proofs.Common.{◌≡◌, ◌≤◌, ℕ, pos, false, List, ◌∷◌, ◌∙◌, ap, sym, subst, rules, arith, slice_index_or}
use Rattle.cilk_syntax.specs.declared.token.Kind.TheVariants as kinds
use Rattle.cilk_syntax.specs.declared.token.Token.{Token}
use Rattle.cilk_syntax.specs.declared.marks.Punct.TheVariants as marks
use Rattle.cilk_syntax.specs.Expected.{Symbol, One, Named, Arguments, Goes, Source, begins_call, run}
use Rattle.cilk_syntax.specs.Grammar.{Is}
use Rattle.cilk_syntax.specs.Stops.{IsStop, NotFirst}
use Rattle.cilk_syntax.proofs.Runs.{called_source, plain_source, shallow, takes}
use Rattle.cilk_syntax.proofs.Stopping.{first_is, handed}
use Rattle.cilk_parser.proofs.calls.right_side.Goals as goal

begins : (ts ts1 : List Token) (d : ℕ) (stack : List Symbol) → d ≤ 64 → Is kinds.CilkSpawn ts ts1 → run ts (Source d ∷ stack) 0 ≡ run ts1 (Named ∷ One marks.Open ∷ Arguments d ∷ stack) 0
begins ts ts1 d stack l is =
    takes kinds.CilkSpawn ts ts1 (Source d ∷ stack) (Named ∷ One marks.Open ∷ Arguments d ∷ stack) 0 0 is
    (ap (λ b. Goes b (Named ∷ One marks.Open ∷ Arguments d ∷ stack) 0) (shallow d l))

pub returns-in_ok-spawned-in-CilkSpawn-clause-reads : goal.returns-in_ok-spawned-in-CilkSpawn-clause-reads
returns-in_ok-spawned-in-CilkSpawn-clause-reads c =
    let t0 : Token = record { kind = kinds.Number (pos 0); at = 0; end = 0 } in
    let kind : (slice_index_or c.args.tokens.now 0 t0).kind ≡ kinds.CilkSpawn = search rules in
    let is = first_is _ t0 kinds.CilkSpawn c.in-CilkSpawn.len_at_least kind in
    let low : c.args.depth ≤ 64 = omega arith in
    λ stack. begins _ _ c.args.depth stack low is ∙ c.in_ok-spawned-in-CilkSpawn.ensures.reads stack

pub returns-in_err-spawned-in-CilkSpawn-clause-stops : goal.returns-in_err-spawned-in-CilkSpawn-clause-stops
returns-in_err-spawned-in-CilkSpawn-clause-stops c =
    let t0 : Token = record { kind = kinds.Number (pos 0); at = 0; end = 0 } in
    let kind : (slice_index_or c.args.tokens.now 0 t0).kind ≡ kinds.CilkSpawn = search rules in
    let is = first_is _ t0 kinds.CilkSpawn c.in-CilkSpawn.len_at_least kind in
    let low : c.args.depth ≤ 64 = omega arith in
    handed c.from_residual.result c.in_err-spawned-in-CilkSpawn.field-0.0 _ c.from_residual.ensures.1
    (λ stack. subst (IsStop c.in_err-spawned-in-CilkSpawn.field-0.0) (sym (begins _ _ c.args.depth stack low is)) (c.in_err-spawned-in-CilkSpawn.ensures.stops stack))

pub returns-in_ok-called-in_default-clause-reads : goal.returns-in_ok-called-in_default-clause-reads
returns-in_ok-called-in_default-clause-reads c =
    let low : c.args.depth ≤ 64 = omega arith in
    λ stack. called_source c.args.tokens.now c.args.depth stack 0 (sym c.begins_call.ensures ∙ c.if-begins_call.true) low
    ∙ c.in_ok-called-in_default.ensures.reads stack

pub returns-in_err-called-in_default-clause-stops : goal.returns-in_err-called-in_default-clause-stops
returns-in_err-called-in_default-clause-stops c =
    let low : c.args.depth ≤ 64 = omega arith in
    handed c.from_residual-in_err-called-in_default.result c.in_err-called-in_default.field-0.0 _ c.from_residual-in_err-called-in_default.ensures.1
    (λ stack. subst (IsStop c.in_err-called-in_default.field-0.0)
    (sym (called_source c.args.tokens.now c.args.depth stack 0 (sym c.begins_call.ensures ∙ c.if-begins_call.true) low))
    (c.in_err-called-in_default.ensures.stops stack))

pub returns-in_err-value-in_default-clause-stops : goal.returns-in_err-value-in_default-clause-stops
returns-in_err-value-in_default-clause-stops c =
    let no_spawn : NotFirst kinds.CilkSpawn c.args.tokens.now = search rules in
    let no_call : begins_call c.args.tokens.now ≡ false = sym c.begins_call.ensures ∙ c.if-begins_call.false in
    handed c.from_residual-in_err-value-in_default.result c.in_err-value-in_default.field-0.0 _ c.from_residual-in_err-value-in_default.ensures.1
    (λ stack. subst (IsStop c.in_err-value-in_default.field-0.0) (sym (plain_source c.args.tokens.now c.args.depth stack 0 no_call no_spawn))
    (c.in_err-value-in_default.ensures.stops stack))

pub returns-in_ok-value-in_default-clause-reads : goal.returns-in_ok-value-in_default-clause-reads
returns-in_ok-value-in_default-clause-reads c =
    let no_spawn : NotFirst kinds.CilkSpawn c.args.tokens.now = search rules in
    let no_call : begins_call c.args.tokens.now ≡ false = sym c.begins_call.ensures ∙ c.if-begins_call.false in
    λ stack. plain_source c.args.tokens.now c.args.depth stack 0 no_call no_spawn ∙ c.in_ok-value-in_default.ensures.reads stack
