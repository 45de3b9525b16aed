use Rattle.std.proofs.Common.{◌≡◌, ◌≢◌, ◌≤◌, ℕ, pos, List, [], ◌∷◌, ◌∙◌, length, ap, sym, subst, refl, false, rules, arith, slice_index_or}
use Rattle.cilk_syntax.specs.declared.token.Kind.{Kind}
use Rattle.cilk_syntax.specs.declared.token.Kind.TheVariants as kinds
use Rattle.cilk_syntax.specs.declared.token.Token.{Token}
use Rattle.cilk_syntax.specs.declared.marks.Punct.TheVariants as marks
use Rattle.cilk_syntax.specs.Expected.{Symbol, One, Named, Subscript, Assignment, Statement, Goes, Fails, Unexpected, after, settled, nests, first_nests, run}
use Rattle.cilk_syntax.specs.Grammar.{Is}
use Rattle.cilk_syntax.specs.Limits.{is_deep}
use Rattle.cilk_syntax.specs.Stops.{IsStop}
use Rattle.cilk_syntax.proofs.Runs.{takes, shallow}
use Rattle.cilk_syntax.proofs.Stopping.{along, first_is, if_ok, if_err}
use Rattle.cilk_parser.proofs.statements.simple.Goals as goal

-- the symbols expected after `++` or `--`
abbrev place : ℕ → List Symbol → List Symbol
place d stack = Named ∷ Subscript d ∷ One marks.Semicolon ∷ stack

-- a statement that begins with `++` or `--` is read as an assignment and a semicolon
stepped : (kind : Kind) (ts ts1 : List Token) (d : ℕ) (stack : List Symbol) → d ≤ 64 → Is kind ts ts1 → after (Statement d ∷ stack) 0 kind ≡ Goes (is_deep d) (place d stack) 0
    → after (Assignment d ∷ One marks.Semicolon ∷ stack) 0 kind ≡ Goes false (place d stack) 0 → run ts (Statement d ∷ stack) 0 ≡ run ts (Assignment d ∷ One marks.Semicolon ∷ stack) 0
stepped kind ts ts1 d stack l is h h' =
    takes kind ts ts1 (Statement d ∷ stack) (place d stack) 0 0 is (h ∙ ap (λ b. Goes b (place d stack) 0) (shallow d l))
    ∙ sym (takes kind ts ts1 (Assignment d ∷ One marks.Semicolon ∷ stack) (place d stack) 0 0 is h')

-- no statement without others begins with another token
no_statement : (k : Kind) (d : ℕ) (stack : List Symbol) → k ≢ kinds.Semicolon → k ≢ kinds.Int → k ≢ kinds.Name → k ≢ kinds.Increment → k ≢ kinds.Decrement → k ≢ kinds.CilkSpawn → k ≢ kinds.CilkSync → k ≢ kinds.Return → k ≢ kinds.Print → k ≢ kinds.Update → k ≢ kinds.Set → nests k ≡ false → after (Statement d ∷ stack) 0 k ≡ Fails
no_statement kinds.Semicolon d stack h0 h1 h2 h3 h4 h5 h6 h7 h8 h9 h10 p = absurd (h0 refl)
no_statement kinds.Int d stack h0 h1 h2 h3 h4 h5 h6 h7 h8 h9 h10 p = absurd (h1 refl)
no_statement kinds.Name d stack h0 h1 h2 h3 h4 h5 h6 h7 h8 h9 h10 p = absurd (h2 refl)
no_statement kinds.Increment d stack h0 h1 h2 h3 h4 h5 h6 h7 h8 h9 h10 p = absurd (h3 refl)
no_statement kinds.Decrement d stack h0 h1 h2 h3 h4 h5 h6 h7 h8 h9 h10 p = absurd (h4 refl)
no_statement kinds.CilkSpawn d stack h0 h1 h2 h3 h4 h5 h6 h7 h8 h9 h10 p = absurd (h5 refl)
no_statement kinds.CilkSync d stack h0 h1 h2 h3 h4 h5 h6 h7 h8 h9 h10 p = absurd (h6 refl)
no_statement kinds.Return d stack h0 h1 h2 h3 h4 h5 h6 h7 h8 h9 h10 p = absurd (h7 refl)
no_statement kinds.Print d stack h0 h1 h2 h3 h4 h5 h6 h7 h8 h9 h10 p = absurd (h8 refl)
no_statement kinds.Update d stack h0 h1 h2 h3 h4 h5 h6 h7 h8 h9 h10 p = absurd (h9 refl)
no_statement kinds.Set d stack h0 h1 h2 h3 h4 h5 h6 h7 h8 h9 h10 p = absurd (h10 refl)
no_statement kinds.OpenBrace d stack h0 h1 h2 h3 h4 h5 h6 h7 h8 h9 h10 p = cc
no_statement kinds.If d stack h0 h1 h2 h3 h4 h5 h6 h7 h8 h9 h10 p = cc
no_statement kinds.While d stack h0 h1 h2 h3 h4 h5 h6 h7 h8 h9 h10 p = cc
no_statement kinds.For d stack h0 h1 h2 h3 h4 h5 h6 h7 h8 h9 h10 p = cc
no_statement kinds.CilkFor d stack h0 h1 h2 h3 h4 h5 h6 h7 h8 h9 h10 p = cc
no_statement _ d stack h0 h1 h2 h3 h4 h5 h6 h7 h8 h9 h10 p = refl

none_begins : (ts : List Token) (t0 : Token) (stack : List Symbol) → 1 ≤ length ts → after stack 0 (slice_index_or ts 0 t0).kind ≡ Fails → run ts stack 0 ≡ Unexpected ts
none_begins [] t0 stack h e = absurd (omega (arith, h))
none_begins (t ∷ ts) t0 stack h e = ap (λ a. settled a (run ts) (t ∷ ts)) e

nests_first : (ts : List Token) (t0 : Token) → 1 ≤ length ts → first_nests ts ≡ false → nests (slice_index_or ts 0 t0).kind ≡ false
nests_first [] t0 h e = absurd (omega (arith, h))
nests_first (t ∷ ts) t0 h e = e

pub returns-in_default-kind-clause-stops : goal.returns-in_default-kind-clause-stops
returns-in_default-kind-clause-stops c =
    let t0 : Token = record { kind = kinds.Number (pos 0); at = 0; end = 0 } in
    let h0 : (slice_index_or c.args.tokens.now 0 t0).kind ≢ kinds.Semicolon = search rules in
    let h1 : (slice_index_or c.args.tokens.now 0 t0).kind ≢ kinds.Int = search rules in
    let h2 : (slice_index_or c.args.tokens.now 0 t0).kind ≢ kinds.Name = search rules in
    let h3 : (slice_index_or c.args.tokens.now 0 t0).kind ≢ kinds.Increment = search rules in
    let h4 : (slice_index_or c.args.tokens.now 0 t0).kind ≢ kinds.Decrement = search rules in
    let h5 : (slice_index_or c.args.tokens.now 0 t0).kind ≢ kinds.CilkSpawn = search rules in
    let h6 : (slice_index_or c.args.tokens.now 0 t0).kind ≢ kinds.CilkSync = search rules in
    let h7 : (slice_index_or c.args.tokens.now 0 t0).kind ≢ kinds.Return = search rules in
    let h8 : (slice_index_or c.args.tokens.now 0 t0).kind ≢ kinds.Print = search rules in
    let h9 : (slice_index_or c.args.tokens.now 0 t0).kind ≢ kinds.Update = search rules in
    let h10 : (slice_index_or c.args.tokens.now 0 t0).kind ≢ kinds.Set = search rules in
    λ stack. none_begins c.args.tokens.now t0 (Statement c.args.depth ∷ stack) c.in-len1-up.len_at_least
    (no_statement (slice_index_or c.args.tokens.now 0 t0).kind c.args.depth stack h0 h1 h2 h3 h4 h5 h6 h7 h8 h9 h10 (nests_first c.args.tokens.now t0 c.in-len1-up.len_at_least c.requires.plain))

pub returns-in-Increment-clause-reads : goal.returns-in-Increment-clause-reads
returns-in-Increment-clause-reads c =
    let t0 : Token = record { kind = kinds.Number (pos 0); at = 0; end = 0 } in
    let kind : (slice_index_or c.args.tokens.now 0 t0).kind ≡ kinds.Increment = search rules in
    if_ok c.ended_assignment.result _ _
    (λ v h stack. stepped kinds.Increment _ _ c.args.depth stack (omega arith) (first_is _ t0 kinds.Increment c.in-len1-up.len_at_least kind) refl refl ∙ h stack)
    c.ended_assignment.ensures.reads

pub returns-in-Increment-clause-stops : goal.returns-in-Increment-clause-stops
returns-in-Increment-clause-stops c =
    let t0 : Token = record { kind = kinds.Number (pos 0); at = 0; end = 0 } in
    let kind : (slice_index_or c.args.tokens.now 0 t0).kind ≡ kinds.Increment = search rules in
    if_err c.ended_assignment.result _ _
    (λ e h stack. along _ c.args.tokens.now c.args.tokens.now (Statement c.args.depth ∷ stack) (Assignment c.args.depth ∷ One marks.Semicolon ∷ stack)
    (stepped kinds.Increment _ _ c.args.depth stack (omega arith) (first_is _ t0 kinds.Increment c.in-len1-up.len_at_least kind) refl refl) (h stack))
    c.ended_assignment.ensures.stops

pub returns-in-Decrement-clause-reads : goal.returns-in-Decrement-clause-reads
returns-in-Decrement-clause-reads c =
    let t0 : Token = record { kind = kinds.Number (pos 0); at = 0; end = 0 } in
    let kind : (slice_index_or c.args.tokens.now 0 t0).kind ≡ kinds.Decrement = search rules in
    if_ok c.ended_assignment-in-Decrement.result _ _
    (λ v h stack. stepped kinds.Decrement _ _ c.args.depth stack (omega arith) (first_is _ t0 kinds.Decrement c.in-len1-up.len_at_least kind) refl refl ∙ h stack)
    c.ended_assignment-in-Decrement.ensures.reads

pub returns-in-Decrement-clause-stops : goal.returns-in-Decrement-clause-stops
returns-in-Decrement-clause-stops c =
    let t0 : Token = record { kind = kinds.Number (pos 0); at = 0; end = 0 } in
    let kind : (slice_index_or c.args.tokens.now 0 t0).kind ≡ kinds.Decrement = search rules in
    if_err c.ended_assignment-in-Decrement.result _ _
    (λ e h stack. along _ c.args.tokens.now c.args.tokens.now (Statement c.args.depth ∷ stack) (Assignment c.args.depth ∷ One marks.Semicolon ∷ stack)
    (stepped kinds.Decrement _ _ c.args.depth stack (omega arith) (first_is _ t0 kinds.Decrement c.in-len1-up.len_at_least kind) refl refl) (h stack))
    c.ended_assignment-in-Decrement.ensures.stops

-- a token that begins a statement is read
opens : (k : Kind) (ts ts1 : List Token) (d : ℕ) (stack front : List Symbol) → d ≤ 64 → Is k ts ts1 → after (Statement d ∷ stack) 0 k ≡ Goes (is_deep d) front 0 → run ts (Statement d ∷ stack) 0 ≡ run ts1 front 0
opens k ts ts1 d stack front l is e = takes k ts ts1 (Statement d ∷ stack) front 0 0 is (e ∙ ap (λ b. Goes b front 0) (shallow d l))

pub returns-in-Int-clause-reads : goal.returns-in-Int-clause-reads
returns-in-Int-clause-reads c =
    let t0 : Token = record { kind = kinds.Number (pos 0); at = 0; end = 0 } in
    let kind : (slice_index_or c.args.tokens.now 0 t0).kind ≡ kinds.Int = search rules in
    let is = first_is _ t0 kinds.Int c.in-len1-up.len_at_least kind in
    let low : c.args.depth ≤ 64 = omega arith in
    if_ok c.declaration.result _ _ (λ v h stack. opens kinds.Int _ _ c.args.depth stack _ low is refl ∙ h stack) c.declaration.ensures.reads

pub returns-in-Int-clause-stops : goal.returns-in-Int-clause-stops
returns-in-Int-clause-stops c =
    let t0 : Token = record { kind = kinds.Number (pos 0); at = 0; end = 0 } in
    let kind : (slice_index_or c.args.tokens.now 0 t0).kind ≡ kinds.Int = search rules in
    let is = first_is _ t0 kinds.Int c.in-len1-up.len_at_least kind in
    let low : c.args.depth ≤ 64 = omega arith in
    if_err c.declaration.result _ _ (λ e h stack. subst (IsStop e) (sym (opens kinds.Int _ _ c.args.depth stack _ low is refl)) (h stack)) c.declaration.ensures.stops

pub returns-in-Name-clause-reads : goal.returns-in-Name-clause-reads
returns-in-Name-clause-reads c =
    let t0 : Token = record { kind = kinds.Number (pos 0); at = 0; end = 0 } in
    let kind : (slice_index_or c.args.tokens.now 0 t0).kind ≡ kinds.Name = search rules in
    let is = first_is _ t0 kinds.Name c.in-len1-up.len_at_least kind in
    let low : c.args.depth ≤ 64 = omega arith in
    if_ok c.named.result _ _ (λ v h stack. opens kinds.Name _ _ c.args.depth stack _ low is refl ∙ h stack) c.named.ensures.reads

pub returns-in-Name-clause-stops : goal.returns-in-Name-clause-stops
returns-in-Name-clause-stops c =
    let t0 : Token = record { kind = kinds.Number (pos 0); at = 0; end = 0 } in
    let kind : (slice_index_or c.args.tokens.now 0 t0).kind ≡ kinds.Name = search rules in
    let is = first_is _ t0 kinds.Name c.in-len1-up.len_at_least kind in
    let low : c.args.depth ≤ 64 = omega arith in
    if_err c.named.result _ _ (λ e h stack. subst (IsStop e) (sym (opens kinds.Name _ _ c.args.depth stack _ low is refl)) (h stack)) c.named.ensures.stops

pub returns-in-CilkSpawn-clause-reads : goal.returns-in-CilkSpawn-clause-reads
returns-in-CilkSpawn-clause-reads c =
    let t0 : Token = record { kind = kinds.Number (pos 0); at = 0; end = 0 } in
    let kind : (slice_index_or c.args.tokens.now 0 t0).kind ≡ kinds.CilkSpawn = search rules in
    let is = first_is _ t0 kinds.CilkSpawn c.in-len1-up.len_at_least kind in
    let low : c.args.depth ≤ 64 = omega arith in
    if_ok c.spawned.result _ _ (λ v h stack. opens kinds.CilkSpawn _ _ c.args.depth stack _ low is refl ∙ h stack) c.spawned.ensures.reads

pub returns-in-CilkSpawn-clause-stops : goal.returns-in-CilkSpawn-clause-stops
returns-in-CilkSpawn-clause-stops c =
    let t0 : Token = record { kind = kinds.Number (pos 0); at = 0; end = 0 } in
    let kind : (slice_index_or c.args.tokens.now 0 t0).kind ≡ kinds.CilkSpawn = search rules in
    let is = first_is _ t0 kinds.CilkSpawn c.in-len1-up.len_at_least kind in
    let low : c.args.depth ≤ 64 = omega arith in
    if_err c.spawned.result _ _ (λ e h stack. subst (IsStop e) (sym (opens kinds.CilkSpawn _ _ c.args.depth stack _ low is refl)) (h stack)) c.spawned.ensures.stops

pub returns-in-Print-clause-reads : goal.returns-in-Print-clause-reads
returns-in-Print-clause-reads c =
    let t0 : Token = record { kind = kinds.Number (pos 0); at = 0; end = 0 } in
    let kind : (slice_index_or c.args.tokens.now 0 t0).kind ≡ kinds.Print = search rules in
    let is = first_is _ t0 kinds.Print c.in-len1-up.len_at_least kind in
    let low : c.args.depth ≤ 64 = omega arith in
    if_ok c.printed.result _ _ (λ v h stack. opens kinds.Print _ _ c.args.depth stack _ low is refl ∙ h stack) c.printed.ensures.reads

pub returns-in-Print-clause-stops : goal.returns-in-Print-clause-stops
returns-in-Print-clause-stops c =
    let t0 : Token = record { kind = kinds.Number (pos 0); at = 0; end = 0 } in
    let kind : (slice_index_or c.args.tokens.now 0 t0).kind ≡ kinds.Print = search rules in
    let is = first_is _ t0 kinds.Print c.in-len1-up.len_at_least kind in
    let low : c.args.depth ≤ 64 = omega arith in
    if_err c.printed.result _ _ (λ e h stack. subst (IsStop e) (sym (opens kinds.Print _ _ c.args.depth stack _ low is refl)) (h stack)) c.printed.ensures.stops
