use Rattle.std.proofs.Common.{◌≡◌, ℕ, ◌≤◌, pos, List, ◌∷◌, refl, sym, ap, subst, ◌∙◌, rules, arith, slice_index_or}
use Rattle.cilk_syntax.specs.declared.token.Kind.{Kind}
use Rattle.cilk_syntax.specs.declared.token.Kind.TheVariants as kinds
use Rattle.cilk_syntax.specs.declared.token.Token.{Token}
use Rattle.cilk_syntax.specs.Expected.{Symbol, Operand, Goes, after, run}
use Rattle.cilk_syntax.specs.Grammar.{Is}
use Rattle.cilk_syntax.specs.Limits.{is_deep}
use Rattle.cilk_syntax.specs.Stops.{IsStop}
use Rattle.cilk_syntax.proofs.Runs.{takes, shallow}
use Rattle.cilk_syntax.proofs.Stopping.{first_is, if_ok, if_err}
use Rattle.cilk_parser.proofs.expressions.+expressions.Goals as goal

-- a token that begins an operand is read
begins : (k : Kind) (ts ts1 : List Token) (d : ℕ) (stack front : List Symbol) (n : ℕ) → d ≤ 64 → Is k ts ts1 → after (Operand d ∷ stack) n k ≡ Goes (is_deep d) front n → run ts (Operand d ∷ stack) n ≡ run ts1 front n
begins k ts ts1 d stack front n l is e = takes k ts ts1 (Operand d ∷ stack) front n n is (e ∙ ap (λ b. Goes b front n) (shallow d l))

pub operand-returns-in-Name-clause-reads : goal.operand-returns-in-Name-clause-reads
operand-returns-in-Name-clause-reads t c =
    let t0 : Token = record { kind = kinds.Number (pos 0); at = 0; end = 0 } in
    let kind : (slice_index_or c.args.tokens.now 0 t0).kind ≡ kinds.Name = search rules in
    let is = first_is _ t0 kinds.Name c.in-len1-up.len_at_least kind in
    let low : c.args.depth ≤ 64 = omega arith in
    if_ok c.after_name.result _ _ (λ v h stack. begins kinds.Name _ _ c.args.depth stack _ c.args.operators low is refl ∙ h stack) c.after_name.ensures.reads

pub operand-returns-in-Name-clause-stops : goal.operand-returns-in-Name-clause-stops
operand-returns-in-Name-clause-stops t c =
    let t0 : Token = record { kind = kinds.Number (pos 0); at = 0; end = 0 } in
    let kind : (slice_index_or c.args.tokens.now 0 t0).kind ≡ kinds.Name = search rules in
    let is = first_is _ t0 kinds.Name c.in-len1-up.len_at_least kind in
    let low : c.args.depth ≤ 64 = omega arith in
    if_err c.after_name.result _ _ (λ e h stack. subst (IsStop e) (sym (begins kinds.Name _ _ c.args.depth stack _ c.args.operators low is refl)) (h stack)) c.after_name.ensures.stops

pub operand-returns-in-Open-clause-reads : goal.operand-returns-in-Open-clause-reads
operand-returns-in-Open-clause-reads t c =
    let t0 : Token = record { kind = kinds.Number (pos 0); at = 0; end = 0 } in
    let kind : (slice_index_or c.args.tokens.now 0 t0).kind ≡ kinds.Open = search rules in
    let is = first_is _ t0 kinds.Open c.in-len1-up.len_at_least kind in
    let low : c.args.depth ≤ 64 = omega arith in
    if_ok c.group.result _ _ (λ v h stack. begins kinds.Open _ _ c.args.depth stack _ c.args.operators low is refl ∙ h stack) c.group.ensures.reads

pub operand-returns-in-Open-clause-stops : goal.operand-returns-in-Open-clause-stops
operand-returns-in-Open-clause-stops t c =
    let t0 : Token = record { kind = kinds.Number (pos 0); at = 0; end = 0 } in
    let kind : (slice_index_or c.args.tokens.now 0 t0).kind ≡ kinds.Open = search rules in
    let is = first_is _ t0 kinds.Open c.in-len1-up.len_at_least kind in
    let low : c.args.depth ≤ 64 = omega arith in
    if_err c.group.result _ _ (λ e h stack. subst (IsStop e) (sym (begins kinds.Open _ _ c.args.depth stack _ c.args.operators low is refl)) (h stack)) c.group.ensures.stops

pub operand-returns-in-Value-clause-reads : goal.operand-returns-in-Value-clause-reads
operand-returns-in-Value-clause-reads t c =
    let t0 : Token = record { kind = kinds.Number (pos 0); at = 0; end = 0 } in
    let kind : (slice_index_or c.args.tokens.now 0 t0).kind ≡ kinds.Value = search rules in
    let is = first_is _ t0 kinds.Value c.in-len1-up.len_at_least kind in
    let low : c.args.depth ≤ 64 = omega arith in
    if_ok c.reducer_value.result _ _ (λ v h stack. begins kinds.Value _ _ c.args.depth stack _ c.args.operators low is refl ∙ h stack) c.reducer_value.ensures.reads

pub operand-returns-in-Value-clause-stops : goal.operand-returns-in-Value-clause-stops
operand-returns-in-Value-clause-stops t c =
    let t0 : Token = record { kind = kinds.Number (pos 0); at = 0; end = 0 } in
    let kind : (slice_index_or c.args.tokens.now 0 t0).kind ≡ kinds.Value = search rules in
    let is = first_is _ t0 kinds.Value c.in-len1-up.len_at_least kind in
    let low : c.args.depth ≤ 64 = omega arith in
    if_err c.reducer_value.result _ _ (λ e h stack. subst (IsStop e) (sym (begins kinds.Value _ _ c.args.depth stack _ c.args.operators low is refl)) (h stack)) c.reducer_value.ensures.stops

pub operand-returns-in-Input-clause-reads : goal.operand-returns-in-Input-clause-reads
operand-returns-in-Input-clause-reads t c =
    let t0 : Token = record { kind = kinds.Number (pos 0); at = 0; end = 0 } in
    let kind : (slice_index_or c.args.tokens.now 0 t0).kind ≡ kinds.Input = search rules in
    let is = first_is _ t0 kinds.Input c.in-len1-up.len_at_least kind in
    let low : c.args.depth ≤ 64 = omega arith in
    if_ok c.input.result _ _ (λ v h stack. begins kinds.Input _ _ c.args.depth stack _ c.args.operators low is refl ∙ h stack) c.input.ensures.reads

pub operand-returns-in-Input-clause-stops : goal.operand-returns-in-Input-clause-stops
operand-returns-in-Input-clause-stops t c =
    let t0 : Token = record { kind = kinds.Number (pos 0); at = 0; end = 0 } in
    let kind : (slice_index_or c.args.tokens.now 0 t0).kind ≡ kinds.Input = search rules in
    let is = first_is _ t0 kinds.Input c.in-len1-up.len_at_least kind in
    let low : c.args.depth ≤ 64 = omega arith in
    if_err c.input.result _ _ (λ e h stack. subst (IsStop e) (sym (begins kinds.Input _ _ c.args.depth stack _ c.args.operators low is refl)) (h stack)) c.input.ensures.stops

pub operand-returns-in-InputCount-clause-reads : goal.operand-returns-in-InputCount-clause-reads
operand-returns-in-InputCount-clause-reads t c =
    let t0 : Token = record { kind = kinds.Number (pos 0); at = 0; end = 0 } in
    let kind : (slice_index_or c.args.tokens.now 0 t0).kind ≡ kinds.InputCount = search rules in
    let is = first_is _ t0 kinds.InputCount c.in-len1-up.len_at_least kind in
    let low : c.args.depth ≤ 64 = omega arith in
    if_ok c.input_count.result _ _ (λ v h stack. begins kinds.InputCount _ _ c.args.depth stack _ c.args.operators low is refl ∙ h stack) c.input_count.ensures.reads

pub operand-returns-in-InputCount-clause-stops : goal.operand-returns-in-InputCount-clause-stops
operand-returns-in-InputCount-clause-stops t c =
    let t0 : Token = record { kind = kinds.Number (pos 0); at = 0; end = 0 } in
    let kind : (slice_index_or c.args.tokens.now 0 t0).kind ≡ kinds.InputCount = search rules in
    let is = first_is _ t0 kinds.InputCount c.in-len1-up.len_at_least kind in
    let low : c.args.depth ≤ 64 = omega arith in
    if_err c.input_count.result _ _ (λ e h stack. subst (IsStop e) (sym (begins kinds.InputCount _ _ c.args.depth stack _ c.args.operators low is refl)) (h stack)) c.input_count.ensures.stops
