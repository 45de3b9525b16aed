use Rattle.std.proofs.Common.{◌≡◌, ℕ, pos, ◌+◌, ◌<◌, max, ◌++◌, ◌∷◌, [], List, IfOk, OnOk, length, ap, ◌∙◌, sym, subst, arith, append_assoc, length-append}
use Rattle.cilk_program.specs.declared.syntax.Expr.{Expr}
use Rattle.cilk_program.specs.Syntax as trees
use Rattle.cilk_lower.specs.declared.code.Instr.{Instr}
use Rattle.cilk_lower.specs.declared.code.Instr.TheVariants as instrs
use Rattle.cilk_lower.specs.Rooms.{depth}
use Rattle.cilk_program.specs.Programs.{expression}
use Rattle.cilk_lower.specs.Code.{literal, right_code, expr_code, and_code, or_code}
use Rattle.cilk_lower.proofs.Patch.{patch_and, patch_or}
use Rattle.cilk_lower.proofs.Values.{depth_short, right_long}
use Rattle.cilk_lower.proofs.expressions.+expressions.Goals as goal

put_last : (base a b c1 c2 c3 : List Instr) (last : Instr) → c1 ≡ base ++ a → c2 ≡ c1 ++ b → c3 ≡ c2 ++ last ∷ [] → c3 ≡ base ++ (a ++ (b ++ last ∷ []))
put_last base a b c1 c2 c3 last e1 e2 e3 = e3 ∙ ap (λ l. l ++ last ∷ []) (e2 ∙ ap (λ l. l ++ b) e1) ∙ simp append_assoc

-- the place of a jump that is patched
and_stands : (c1 c2 c3 b : List Instr) (n : ℕ) → n ≡ length c1 → c2 ≡ c1 ++ instrs.JumpIfZero 0 ∷ [] → c3 ≡ c2 ++ b → n < length c3
and_stands c1 c2 c3 b n m e2 e3 = omega (arith, m, ap length e2, ap length e3, length-append c1 (instrs.JumpIfZero 0 ∷ []), length-append c2 b)

or_stands : (c1 c2 c3 b : List Instr) (n : ℕ) → n ≡ length c1 + 2 → c2 ≡ c1 ++ (instrs.JumpIfZero 2 ∷ (instrs.Push (pos 1) ∷ (instrs.Jump 0 ∷ []))) → c3 ≡ c2 ++ b → n < length c3
or_stands c1 c2 c3 b n m e2 e3 = omega (arith, m, ap length e2, ap length e3, length-append c1 (instrs.JumpIfZero 2 ∷ (instrs.Push (pos 1) ∷ (instrs.Jump 0 ∷ []))), length-append c2 b)

-- the operands are fewer than the instructions, which fit in memory
pub emit_expr-overflow_add-right : goal.emit_expr-overflow_add-right
emit_expr-overflow_add-right t c =
    let b = expression c.deref-in-Binary-2.result.now in
    let right = right_code c.in-Binary.operator (literal b) (expr_code b) in
    let code = ap length {y = c.emit_expr.new.code.items ++ right} c.in_ok-right-in-Binary.ensures.code in
    omega (arith, code, length-append c.emit_expr.new.code.items right, right_long c.in-Binary.operator b, depth_short b, c.in_ok-right-in-Binary.ensures.depth, c.emit_right.new.code.small)

pub emit_expr-returns-in_ok-end_and-in-And-clause-code : goal.emit_expr-returns-in_ok-end_and-in-And-clause-code
emit_expr-returns-in_ok-end_and-in-And-clause-code t c =
    patch_and _ _ _ _ _ _ _ _ c.in_ok-left-in-And.ensures.code c.in_ok-skip-in-And.ensures.place c.in_ok-skip-in-And.ensures.code c.in_ok-right-in-And.ensures.code c.in_ok-end_and-in-And.ensures
    ∙ ap (λ a. c.args.code.now.items ++ and_code (expr_code (expression a)) (expr_code (expression c.deref-in-And-2.result.now))) c.deref-in-And.ensures
    ∙ ap (λ b. c.args.code.now.items ++ and_code (expr_code (expression c.in-And.a.value)) (expr_code (expression b))) c.deref-in-And-2.ensures
    ∙ ap (λ e. c.args.code.now.items ++ expr_code (expression e)) (sym c.in-And.is)

pub emit_expr-returns-in_ok-end_or-in-Or-clause-code : goal.emit_expr-returns-in_ok-end_or-in-Or-clause-code
emit_expr-returns-in_ok-end_or-in-Or-clause-code t c =
    patch_or _ _ _ _ _ _ _ _ c.in_ok-left-in-Or.ensures.code c.in_ok-jump-in-Or.ensures.place c.in_ok-jump-in-Or.ensures.code c.in_ok-right-in-Or.ensures.code c.in_ok-end_or-in-Or.ensures
    ∙ ap (λ a. c.args.code.now.items ++ or_code (expr_code (expression a)) (expr_code (expression c.deref-in-Or-2.result.now))) c.deref-in-Or.ensures
    ∙ ap (λ b. c.args.code.now.items ++ or_code (expr_code (expression c.in-Or.a.value)) (expr_code (expression b))) c.deref-in-Or-2.ensures
    ∙ ap (λ e. c.args.code.now.items ++ expr_code (expression e)) (sym c.in-Or.is)

pub emit_expr-returns-in-Number-clause-depth : goal.emit_expr-returns-in-Number-clause-depth
emit_expr-returns-in-Number-clause-depth t c = subst (λ (e : Expr). IfOk c.put_operand.result (λ d. d ≡ depth (expression e))) (sym c.in-Number.is) c.put_operand.ensures.depth

pub emit_expr-returns-in-Variable-clause-code : goal.emit_expr-returns-in-Variable-clause-code
emit_expr-returns-in-Variable-clause-code t c = subst (λ (e : Expr). OnOk c.put_operand-in-Variable.result (c.put_operand-in-Variable.new.code.items ≡ c.args.code.now.items ++ expr_code (expression e))) (sym c.in-Variable.is) c.put_operand-in-Variable.ensures.code

pub emit_expr-returns-in-Variable-clause-depth : goal.emit_expr-returns-in-Variable-clause-depth
emit_expr-returns-in-Variable-clause-depth t c = subst (λ (e : Expr). IfOk c.put_operand-in-Variable.result (λ d. d ≡ depth (expression e))) (sym c.in-Variable.is) c.put_operand-in-Variable.ensures.depth

pub emit_expr-returns-in-Value-clause-code : goal.emit_expr-returns-in-Value-clause-code
emit_expr-returns-in-Value-clause-code t c = subst (λ (e : Expr). OnOk c.put_operand-in-Value.result (c.put_operand-in-Value.new.code.items ≡ c.args.code.now.items ++ expr_code (expression e))) (sym c.in-Value.is) c.put_operand-in-Value.ensures.code

pub emit_expr-returns-in-Value-clause-depth : goal.emit_expr-returns-in-Value-clause-depth
emit_expr-returns-in-Value-clause-depth t c = subst (λ (e : Expr). IfOk c.put_operand-in-Value.result (λ d. d ≡ depth (expression e))) (sym c.in-Value.is) c.put_operand-in-Value.ensures.depth

pub emit_expr-returns-in-InputCount-clause-code : goal.emit_expr-returns-in-InputCount-clause-code
emit_expr-returns-in-InputCount-clause-code t c = subst (λ (e : Expr). OnOk c.put_operand-in-InputCount.result (c.put_operand-in-InputCount.new.code.items ≡ c.args.code.now.items ++ expr_code (expression e))) (sym c.in-InputCount.is) c.put_operand-in-InputCount.ensures.code

pub emit_expr-returns-in-InputCount-clause-depth : goal.emit_expr-returns-in-InputCount-clause-depth
emit_expr-returns-in-InputCount-clause-depth t c = subst (λ (e : Expr). IfOk c.put_operand-in-InputCount.result (λ d. d ≡ depth (expression e))) (sym c.in-InputCount.is) c.put_operand-in-InputCount.ensures.depth

pub emit_expr-returns-in-Element-clause-code : goal.emit_expr-returns-in-Element-clause-code
emit_expr-returns-in-Element-clause-code t c =
    subst (λ (e : Expr). OnOk c.emit_unary.result (c.emit_unary.new.code.items ≡ c.args.code.now.items ++ expr_code (expression e))) (sym c.in-Element.is)
    (subst (λ (e : Expr). OnOk c.emit_unary.result (c.emit_unary.new.code.items ≡ c.args.code.now.items ++ (expr_code (expression e) ++ instrs.LoadElement c.in-Element.array ∷ []))) c.deref.ensures c.emit_unary.ensures.code)

pub emit_expr-returns-in-Element-clause-depth : goal.emit_expr-returns-in-Element-clause-depth
emit_expr-returns-in-Element-clause-depth t c =
    subst (λ (e : Expr). IfOk c.emit_unary.result (λ d. d ≡ depth (expression e))) (sym c.in-Element.is)
    (subst (λ (e : Expr). IfOk c.emit_unary.result (λ d. d ≡ depth (expression e))) c.deref.ensures c.emit_unary.ensures.depth)

pub emit_expr-returns-in-Negate-clause-code : goal.emit_expr-returns-in-Negate-clause-code
emit_expr-returns-in-Negate-clause-code t c =
    subst (λ (e : Expr). OnOk c.emit_unary-in-Negate.result (c.emit_unary-in-Negate.new.code.items ≡ c.args.code.now.items ++ expr_code (expression e))) (sym c.in-Negate.is)
    (subst (λ (e : Expr). OnOk c.emit_unary-in-Negate.result (c.emit_unary-in-Negate.new.code.items ≡ c.args.code.now.items ++ (expr_code (expression e) ++ instrs.Negate ∷ []))) c.deref-in-Negate.ensures c.emit_unary-in-Negate.ensures.code)

pub emit_expr-returns-in-Negate-clause-depth : goal.emit_expr-returns-in-Negate-clause-depth
emit_expr-returns-in-Negate-clause-depth t c =
    subst (λ (e : Expr). IfOk c.emit_unary-in-Negate.result (λ d. d ≡ depth (expression e))) (sym c.in-Negate.is)
    (subst (λ (e : Expr). IfOk c.emit_unary-in-Negate.result (λ d. d ≡ depth (expression e))) c.deref-in-Negate.ensures c.emit_unary-in-Negate.ensures.depth)

pub emit_expr-returns-in-Not-clause-code : goal.emit_expr-returns-in-Not-clause-code
emit_expr-returns-in-Not-clause-code t c =
    subst (λ (e : Expr). OnOk c.emit_unary-in-Not.result (c.emit_unary-in-Not.new.code.items ≡ c.args.code.now.items ++ expr_code (expression e))) (sym c.in-Not.is)
    (subst (λ (e : Expr). OnOk c.emit_unary-in-Not.result (c.emit_unary-in-Not.new.code.items ≡ c.args.code.now.items ++ (expr_code (expression e) ++ instrs.Not ∷ []))) c.deref-in-Not.ensures c.emit_unary-in-Not.ensures.code)

pub emit_expr-returns-in-Not-clause-depth : goal.emit_expr-returns-in-Not-clause-depth
emit_expr-returns-in-Not-clause-depth t c =
    subst (λ (e : Expr). IfOk c.emit_unary-in-Not.result (λ d. d ≡ depth (expression e))) (sym c.in-Not.is)
    (subst (λ (e : Expr). IfOk c.emit_unary-in-Not.result (λ d. d ≡ depth (expression e))) c.deref-in-Not.ensures c.emit_unary-in-Not.ensures.depth)

pub emit_expr-returns-in-Input-clause-code : goal.emit_expr-returns-in-Input-clause-code
emit_expr-returns-in-Input-clause-code t c =
    subst (λ (e : Expr). OnOk c.emit_unary-in-Input.result (c.emit_unary-in-Input.new.code.items ≡ c.args.code.now.items ++ expr_code (expression e))) (sym c.in-Input.is)
    (subst (λ (e : Expr). OnOk c.emit_unary-in-Input.result (c.emit_unary-in-Input.new.code.items ≡ c.args.code.now.items ++ (expr_code (expression e) ++ instrs.Input ∷ []))) c.deref-in-Input.ensures c.emit_unary-in-Input.ensures.code)

pub emit_expr-returns-in-Input-clause-depth : goal.emit_expr-returns-in-Input-clause-depth
emit_expr-returns-in-Input-clause-depth t c =
    subst (λ (e : Expr). IfOk c.emit_unary-in-Input.result (λ d. d ≡ depth (expression e))) (sym c.in-Input.is)
    (subst (λ (e : Expr). IfOk c.emit_unary-in-Input.result (λ d. d ≡ depth (expression e))) c.deref-in-Input.ensures c.emit_unary-in-Input.ensures.depth)

pub emit_expr-returns-in_ok-put-in-Binary-clause-code : goal.emit_expr-returns-in_ok-put-in-Binary-clause-code
emit_expr-returns-in_ok-put-in-Binary-clause-code t c =
    let base = c.args.code.now.items in
    let op = c.in-Binary.operator in
    put_last base _ _ _ _ _ _ c.in_ok-left-in-Binary.ensures.code c.in_ok-right-in-Binary.ensures.code c.in_ok-put-in-Binary.ensures
    ∙ ap (λ a. base ++ expr_code (trees.Binary op (expression a) (expression c.deref-in-Binary-2.result.now))) c.deref-in-Binary.ensures
    ∙ ap (λ b. base ++ expr_code (trees.Binary op (expression c.in-Binary.a.value) (expression b))) c.deref-in-Binary-2.ensures
    ∙ ap (λ e. base ++ expr_code (expression e)) (sym c.in-Binary.is)

pub emit_expr-returns-in_ok-put-in-Binary-clause-depth : goal.emit_expr-returns-in_ok-put-in-Binary-clause-depth
emit_expr-returns-in_ok-put-in-Binary-clause-depth t c =
    let b = expression c.deref-in-Binary-2.result.now in
    c.max.ensures
    ∙ ap (λ l. max l (c.in_ok-right-in-Binary.right + 1)) c.in_ok-left-in-Binary.ensures.depth
    ∙ ap (λ r. max (depth (expression c.deref-in-Binary.result.now)) (r + 1)) c.in_ok-right-in-Binary.ensures.depth
    ∙ ap (λ a. depth (trees.Binary c.in-Binary.operator (expression a) b)) c.deref-in-Binary.ensures
    ∙ ap (λ b. depth (trees.Binary c.in-Binary.operator (expression c.in-Binary.a.value) (expression b))) c.deref-in-Binary-2.ensures
    ∙ ap (λ e. depth (expression e)) (sym c.in-Binary.is)

pub emit_expr-returns-in_ok-end_and-in-And-clause-depth : goal.emit_expr-returns-in_ok-end_and-in-And-clause-depth
emit_expr-returns-in_ok-end_and-in-And-clause-depth t c =
    let b = expression c.deref-in-And-2.result.now in
    c.max-in-And.ensures
    ∙ ap (λ l. max l c.in_ok-right-in-And.right) c.in_ok-left-in-And.ensures.depth
    ∙ ap (λ r. max (depth (expression c.deref-in-And.result.now)) r) c.in_ok-right-in-And.ensures.depth
    ∙ ap (λ a. depth (trees.And (expression a) b)) c.deref-in-And.ensures
    ∙ ap (λ b. depth (trees.And (expression c.in-And.a.value) (expression b))) c.deref-in-And-2.ensures
    ∙ ap (λ e. depth (expression e)) (sym c.in-And.is)

pub emit_expr-returns-in_ok-end_or-in-Or-clause-depth : goal.emit_expr-returns-in_ok-end_or-in-Or-clause-depth
emit_expr-returns-in_ok-end_or-in-Or-clause-depth t c =
    let b = expression c.deref-in-Or-2.result.now in
    c.max-in-Or.ensures
    ∙ ap (λ l. max l c.in_ok-right-in-Or.right) c.in_ok-left-in-Or.ensures.depth
    ∙ ap (λ r. max (depth (expression c.deref-in-Or.result.now)) r) c.in_ok-right-in-Or.ensures.depth
    ∙ ap (λ a. depth (trees.Or (expression a) b)) c.deref-in-Or.ensures
    ∙ ap (λ b. depth (trees.Or (expression c.in-Or.a.value) (expression b))) c.deref-in-Or-2.ensures
    ∙ ap (λ e. depth (expression e)) (sym c.in-Or.is)

pub emit_expr-end_and-requires : goal.emit_expr-end_and-requires
emit_expr-end_and-requires t c = and_stands _ _ _ _ _ c.in_ok-skip-in-And.ensures.place c.in_ok-skip-in-And.ensures.code c.in_ok-right-in-And.ensures.code

pub emit_expr-end_or-requires : goal.emit_expr-end_or-requires
emit_expr-end_or-requires t c = or_stands _ _ _ _ _ c.in_ok-jump-in-Or.ensures.place c.in_ok-jump-in-Or.ensures.code c.in_ok-right-in-Or.ensures.code
