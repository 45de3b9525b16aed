use Rattle.std.proofs.Common.{◌≡◌, ℕ, ◌+◌, ◌<◌, ◌++◌, ◌∷◌, [], OnOk, length, map, max, take, sym, ap, ◌∙◌, subst, rules, arith, append_assoc, length-append, List}
use Rattle.std.proofs.lemmas.Result.{on_ok_weaker}
use Rattle.std.specs.declared.result.Result.{Result}
use Rattle.std.specs.declared.result.Result.TheVariants.{Ok, Err}
use Rattle.std.specs.declared.alloc.AllocError.{AllocError}
use Rattle.cilk_program.specs.declared.syntax.Stmt.{Stmt, the_lemmas}
use Rattle.cilk_program.specs.declared.syntax.Declaration.{Declaration}
use Rattle.cilk_program.specs.declared.syntax.Expr.{Expr}
use Rattle.cilk_program.specs.Syntax as trees
use Rattle.cilk_lower.specs.declared.code.Instr.{Instr}
use Rattle.cilk_program.specs.Programs.{declaration, expression, optional, statement, statements}
use Rattle.cilk_lower.specs.declared.code.Instr.TheVariants.{Tick, JumpIfZero}
use Rattle.cilk_lower.specs.Code.{SitesFit, declarations_sites, expr_code, stmt_code, stmt_sites, all_code, all_sites}
use Rattle.cilk_lower.specs.Rooms.{deepest, deepest_of_all}
use Rattle.cilk_lower.specs.Turns.{test_code}
use Rattle.cilk_lower.proofs.Lists.{append_none}
use Rattle.cilk_lower.proofs.Named.{front_fits, back_fits}
use Rattle.cilk_lower.proofs.Patch.{patch_if, patch_if_else, patch_for, turn_follows, turn_starts}
use Rattle.cilk_lower.proofs.Rows.{block_is, row_fits, code_more, sites_more, room_more, row_code, meant, block_code, else_code, two_sites, three_sites, for_code, stmt_some}
use Rattle.cilk_lower.proofs.emitter.Emitter.+statements.Goals as goal

always : (r : Result (Unit {0}) AllocError) (P : Type 0) → P → OnOk r P
always (Ok u) P p = p
always (Err e) P p = tt

-- the place of a test that is patched
test_stands : (base tc ac c2 c3 : List Instr) (n : ℕ) → n ≡ length base + 1 + length tc → c2 ≡ base ++ (Tick ∷ (tc ++ JumpIfZero 0 ∷ [])) → c3 ≡ c2 ++ ac → n < length c3
test_stands base tc ac c2 c3 n m e2 e3 =
    omega (arith, m, ap length e2, ap length e3, length-append base (Tick ∷ (tc ++ JumpIfZero 0 ∷ [])), length-append tc (JumpIfZero 0 ∷ []), length-append c2 ac)

pub emit_all-emit_stmt-requires : goal.emit_all-emit_stmt-requires
emit_all-emit_stmt-requires t c =
    let low : c.each.s-index < length c.args.row.now = omega (arith, c.each-test.true) in
    (search (rules, the_lemmas), row_fits c.args.row.now c.each.s-index c.s-item.result low c.s-item.is c.requires)

pub emit_all-each-preserved : goal.emit_all-each-preserved
emit_all-each-preserved t c =
    let row = c.args.row.now in
    let i = c.each.s-index in
    let s = c.s-item.result in
    let low : i < length row = omega (arith, c.each-test.true) in
    let base = c.args.self.now.instrs.items in
    let sites = c.args.self.now.sites.items in
    let so_far = statements (take i row) in
    record {
      code = row_code c.each.self.instrs.items c.emit_stmt.new.self.instrs.items sites c.each.self.sites.items so_far (statement s) c.each.invariant.sites c.in_ok-emit_stmt.ensures.code
          ∙ ap (λ l. l ++ stmt_code (length sites + length (all_sites so_far)) (statement s)) c.each.invariant.code
          ∙ append_assoc base (all_code (length sites) so_far) (stmt_code (length sites + length (all_sites so_far)) (statement s))
          ∙ ap (λ l. base ++ l) (sym (code_more row i s low c.s-item.is (length sites)));
      sites = c.in_ok-emit_stmt.ensures.sites
          ∙ ap (λ l. l ++ stmt_sites (statement s)) c.each.invariant.sites
          ∙ append_assoc sites (all_sites so_far) (stmt_sites (statement s))
          ∙ ap (λ l. sites ++ l) (sym (sites_more row i s low c.s-item.is));
      room = omega (arith, c.in_ok-emit_stmt.ensures.room, c.each.invariant.room, room_more row i s low c.s-item.is);
    }

pub emit_stmt-emit_all-requires : goal.emit_stmt-emit_all-requires
emit_stmt-emit_all-requires t c =
    let fits : SitesFit (all_sites (statements c.in-Block.row.items)) = subst (λ s. SitesFit (stmt_sites s)) (ap statement c.in-Block.is ∙ block_is c.in-Block.at c.in-Block.row) c.requires in
    (search (rules, the_lemmas), subst (λ (row : List Stmt). SitesFit (all_sites (statements row))) (sym c.deref.ensures.value) fits)

pub emit_stmt-emit_declarations-requires : goal.emit_stmt-emit_declarations-requires
emit_stmt-emit_declarations-requires t c =
    let fits : SitesFit (declarations_sites (map declaration c.in-Declare.row.items)) = subst (λ (s : Stmt). SitesFit (stmt_sites (statement s))) c.in-Declare.is c.requires in
    subst (λ (row : List Declaration). SitesFit (declarations_sites (map declaration row))) (sym c.deref-in-Declare.ensures.value) fits

pub emit_stmt-emit_statement_invoke-requires : goal.emit_stmt-emit_statement_invoke-requires
emit_stmt-emit_statement_invoke-requires t c = subst (λ (s : Stmt). SitesFit (stmt_sites (statement s))) c.in-Invoke.is c.requires

pub emit_stmt-returns-in_ok-begin-in-Block-clause-code : goal.emit_stmt-returns-in_ok-begin-in-Block-clause-code
emit_stmt-returns-in_ok-begin-in-Block-clause-code t c =
    let base = c.args.self.now.instrs.items in
    let k = length c.args.self.now.sites.items in
    on_ok_weaker {P = c.emit_all.new.self.instrs.items ≡ c.begin-in-Block.new.code.items ++ all_code k (statements c.deref.result.now)} {Q = c.emit_all.new.self.instrs.items ≡ base ++ stmt_code k (statement c.args.s.now)} c.emit_all.result (λ e.
    block_code base c.begin-in-Block.new.code.items _ k (statements c.deref.result.now) c.in_ok-begin-in-Block.ensures e
    ∙ ap (λ row. base ++ (Tick ∷ all_code k (statements row))) c.deref.ensures.value
    ∙ ap (λ s. base ++ stmt_code k s) (sym (ap statement c.in-Block.is ∙ block_is c.in-Block.at c.in-Block.row))) c.emit_all.ensures.code

pub emit_stmt-returns-in_ok-begin-in-Block-clause-sites : goal.emit_stmt-returns-in_ok-begin-in-Block-clause-sites
emit_stmt-returns-in_ok-begin-in-Block-clause-sites t c =
    let sites = c.args.self.now.sites.items in
    on_ok_weaker {P = c.emit_all.new.self.sites.items ≡ sites ++ all_sites (statements c.deref.result.now)} {Q = c.emit_all.new.self.sites.items ≡ sites ++ stmt_sites (statement c.args.s.now)} c.emit_all.result (λ e. e
    ∙ ap (λ row. sites ++ all_sites (statements row)) c.deref.ensures.value
    ∙ ap (λ s. sites ++ stmt_sites s) (sym (ap statement c.in-Block.is ∙ block_is c.in-Block.at c.in-Block.row))) c.emit_all.ensures.sites

pub emit_stmt-returns-in_ok-begin-in-Block-clause-room : goal.emit_stmt-returns-in_ok-begin-in-Block-clause-room
emit_stmt-returns-in_ok-begin-in-Block-clause-room t c =
    let room = c.args.self.now.room in
    on_ok_weaker {P = c.emit_all.new.self.room ≡ max room (deepest_of_all (statements c.deref.result.now))} {Q = c.emit_all.new.self.room ≡ max room (deepest (statement c.args.s.now))} c.emit_all.result (λ e. e
    ∙ ap (λ row. max room (deepest_of_all (statements row))) c.deref.ensures.value
    ∙ ap (λ s. max room (deepest s)) (sym (ap statement c.in-Block.is ∙ block_is c.in-Block.at c.in-Block.row))) c.emit_all.ensures.room

pub emit_stmt-returns-in-Empty-clause-code : goal.emit_stmt-returns-in-Empty-clause-code
emit_stmt-returns-in-Empty-clause-code t c = subst (λ (s : Stmt). OnOk c.begin.result (c.begin.new.code.items ≡ c.args.self.now.instrs.items ++ stmt_code (length c.args.self.now.sites.items) (statement s))) (sym c.in-Empty.is) c.begin.ensures

pub emit_stmt-returns-in-Empty-clause-sites : goal.emit_stmt-returns-in-Empty-clause-sites
emit_stmt-returns-in-Empty-clause-sites t c = subst (λ (s : Stmt). OnOk c.begin.result (c.args.self.now.sites.items ≡ c.args.self.now.sites.items ++ stmt_sites (statement s))) (sym c.in-Empty.is) (always c.begin.result _ (sym (append_none c.args.self.now.sites.items)))

pub emit_stmt-returns-in-Empty-clause-room : goal.emit_stmt-returns-in-Empty-clause-room
emit_stmt-returns-in-Empty-clause-room t c = subst (λ (s : Stmt). OnOk c.begin.result (c.args.self.now.room ≡ max c.args.self.now.room (deepest (statement s)))) (sym c.in-Empty.is) (always c.begin.result _ (omega arith))

pub emit_stmt-returns-in-Assign-clause-code : goal.emit_stmt-returns-in-Assign-clause-code
emit_stmt-returns-in-Assign-clause-code t c = subst (λ (s : Stmt). OnOk c.emit_assign.result (c.emit_assign.new.code.items ≡ c.args.self.now.instrs.items ++ stmt_code (length c.args.self.now.sites.items) (statement s))) (sym c.in-Assign.is) c.emit_assign.ensures.code

pub emit_stmt-returns-in-Assign-clause-sites : goal.emit_stmt-returns-in-Assign-clause-sites
emit_stmt-returns-in-Assign-clause-sites t c = subst (λ (s : Stmt). OnOk c.emit_assign.result (c.args.self.now.sites.items ≡ c.args.self.now.sites.items ++ stmt_sites (statement s))) (sym c.in-Assign.is) (always c.emit_assign.result _ (sym (append_none c.args.self.now.sites.items)))

pub emit_stmt-returns-in-Assign-clause-room : goal.emit_stmt-returns-in-Assign-clause-room
emit_stmt-returns-in-Assign-clause-room t c = subst (λ (s : Stmt). OnOk c.emit_assign.result (c.emit_assign.new.room ≡ max c.args.self.now.room (deepest (statement s)))) (sym c.in-Assign.is) c.emit_assign.ensures.room

pub emit_stmt-returns-in-Change-clause-code : goal.emit_stmt-returns-in-Change-clause-code
emit_stmt-returns-in-Change-clause-code t c = subst (λ (s : Stmt). OnOk c.emit_change.result (c.emit_change.new.code.items ≡ c.args.self.now.instrs.items ++ stmt_code (length c.args.self.now.sites.items) (statement s))) (sym c.in-Change.is) c.emit_change.ensures.code

pub emit_stmt-returns-in-Change-clause-sites : goal.emit_stmt-returns-in-Change-clause-sites
emit_stmt-returns-in-Change-clause-sites t c = subst (λ (s : Stmt). OnOk c.emit_change.result (c.args.self.now.sites.items ≡ c.args.self.now.sites.items ++ stmt_sites (statement s))) (sym c.in-Change.is) (always c.emit_change.result _ (sym (append_none c.args.self.now.sites.items)))

pub emit_stmt-returns-in-Change-clause-room : goal.emit_stmt-returns-in-Change-clause-room
emit_stmt-returns-in-Change-clause-room t c = subst (λ (s : Stmt). OnOk c.emit_change.result (c.emit_change.new.room ≡ max c.args.self.now.room (deepest (statement s)))) (sym c.in-Change.is) c.emit_change.ensures.room

pub emit_stmt-returns-in-Step-clause-sites : goal.emit_stmt-returns-in-Step-clause-sites
emit_stmt-returns-in-Step-clause-sites t c = subst (λ (s : Stmt). OnOk c.emit_step.result (c.args.self.now.sites.items ≡ c.args.self.now.sites.items ++ stmt_sites (statement s))) (sym c.in-Step.is) (always c.emit_step.result _ (sym (append_none c.args.self.now.sites.items)))

pub emit_stmt-returns-in-Step-clause-room : goal.emit_stmt-returns-in-Step-clause-room
emit_stmt-returns-in-Step-clause-room t c = subst (λ (s : Stmt). OnOk c.emit_step.result (c.emit_step.new.room ≡ max c.args.self.now.room (deepest (statement s)))) (sym c.in-Step.is) c.emit_step.ensures.room

pub emit_stmt-returns-in-Sync-clause-code : goal.emit_stmt-returns-in-Sync-clause-code
emit_stmt-returns-in-Sync-clause-code t c = subst (λ (s : Stmt). OnOk c.emit_sync.result (c.emit_sync.new.code.items ≡ c.args.self.now.instrs.items ++ stmt_code (length c.args.self.now.sites.items) (statement s))) (sym c.in-Sync.is) c.emit_sync.ensures

pub emit_stmt-returns-in-Sync-clause-sites : goal.emit_stmt-returns-in-Sync-clause-sites
emit_stmt-returns-in-Sync-clause-sites t c = subst (λ (s : Stmt). OnOk c.emit_sync.result (c.args.self.now.sites.items ≡ c.args.self.now.sites.items ++ stmt_sites (statement s))) (sym c.in-Sync.is) (always c.emit_sync.result _ (sym (append_none c.args.self.now.sites.items)))

pub emit_stmt-returns-in-Sync-clause-room : goal.emit_stmt-returns-in-Sync-clause-room
emit_stmt-returns-in-Sync-clause-room t c = subst (λ (s : Stmt). OnOk c.emit_sync.result (c.args.self.now.room ≡ max c.args.self.now.room (deepest (statement s)))) (sym c.in-Sync.is) (always c.emit_sync.result _ (omega arith))

pub emit_stmt-returns-in-Print-clause-code : goal.emit_stmt-returns-in-Print-clause-code
emit_stmt-returns-in-Print-clause-code t c = subst (λ (s : Stmt). OnOk c.emit_last.result (c.emit_last.new.code.items ≡ c.args.self.now.instrs.items ++ stmt_code (length c.args.self.now.sites.items) (statement s))) (sym c.in-Print.is) c.emit_last.ensures.code

pub emit_stmt-returns-in-Print-clause-sites : goal.emit_stmt-returns-in-Print-clause-sites
emit_stmt-returns-in-Print-clause-sites t c = subst (λ (s : Stmt). OnOk c.emit_last.result (c.args.self.now.sites.items ≡ c.args.self.now.sites.items ++ stmt_sites (statement s))) (sym c.in-Print.is) (always c.emit_last.result _ (sym (append_none c.args.self.now.sites.items)))

pub emit_stmt-returns-in-Print-clause-room : goal.emit_stmt-returns-in-Print-clause-room
emit_stmt-returns-in-Print-clause-room t c = subst (λ (s : Stmt). OnOk c.emit_last.result (c.emit_last.new.room ≡ max c.args.self.now.room (deepest (statement s)))) (sym c.in-Print.is) c.emit_last.ensures.room

pub emit_stmt-returns-in-Update-clause-code : goal.emit_stmt-returns-in-Update-clause-code
emit_stmt-returns-in-Update-clause-code t c = subst (λ (s : Stmt). OnOk c.emit_last-in-Update.result (c.emit_last-in-Update.new.code.items ≡ c.args.self.now.instrs.items ++ stmt_code (length c.args.self.now.sites.items) (statement s))) (sym c.in-Update.is) c.emit_last-in-Update.ensures.code

pub emit_stmt-returns-in-Update-clause-sites : goal.emit_stmt-returns-in-Update-clause-sites
emit_stmt-returns-in-Update-clause-sites t c = subst (λ (s : Stmt). OnOk c.emit_last-in-Update.result (c.args.self.now.sites.items ≡ c.args.self.now.sites.items ++ stmt_sites (statement s))) (sym c.in-Update.is) (always c.emit_last-in-Update.result _ (sym (append_none c.args.self.now.sites.items)))

pub emit_stmt-returns-in-Update-clause-room : goal.emit_stmt-returns-in-Update-clause-room
emit_stmt-returns-in-Update-clause-room t c = subst (λ (s : Stmt). OnOk c.emit_last-in-Update.result (c.emit_last-in-Update.new.room ≡ max c.args.self.now.room (deepest (statement s)))) (sym c.in-Update.is) c.emit_last-in-Update.ensures.room

pub emit_stmt-returns-in-Set-clause-code : goal.emit_stmt-returns-in-Set-clause-code
emit_stmt-returns-in-Set-clause-code t c = subst (λ (s : Stmt). OnOk c.emit_last-in-Set.result (c.emit_last-in-Set.new.code.items ≡ c.args.self.now.instrs.items ++ stmt_code (length c.args.self.now.sites.items) (statement s))) (sym c.in-Set.is) c.emit_last-in-Set.ensures.code

pub emit_stmt-returns-in-Set-clause-sites : goal.emit_stmt-returns-in-Set-clause-sites
emit_stmt-returns-in-Set-clause-sites t c = subst (λ (s : Stmt). OnOk c.emit_last-in-Set.result (c.args.self.now.sites.items ≡ c.args.self.now.sites.items ++ stmt_sites (statement s))) (sym c.in-Set.is) (always c.emit_last-in-Set.result _ (sym (append_none c.args.self.now.sites.items)))

pub emit_stmt-returns-in-Set-clause-room : goal.emit_stmt-returns-in-Set-clause-room
emit_stmt-returns-in-Set-clause-room t c = subst (λ (s : Stmt). OnOk c.emit_last-in-Set.result (c.emit_last-in-Set.new.room ≡ max c.args.self.now.room (deepest (statement s)))) (sym c.in-Set.is) c.emit_last-in-Set.ensures.room

pub emit_stmt-returns-in-Return-clause-code : goal.emit_stmt-returns-in-Return-clause-code
emit_stmt-returns-in-Return-clause-code t c = subst (λ (s : Stmt). OnOk c.emit_return.result (c.emit_return.new.code.items ≡ c.args.self.now.instrs.items ++ stmt_code (length c.args.self.now.sites.items) (statement s))) (sym c.in-Return.is) c.emit_return.ensures.code

pub emit_stmt-returns-in-Return-clause-sites : goal.emit_stmt-returns-in-Return-clause-sites
emit_stmt-returns-in-Return-clause-sites t c = subst (λ (s : Stmt). OnOk c.emit_return.result (c.args.self.now.sites.items ≡ c.args.self.now.sites.items ++ stmt_sites (statement s))) (sym c.in-Return.is) (always c.emit_return.result _ (sym (append_none c.args.self.now.sites.items)))

pub emit_stmt-returns-in-Return-clause-room : goal.emit_stmt-returns-in-Return-clause-room
emit_stmt-returns-in-Return-clause-room t c = subst (λ (s : Stmt). OnOk c.emit_return.result (c.emit_return.new.room ≡ max c.args.self.now.room (deepest (statement s)))) (sym c.in-Return.is) c.emit_return.ensures.room

pub emit_stmt-returns-in-ParallelFor-clause-code : goal.emit_stmt-returns-in-ParallelFor-clause-code
emit_stmt-returns-in-ParallelFor-clause-code t c =
    subst (λ (s : Stmt). OnOk c.emit_parallel.result (c.emit_parallel.new.code.items ≡ c.args.self.now.instrs.items ++ stmt_code (length c.args.self.now.sites.items) (statement s))) (sym c.in-ParallelFor.is)
    (subst (λ (b : Expr). OnOk c.emit_parallel.result (c.emit_parallel.new.code.items ≡ c.args.self.now.instrs.items ++ stmt_code (length c.args.self.now.sites.items) (trees.ParallelFor (expression c.in-ParallelFor.a.value) (expression b) c.in-ParallelFor.n))) c.deref-in-ParallelFor-2.ensures
    (subst (λ (a : Expr). OnOk c.emit_parallel.result (c.emit_parallel.new.code.items ≡ c.args.self.now.instrs.items ++ stmt_code (length c.args.self.now.sites.items) (trees.ParallelFor (expression a) (expression c.deref-in-ParallelFor-2.result.now) c.in-ParallelFor.n))) c.deref-in-ParallelFor.ensures c.emit_parallel.ensures.code))

pub emit_stmt-returns-in-ParallelFor-clause-sites : goal.emit_stmt-returns-in-ParallelFor-clause-sites
emit_stmt-returns-in-ParallelFor-clause-sites t c = subst (λ (s : Stmt). OnOk c.emit_parallel.result (c.args.self.now.sites.items ≡ c.args.self.now.sites.items ++ stmt_sites (statement s))) (sym c.in-ParallelFor.is) (always c.emit_parallel.result _ (sym (append_none c.args.self.now.sites.items)))

pub emit_stmt-returns-in-ParallelFor-clause-room : goal.emit_stmt-returns-in-ParallelFor-clause-room
emit_stmt-returns-in-ParallelFor-clause-room t c =
    subst (λ (s : Stmt). OnOk c.emit_parallel.result (c.emit_parallel.new.room ≡ max c.args.self.now.room (deepest (statement s)))) (sym c.in-ParallelFor.is)
    (subst (λ (b : Expr). OnOk c.emit_parallel.result (c.emit_parallel.new.room ≡ max c.args.self.now.room (deepest (trees.ParallelFor (expression c.in-ParallelFor.a.value) (expression b) c.in-ParallelFor.n)))) c.deref-in-ParallelFor-2.ensures
    (subst (λ (a : Expr). OnOk c.emit_parallel.result (c.emit_parallel.new.room ≡ max c.args.self.now.room (deepest (trees.ParallelFor (expression a) (expression c.deref-in-ParallelFor-2.result.now) c.in-ParallelFor.n)))) c.deref-in-ParallelFor.ensures c.emit_parallel.ensures.room))

pub emit_stmt-returns-in-Invoke-clause-code : goal.emit_stmt-returns-in-Invoke-clause-code
emit_stmt-returns-in-Invoke-clause-code t c = subst (λ (s : Stmt). OnOk c.emit_statement_invoke.result (c.emit_statement_invoke.new.self.instrs.items ≡ c.args.self.now.instrs.items ++ stmt_code (length c.args.self.now.sites.items) (statement s))) (sym c.in-Invoke.is) c.emit_statement_invoke.ensures.code

pub emit_stmt-returns-in-Invoke-clause-sites : goal.emit_stmt-returns-in-Invoke-clause-sites
emit_stmt-returns-in-Invoke-clause-sites t c = subst (λ (s : Stmt). OnOk c.emit_statement_invoke.result (c.emit_statement_invoke.new.self.sites.items ≡ c.args.self.now.sites.items ++ stmt_sites (statement s))) (sym c.in-Invoke.is) c.emit_statement_invoke.ensures.sites

pub emit_stmt-returns-in-Invoke-clause-room : goal.emit_stmt-returns-in-Invoke-clause-room
emit_stmt-returns-in-Invoke-clause-room t c = subst (λ (s : Stmt). OnOk c.emit_statement_invoke.result (c.emit_statement_invoke.new.self.room ≡ max c.args.self.now.room (deepest (statement s)))) (sym c.in-Invoke.is) c.emit_statement_invoke.ensures.room

pub emit_stmt-returns-in-Declare-clause-code : goal.emit_stmt-returns-in-Declare-clause-code
emit_stmt-returns-in-Declare-clause-code t c = subst (λ (s : Stmt). OnOk c.emit_declarations.result (c.emit_declarations.new.self.instrs.items ≡ c.args.self.now.instrs.items ++ stmt_code (length c.args.self.now.sites.items) (statement s))) (sym c.in-Declare.is)
    (subst (λ (row : List Declaration). OnOk c.emit_declarations.result (c.emit_declarations.new.self.instrs.items ≡ c.args.self.now.instrs.items ++ stmt_code (length c.args.self.now.sites.items) (trees.Declare (map declaration row)))) c.deref-in-Declare.ensures.value c.emit_declarations.ensures.code)

pub emit_stmt-returns-in-Declare-clause-sites : goal.emit_stmt-returns-in-Declare-clause-sites
emit_stmt-returns-in-Declare-clause-sites t c = subst (λ (s : Stmt). OnOk c.emit_declarations.result (c.emit_declarations.new.self.sites.items ≡ c.args.self.now.sites.items ++ stmt_sites (statement s))) (sym c.in-Declare.is)
    (subst (λ (row : List Declaration). OnOk c.emit_declarations.result (c.emit_declarations.new.self.sites.items ≡ c.args.self.now.sites.items ++ stmt_sites (trees.Declare (map declaration row)))) c.deref-in-Declare.ensures.value c.emit_declarations.ensures.sites)

pub emit_stmt-returns-in-Declare-clause-room : goal.emit_stmt-returns-in-Declare-clause-room
emit_stmt-returns-in-Declare-clause-room t c = subst (λ (s : Stmt). OnOk c.emit_declarations.result (c.emit_declarations.new.self.room ≡ max c.args.self.now.room (deepest (statement s)))) (sym c.in-Declare.is)
    (subst (λ (row : List Declaration). OnOk c.emit_declarations.result (c.emit_declarations.new.self.room ≡ max c.args.self.now.room (deepest (trees.Declare (map declaration row))))) c.deref-in-Declare.ensures.value c.emit_declarations.ensures.room)

pub emit_stmt-emit_if-requires : goal.emit_stmt-emit_if-requires
emit_stmt-emit_if-requires t c =
    let fits = subst (λ (s : Stmt). SitesFit (stmt_sites (statement s))) c.in-If.is c.requires in
    (search (rules, the_lemmas), subst (λ (s : Stmt). SitesFit (stmt_sites (statement s))) (sym c.deref-in-If.ensures) fits)

pub emit_stmt-returns-in-If-clause-code : goal.emit_stmt-returns-in-If-clause-code
emit_stmt-returns-in-If-clause-code t c =
    subst (λ (s : Stmt). OnOk c.emit_if.result (c.emit_if.new.self.instrs.items ≡ c.args.self.now.instrs.items ++ stmt_code (length c.args.self.now.sites.items) (statement s))) (sym c.in-If.is)
    (subst (λ (s : Stmt). OnOk c.emit_if.result (c.emit_if.new.self.instrs.items ≡ c.args.self.now.instrs.items ++ stmt_code (length c.args.self.now.sites.items) (trees.If (expression c.in-If.test) (statement s)))) c.deref-in-If.ensures c.emit_if.ensures.code)

pub emit_stmt-returns-in-If-clause-sites : goal.emit_stmt-returns-in-If-clause-sites
emit_stmt-returns-in-If-clause-sites t c =
    subst (λ (s : Stmt). OnOk c.emit_if.result (c.emit_if.new.self.sites.items ≡ c.args.self.now.sites.items ++ stmt_sites (statement s))) (sym c.in-If.is)
    (subst (λ (s : Stmt). OnOk c.emit_if.result (c.emit_if.new.self.sites.items ≡ c.args.self.now.sites.items ++ stmt_sites (trees.If (expression c.in-If.test) (statement s)))) c.deref-in-If.ensures c.emit_if.ensures.sites)

pub emit_stmt-returns-in-If-clause-room : goal.emit_stmt-returns-in-If-clause-room
emit_stmt-returns-in-If-clause-room t c =
    subst (λ (s : Stmt). OnOk c.emit_if.result (c.emit_if.new.self.room ≡ max c.args.self.now.room (deepest (statement s)))) (sym c.in-If.is)
    (subst (λ (s : Stmt). OnOk c.emit_if.result (c.emit_if.new.self.room ≡ max c.args.self.now.room (deepest (trees.If (expression c.in-If.test) (statement s))))) c.deref-in-If.ensures c.emit_if.ensures.room)

pub emit_stmt-emit_if_else-requires : goal.emit_stmt-emit_if_else-requires
emit_stmt-emit_if_else-requires t c =
    let fits = subst (λ (s : Stmt). SitesFit (stmt_sites (statement s))) c.in-IfElse.is c.requires in
    let first = subst (λ (s : Stmt). SitesFit (stmt_sites (statement s) ++ stmt_sites (statement c.in-IfElse.second.value))) (sym c.deref-in-IfElse.ensures) fits in
    (search (rules, the_lemmas), subst (λ (s : Stmt). SitesFit (stmt_sites (statement c.deref-in-IfElse.result.now) ++ stmt_sites (statement s))) (sym c.deref-in-IfElse-2.ensures) first)

pub emit_stmt-returns-in-IfElse-clause-code : goal.emit_stmt-returns-in-IfElse-clause-code
emit_stmt-returns-in-IfElse-clause-code t c =
    subst (λ (s : Stmt). OnOk c.emit_if_else.result (c.emit_if_else.new.self.instrs.items ≡ c.args.self.now.instrs.items ++ stmt_code (length c.args.self.now.sites.items) (statement s))) (sym c.in-IfElse.is)
    (subst (λ (s : Stmt). OnOk c.emit_if_else.result (c.emit_if_else.new.self.instrs.items ≡ c.args.self.now.instrs.items ++ stmt_code (length c.args.self.now.sites.items) (trees.IfElse (expression c.in-IfElse.test) (statement c.in-IfElse.first.value) (statement s)))) c.deref-in-IfElse-2.ensures
    (subst (λ (s : Stmt). OnOk c.emit_if_else.result (c.emit_if_else.new.self.instrs.items ≡ c.args.self.now.instrs.items ++ stmt_code (length c.args.self.now.sites.items) (trees.IfElse (expression c.in-IfElse.test) (statement s) (statement c.deref-in-IfElse-2.result.now)))) c.deref-in-IfElse.ensures c.emit_if_else.ensures.code))

pub emit_stmt-returns-in-IfElse-clause-sites : goal.emit_stmt-returns-in-IfElse-clause-sites
emit_stmt-returns-in-IfElse-clause-sites t c =
    subst (λ (s : Stmt). OnOk c.emit_if_else.result (c.emit_if_else.new.self.sites.items ≡ c.args.self.now.sites.items ++ stmt_sites (statement s))) (sym c.in-IfElse.is)
    (subst (λ (s : Stmt). OnOk c.emit_if_else.result (c.emit_if_else.new.self.sites.items ≡ c.args.self.now.sites.items ++ stmt_sites (trees.IfElse (expression c.in-IfElse.test) (statement c.in-IfElse.first.value) (statement s)))) c.deref-in-IfElse-2.ensures
    (subst (λ (s : Stmt). OnOk c.emit_if_else.result (c.emit_if_else.new.self.sites.items ≡ c.args.self.now.sites.items ++ stmt_sites (trees.IfElse (expression c.in-IfElse.test) (statement s) (statement c.deref-in-IfElse-2.result.now)))) c.deref-in-IfElse.ensures c.emit_if_else.ensures.sites))

pub emit_stmt-returns-in-IfElse-clause-room : goal.emit_stmt-returns-in-IfElse-clause-room
emit_stmt-returns-in-IfElse-clause-room t c =
    subst (λ (s : Stmt). OnOk c.emit_if_else.result (c.emit_if_else.new.self.room ≡ max c.args.self.now.room (deepest (statement s)))) (sym c.in-IfElse.is)
    (subst (λ (s : Stmt). OnOk c.emit_if_else.result (c.emit_if_else.new.self.room ≡ max c.args.self.now.room (deepest (trees.IfElse (expression c.in-IfElse.test) (statement c.in-IfElse.first.value) (statement s))))) c.deref-in-IfElse-2.ensures
    (subst (λ (s : Stmt). OnOk c.emit_if_else.result (c.emit_if_else.new.self.room ≡ max c.args.self.now.room (deepest (trees.IfElse (expression c.in-IfElse.test) (statement s) (statement c.deref-in-IfElse-2.result.now))))) c.deref-in-IfElse.ensures c.emit_if_else.ensures.room))

pub emit_stmt-emit_for-requires : goal.emit_stmt-emit_for-requires
emit_stmt-emit_for-requires t c =
    (search (rules, the_lemmas), subst (λ s. SitesFit (stmt_sites s)) (meant _ c.args.s.now c.in-For.beginning c.in-For.step c.in-For.test c.in-For.body c.deref-in-For.result.now c.deref-in-For-2.result.now c.deref-in-For-3.result.now c.in-For.is c.deref-in-For.ensures.value c.deref-in-For-2.ensures.value c.deref-in-For-3.ensures) c.requires)

pub emit_stmt-returns-in-For-clause-code : goal.emit_stmt-returns-in-For-clause-code
emit_stmt-returns-in-For-clause-code t c =
    subst (λ s. OnOk c.emit_for.result (c.emit_for.new.self.instrs.items ≡ c.args.self.now.instrs.items ++ stmt_code (length c.args.self.now.sites.items) (s))) (sym (meant _ c.args.s.now c.in-For.beginning c.in-For.step c.in-For.test c.in-For.body c.deref-in-For.result.now c.deref-in-For-2.result.now c.deref-in-For-3.result.now c.in-For.is c.deref-in-For.ensures.value c.deref-in-For-2.ensures.value c.deref-in-For-3.ensures))
    c.emit_for.ensures.code

pub emit_stmt-returns-in-For-clause-sites : goal.emit_stmt-returns-in-For-clause-sites
emit_stmt-returns-in-For-clause-sites t c =
    subst (λ s. OnOk c.emit_for.result (c.emit_for.new.self.sites.items ≡ c.args.self.now.sites.items ++ stmt_sites (s))) (sym (meant _ c.args.s.now c.in-For.beginning c.in-For.step c.in-For.test c.in-For.body c.deref-in-For.result.now c.deref-in-For-2.result.now c.deref-in-For-3.result.now c.in-For.is c.deref-in-For.ensures.value c.deref-in-For-2.ensures.value c.deref-in-For-3.ensures))
    c.emit_for.ensures.sites

pub emit_stmt-returns-in-For-clause-room : goal.emit_stmt-returns-in-For-clause-room
emit_stmt-returns-in-For-clause-room t c =
    subst (λ s. OnOk c.emit_for.result (c.emit_for.new.self.room ≡ max c.args.self.now.room (deepest (s)))) (sym (meant _ c.args.s.now c.in-For.beginning c.in-For.step c.in-For.test c.in-For.body c.deref-in-For.result.now c.deref-in-For-2.result.now c.deref-in-For-3.result.now c.in-For.is c.deref-in-For.ensures.value c.deref-in-For-2.ensures.value c.deref-in-For-3.ensures))
    c.emit_for.ensures.room

pub emit_if-emit_stmt-requires : goal.emit_if-emit_stmt-requires
emit_if-emit_stmt-requires t c = (search (rules, the_lemmas), c.requires)

pub emit_if-pass_if_zero-requires : goal.emit_if-pass_if_zero-requires
emit_if-pass_if_zero-requires t c = test_stands _ (expr_code (expression c.args.test.now)) _ _ _ _ c.in_ok-skip.ensures.place c.in_ok-skip.ensures.code c.in_ok-emit_stmt.ensures.code

pub emit_if-returns-clause-code : goal.emit_if-returns-clause-code
emit_if-returns-clause-code t c = patch_if _ _ _ _ _ _ _ c.in_ok-skip.ensures.code c.in_ok-skip.ensures.place c.in_ok-emit_stmt.ensures.code c.pass_if_zero.ensures

pub emit_if-returns-clause-sites : goal.emit_if-returns-clause-sites
emit_if-returns-clause-sites t c = c.in_ok-emit_stmt.ensures.sites

pub emit_if-returns-clause-room : goal.emit_if-returns-clause-room
emit_if-returns-clause-room t c = omega (arith, c.in_ok-skip.ensures.room, c.in_ok-emit_stmt.ensures.room)

pub emit_if_else-emit_stmt-requires : goal.emit_if_else-emit_stmt-requires
emit_if_else-emit_stmt-requires t c = (search (rules, the_lemmas), front_fits (stmt_sites (statement c.args.first.now)) (stmt_sites (statement c.args.second.now)) c.requires)

pub emit_if_else-emit_stmt-requires-2 : goal.emit_if_else-emit_stmt-requires-2
emit_if_else-emit_stmt-requires-2 t c = (search (rules, the_lemmas), back_fits (stmt_sites (statement c.args.first.now)) (stmt_sites (statement c.args.second.now)) c.requires)

pub emit_if_else-begin_else-requires : goal.emit_if_else-begin_else-requires
emit_if_else-begin_else-requires t c = test_stands _ (expr_code (expression c.args.test.now)) _ _ _ _ c.in_ok-skip.ensures.place c.in_ok-skip.ensures.code c.in_ok-emit_stmt.ensures.code

pub emit_if_else-returns-clause-code : goal.emit_if_else-returns-clause-code
emit_if_else-returns-clause-code t c =
    let other = else_code c.begin_else.new.code.items _ c.args.self.now.sites.items c.emit_stmt.new.self.sites.items (statement c.args.first.now) (statement c.args.second.now) c.in_ok-emit_stmt.ensures.sites c.in_ok-emit_stmt-2.ensures.code in
    patch_if_else _ _ _ _ _ _ _ _ _ _ _ c.in_ok-skip.ensures.code c.in_ok-skip.ensures.place c.in_ok-emit_stmt.ensures.code c.in_ok-jump.ensures.place c.in_ok-jump.ensures.code other c.pass.ensures

pub emit_if_else-returns-clause-sites : goal.emit_if_else-returns-clause-sites
emit_if_else-returns-clause-sites t c = two_sites c.args.self.now.sites.items _ _ _ _ c.in_ok-emit_stmt.ensures.sites c.in_ok-emit_stmt-2.ensures.sites

pub emit_if_else-returns-clause-room : goal.emit_if_else-returns-clause-room
emit_if_else-returns-clause-room t c = omega (arith, c.in_ok-skip.ensures.room, c.in_ok-emit_stmt.ensures.room, c.in_ok-emit_stmt-2.ensures.room)

pub emit_for-emit_all-requires : goal.emit_for-emit_all-requires
emit_for-emit_all-requires t c =
    let row = all_sites (statements c.args.beginning.now) in
    let body = stmt_sites (statement c.args.body.now) in
    let step = all_sites (statements c.args.step.now) in
    (search (rules, the_lemmas), front_fits row (body ++ step) c.requires)

pub emit_for-emit_stmt-requires : goal.emit_for-emit_stmt-requires
emit_for-emit_stmt-requires t c =
    let row = all_sites (statements c.args.beginning.now) in
    let body = stmt_sites (statement c.args.body.now) in
    let step = all_sites (statements c.args.step.now) in
    (search (rules, the_lemmas), front_fits body step (back_fits row (body ++ step) c.requires))

pub emit_for-emit_all-requires-2 : goal.emit_for-emit_all-requires-2
emit_for-emit_all-requires-2 t c =
    let row = all_sites (statements c.args.beginning.now) in
    let body = stmt_sites (statement c.args.body.now) in
    let step = all_sites (statements c.args.step.now) in
    (search (rules, the_lemmas), back_fits body step (back_fits row (body ++ step) c.requires))

pub emit_for-end_turn-requires-clause-first : goal.emit_for-end_turn-requires-clause-first
emit_for-end_turn-requires-clause-first t c =
    let follows = turn_follows c.args.self.now.instrs.items (all_code (length c.args.self.now.sites.items) (statements c.args.beginning.now)) (test_code (optional c.args.test.now)) _ _ c.emit_test.new.code.items c.in_ok-begin.ensures c.in_ok-emit_all.ensures.code c.in_ok-emit_test.ensures.code in
    omega (arith, follows, c.len-start.ensures)

pub emit_for-end_turn-requires-clause-start : goal.emit_for-end_turn-requires-clause-start
emit_for-end_turn-requires-clause-start t c =
    let s = statement c.args.body.now in
    let sites = c.emit_all.new.self.sites.items in
    let starts = turn_starts (stmt_code (length sites) s) (all_code (length c.emit_stmt.new.self.sites.items) (statements c.args.step.now)) c.emit_test.new.code.items _ _ c.in_ok-emit_stmt.ensures.code c.in_ok-emit_all-2.ensures.code (stmt_some (length sites) s) in
    omega (arith, starts, c.len-start.ensures)

pub emit_for-returns-clause-code : goal.emit_for-returns-clause-code
emit_for-returns-clause-code t c =
    let base = c.args.self.now.instrs.items in
    let sites = c.args.self.now.sites.items in
    let row = statements c.args.beginning.now in
    let body = statement c.args.body.now in
    let step = statements c.args.step.now in
    let test = optional c.args.test.now in
    let s1 = c.emit_all.new.self.sites.items in
    let s2 = c.emit_stmt.new.self.sites.items in
    patch_for test base (all_code (length sites) row) (stmt_code (length s1) body) (all_code (length s2) step) _ _ _ _ _ _ _ c.in_ok-begin.ensures c.in_ok-emit_all.ensures.code c.in_ok-emit_test.ensures.code c.len-start.ensures c.in_ok-emit_stmt.ensures.code c.in_ok-emit_all-2.ensures.code c.in_ok-end_turn.ensures.code
    ∙ ap (λ l. base ++ l) (for_code sites s1 s2 row step test body c.in_ok-emit_all.ensures.sites c.in_ok-emit_stmt.ensures.sites)

pub emit_for-returns-clause-sites : goal.emit_for-returns-clause-sites
emit_for-returns-clause-sites t c = three_sites c.args.self.now.sites.items c.emit_all.new.self.sites.items c.emit_stmt.new.self.sites.items _ (all_sites (statements c.args.beginning.now)) (stmt_sites (statement c.args.body.now)) (all_sites (statements c.args.step.now)) c.in_ok-emit_all.ensures.sites c.in_ok-emit_stmt.ensures.sites c.in_ok-emit_all-2.ensures.sites

pub emit_for-returns-clause-room : goal.emit_for-returns-clause-room
emit_for-returns-clause-room t c = omega (arith, c.in_ok-emit_all.ensures.room, c.in_ok-emit_test.ensures.room, c.in_ok-emit_stmt.ensures.room, c.in_ok-emit_all-2.ensures.room, c.in_ok-end_turn.ensures.room)
