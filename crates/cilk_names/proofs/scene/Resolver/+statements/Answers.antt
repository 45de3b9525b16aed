-- Closed scopes, loops in their reserved places, and one more statement of a row.
use Rattle.std.proofs.Common.{◌≡◌, Some, Result, Ok, Err, OnOk, IfOk, map, sym, ap, ◌∙◌, ◌++◌, append_assoc, subst}
use Rattle.std.proofs.lemmas.List.{append-nil}
use Rattle.cilk_syntax.specs.Trees as trees
use Rattle.cilk_program.specs.Programs.{expression, loop, optional, statement, statements}
use Rattle.cilk_program.specs.Syntax as syntax
use Rattle.cilk_names.specs.declared.scene.Frame.{Frame}
use Rattle.cilk_names.specs.Contexts.{behind, behind_beginning, behind_scope, in_body, inside}
use Rattle.cilk_names.specs.Faults.{earliest}
use Rattle.cilk_names.specs.Misnamings.{beginning_faults, expression_faults, head_faults, optional_assignment_faults, optional_faults, row_faults, statement_faults}
use Rattle.cilk_names.specs.Pass.{beginning_of, expression_of, loops_of, optional_of, optional_row, row_loops, statement_of}
use Rattle.cilk_names.specs.Tables.{names_of}
use Rattle.cilk_names.specs.States.{context_of}
use Rattle.cilk_names.proofs.Parts.{both_faults}
use Rattle.cilk_names.proofs.Blocks.{tree_block}
use Rattle.cilk_names.proofs.Behinds.{scope_closed, row_closed, head_closed, loop_closed}
use Rattle.cilk_names.proofs.Loops.{place_taken, loop_taken}
use Rattle.cilk_names.proofs.Rows.{row_context, row_step, row_loops_step, row_value_step, row_context_end, row_end, row_loops_end, row_value_end}
use Rattle.cilk_names.proofs.scene.Resolver.+statements.Goals as goal

-- what holds anyway, holds if there is a value
always : {T E P : Type 0} (r : Result T E) → P → OnOk r P
always (Ok x) p = p
always (Err e) p = tt

pub block-returns-clause-context : goal.block-returns-clause-context
block-returns-clause-context t c =
    row_closed (context_of c.args.self.now) (context_of c.open.new.self) (context_of c.row.new.self) (context_of c.close.new.self) (trees.statements c.args.list.now)
    c.in_ok-open.ensures.context c.in_ok-row.ensures.context c.close.ensures.context

pub statement-returns-in-Block-clause-context : goal.statement-returns-in-Block-clause-context
statement-returns-in-Block-clause-context t c =
    subst (λ (s : trees.Statement). OnOk c.block.result (context_of c.block.new.self ≡ behind (context_of c.args.self.now) s))
    (tree_block c.args.tree.now c.in-Block.at c.in-Block.list c.deref.result.now c.in-Block.is c.deref.ensures.value) c.block.ensures.context

pub statement-returns-in-Block-clause-faults : goal.statement-returns-in-Block-clause-faults
statement-returns-in-Block-clause-faults t c =
    subst (λ (s : trees.Statement). OnOk c.block.result (c.block.new.self.first ≡ earliest c.args.self.now.first (statement_faults (context_of c.args.self.now) s)))
    (tree_block c.args.tree.now c.in-Block.at c.in-Block.list c.deref.result.now c.in-Block.is c.deref.ensures.value) c.block.ensures.faults

pub statement-returns-in-Block-clause-loops : goal.statement-returns-in-Block-clause-loops
statement-returns-in-Block-clause-loops t c =
    subst (λ (s : trees.Statement). OnOk c.block.result (map loop c.block.new.self.loops.items ≡ map loop c.args.self.now.loops.items ++ loops_of (context_of c.args.self.now) s))
    (tree_block c.args.tree.now c.in-Block.at c.in-Block.list c.deref.result.now c.in-Block.is c.deref.ensures.value) c.block.ensures.loops

pub statement-returns-in-Block-clause-value : goal.statement-returns-in-Block-clause-value
statement-returns-in-Block-clause-value t c =
    subst (λ (s : trees.Statement). IfOk c.block.result (λ r. statement r ≡ statement_of (context_of c.args.self.now) s))
    (tree_block c.args.tree.now c.in-Block.at c.in-Block.list c.deref.result.now c.in-Block.is c.deref.ensures.value) c.block.ensures.value

pub statement-returns-in-Assign-clause-context : goal.statement-returns-in-Assign-clause-context
statement-returns-in-Assign-clause-context t c =
    always c.assignment.result (ap (behind (context_of c.args.self.now)) (ap (λ a. trees.Assign (trees.assignment a)) c.deref-in-Assign.ensures ∙ sym (ap trees.statement c.in-Assign.is)))

pub statement-returns-in-Assign-clause-faults : goal.statement-returns-in-Assign-clause-faults
statement-returns-in-Assign-clause-faults t c =
    subst (λ (s : trees.Statement). OnOk c.assignment.result (c.assignment.new.first ≡ earliest c.args.self.now.first (statement_faults (context_of c.args.self.now) s)))
    (ap (λ a. trees.Assign (trees.assignment a)) c.deref-in-Assign.ensures ∙ sym (ap trees.statement c.in-Assign.is)) c.assignment.ensures.faults

pub statement-returns-in-Assign-clause-loops : goal.statement-returns-in-Assign-clause-loops
statement-returns-in-Assign-clause-loops t c =
    let loops = map loop c.args.self.now.loops.items in
    always c.assignment.result (sym (append-nil loops) ∙ ap (λ s. loops ++ loops_of (context_of c.args.self.now) s) (ap (λ a. trees.Assign (trees.assignment a)) c.deref-in-Assign.ensures ∙ sym (ap trees.statement c.in-Assign.is)))

pub statement-returns-in-Assign-clause-value : goal.statement-returns-in-Assign-clause-value
statement-returns-in-Assign-clause-value t c =
    subst (λ (s : trees.Statement). IfOk c.assignment.result (λ r. statement r ≡ statement_of (context_of c.args.self.now) s))
    (ap (λ a. trees.Assign (trees.assignment a)) c.deref-in-Assign.ensures ∙ sym (ap trees.statement c.in-Assign.is)) c.assignment.ensures.value

pub statement-returns-in-Invoke-clause-context : goal.statement-returns-in-Invoke-clause-context
statement-returns-in-Invoke-clause-context t c =
    always c.invoked.result (ap (behind (context_of c.args.self.now)) (ap (λ k. trees.Statement.Invoke c.in-Invoke.how (trees.call k)) c.deref-in-Invoke.ensures ∙ sym (ap trees.statement c.in-Invoke.is)))

pub statement-returns-in-Invoke-clause-faults : goal.statement-returns-in-Invoke-clause-faults
statement-returns-in-Invoke-clause-faults t c =
    subst (λ (s : trees.Statement). OnOk c.invoked.result (c.invoked.new.first ≡ earliest c.args.self.now.first (statement_faults (context_of c.args.self.now) s)))
    (ap (λ k. trees.Statement.Invoke c.in-Invoke.how (trees.call k)) c.deref-in-Invoke.ensures ∙ sym (ap trees.statement c.in-Invoke.is)) c.invoked.ensures.faults

pub statement-returns-in-Invoke-clause-loops : goal.statement-returns-in-Invoke-clause-loops
statement-returns-in-Invoke-clause-loops t c =
    let loops = map loop c.args.self.now.loops.items in
    always c.invoked.result (sym (append-nil loops) ∙ ap (λ s. loops ++ loops_of (context_of c.args.self.now) s) (ap (λ k. trees.Statement.Invoke c.in-Invoke.how (trees.call k)) c.deref-in-Invoke.ensures ∙ sym (ap trees.statement c.in-Invoke.is)))

pub statement-returns-in-Invoke-clause-value : goal.statement-returns-in-Invoke-clause-value
statement-returns-in-Invoke-clause-value t c =
    subst (λ (s : trees.Statement). IfOk c.invoked.result (λ r. statement r ≡ statement_of (context_of c.args.self.now) s))
    (ap (λ k. trees.Statement.Invoke c.in-Invoke.how (trees.call k)) c.deref-in-Invoke.ensures ∙ sym (ap trees.statement c.in-Invoke.is)) c.invoked.ensures.value

pub statement-returns-in-AssignCall-clause-context : goal.statement-returns-in-AssignCall-clause-context
statement-returns-in-AssignCall-clause-context t c =
    always c.assigned.result (ap (behind (context_of c.args.self.now)) (ap (λ k. trees.AssignCall c.in-AssignCall.name c.in-AssignCall.how (trees.call k)) c.deref-in-AssignCall.ensures ∙ sym (ap trees.statement c.in-AssignCall.is)))

pub statement-returns-in-AssignCall-clause-faults : goal.statement-returns-in-AssignCall-clause-faults
statement-returns-in-AssignCall-clause-faults t c =
    subst (λ (s : trees.Statement). OnOk c.assigned.result (c.assigned.new.first ≡ earliest c.args.self.now.first (statement_faults (context_of c.args.self.now) s)))
    (ap (λ k. trees.AssignCall c.in-AssignCall.name c.in-AssignCall.how (trees.call k)) c.deref-in-AssignCall.ensures ∙ sym (ap trees.statement c.in-AssignCall.is)) c.assigned.ensures.faults

pub statement-returns-in-AssignCall-clause-loops : goal.statement-returns-in-AssignCall-clause-loops
statement-returns-in-AssignCall-clause-loops t c =
    let loops = map loop c.args.self.now.loops.items in
    always c.assigned.result (sym (append-nil loops) ∙ ap (λ s. loops ++ loops_of (context_of c.args.self.now) s) (ap (λ k. trees.AssignCall c.in-AssignCall.name c.in-AssignCall.how (trees.call k)) c.deref-in-AssignCall.ensures ∙ sym (ap trees.statement c.in-AssignCall.is)))

pub statement-returns-in-AssignCall-clause-value : goal.statement-returns-in-AssignCall-clause-value
statement-returns-in-AssignCall-clause-value t c =
    subst (λ (s : trees.Statement). IfOk c.assigned.result (λ r. statement r ≡ statement_of (context_of c.args.self.now) s))
    (ap (λ k. trees.AssignCall c.in-AssignCall.name c.in-AssignCall.how (trees.call k)) c.deref-in-AssignCall.ensures ∙ sym (ap trees.statement c.in-AssignCall.is)) c.assigned.ensures.value

pub statement-returns-in-For-clause-context : goal.statement-returns-in-For-clause-context
statement-returns-in-For-clause-context t c =
    subst (λ (s : trees.Statement). OnOk c.repeated.result (context_of c.repeated.new.self ≡ behind (context_of c.args.self.now) s))
    (ap (λ h. trees.repetition h (trees.statement c.deref-in-For-2.result.now)) c.deref-in-For.ensures ∙ ap (λ b. trees.repetition c.in-For.head.value (trees.statement b)) c.deref-in-For-2.ensures ∙ sym (ap trees.statement c.in-For.is)) c.repeated.ensures.context

pub statement-returns-in-For-clause-faults : goal.statement-returns-in-For-clause-faults
statement-returns-in-For-clause-faults t c =
    subst (λ (s : trees.Statement). OnOk c.repeated.result (c.repeated.new.self.first ≡ earliest c.args.self.now.first (statement_faults (context_of c.args.self.now) s)))
    (ap (λ h. trees.repetition h (trees.statement c.deref-in-For-2.result.now)) c.deref-in-For.ensures ∙ ap (λ b. trees.repetition c.in-For.head.value (trees.statement b)) c.deref-in-For-2.ensures ∙ sym (ap trees.statement c.in-For.is)) c.repeated.ensures.faults

pub statement-returns-in-For-clause-loops : goal.statement-returns-in-For-clause-loops
statement-returns-in-For-clause-loops t c =
    subst (λ (s : trees.Statement). OnOk c.repeated.result (map loop c.repeated.new.self.loops.items ≡ map loop c.args.self.now.loops.items ++ loops_of (context_of c.args.self.now) s))
    (ap (λ h. trees.repetition h (trees.statement c.deref-in-For-2.result.now)) c.deref-in-For.ensures ∙ ap (λ b. trees.repetition c.in-For.head.value (trees.statement b)) c.deref-in-For-2.ensures ∙ sym (ap trees.statement c.in-For.is)) c.repeated.ensures.loops

pub statement-returns-in-For-clause-value : goal.statement-returns-in-For-clause-value
statement-returns-in-For-clause-value t c =
    subst (λ (s : trees.Statement). IfOk c.repeated.result (λ r. statement r ≡ statement_of (context_of c.args.self.now) s))
    (ap (λ h. trees.repetition h (trees.statement c.deref-in-For-2.result.now)) c.deref-in-For.ensures ∙ ap (λ b. trees.repetition c.in-For.head.value (trees.statement b)) c.deref-in-For-2.ensures ∙ sym (ap trees.statement c.in-For.is)) c.repeated.ensures.value

pub statement-returns-in-ParallelFor-clause-context : goal.statement-returns-in-ParallelFor-clause-context
statement-returns-in-ParallelFor-clause-context t c =
    subst (λ (s : trees.Statement). OnOk c.parallel.result (context_of c.parallel.new.self ≡ behind (context_of c.args.self.now) s))
    (ap (λ h. trees.ParallelFor (trees.bounds h) (trees.statement c.deref-in-ParallelFor-2.result.now)) c.deref-in-ParallelFor.ensures ∙ ap (λ b. trees.ParallelFor (trees.bounds c.in-ParallelFor.head.value) (trees.statement b)) c.deref-in-ParallelFor-2.ensures ∙ sym (ap trees.statement c.in-ParallelFor.is)) c.parallel.ensures.context

pub statement-returns-in-ParallelFor-clause-faults : goal.statement-returns-in-ParallelFor-clause-faults
statement-returns-in-ParallelFor-clause-faults t c =
    subst (λ (s : trees.Statement). OnOk c.parallel.result (c.parallel.new.self.first ≡ earliest c.args.self.now.first (statement_faults (context_of c.args.self.now) s)))
    (ap (λ h. trees.ParallelFor (trees.bounds h) (trees.statement c.deref-in-ParallelFor-2.result.now)) c.deref-in-ParallelFor.ensures ∙ ap (λ b. trees.ParallelFor (trees.bounds c.in-ParallelFor.head.value) (trees.statement b)) c.deref-in-ParallelFor-2.ensures ∙ sym (ap trees.statement c.in-ParallelFor.is)) c.parallel.ensures.faults

pub statement-returns-in-ParallelFor-clause-loops : goal.statement-returns-in-ParallelFor-clause-loops
statement-returns-in-ParallelFor-clause-loops t c =
    subst (λ (s : trees.Statement). OnOk c.parallel.result (map loop c.parallel.new.self.loops.items ≡ map loop c.args.self.now.loops.items ++ loops_of (context_of c.args.self.now) s))
    (ap (λ h. trees.ParallelFor (trees.bounds h) (trees.statement c.deref-in-ParallelFor-2.result.now)) c.deref-in-ParallelFor.ensures ∙ ap (λ b. trees.ParallelFor (trees.bounds c.in-ParallelFor.head.value) (trees.statement b)) c.deref-in-ParallelFor-2.ensures ∙ sym (ap trees.statement c.in-ParallelFor.is)) c.parallel.ensures.loops

pub statement-returns-in-ParallelFor-clause-value : goal.statement-returns-in-ParallelFor-clause-value
statement-returns-in-ParallelFor-clause-value t c =
    subst (λ (s : trees.Statement). IfOk c.parallel.result (λ r. statement r ≡ statement_of (context_of c.args.self.now) s))
    (ap (λ h. trees.ParallelFor (trees.bounds h) (trees.statement c.deref-in-ParallelFor-2.result.now)) c.deref-in-ParallelFor.ensures ∙ ap (λ b. trees.ParallelFor (trees.bounds c.in-ParallelFor.head.value) (trees.statement b)) c.deref-in-ParallelFor-2.ensures ∙ sym (ap trees.statement c.in-ParallelFor.is)) c.parallel.ensures.value

pub statement-returns-in-Return-clause-context : goal.statement-returns-in-Return-clause-context
statement-returns-in-Return-clause-context t c =
    always c.returned.result (ap (behind (context_of c.args.self.now)) (sym (ap trees.statement c.in-Return.is)))

pub statement-returns-in-Return-clause-faults : goal.statement-returns-in-Return-clause-faults
statement-returns-in-Return-clause-faults t c =
    subst (λ (s : trees.Statement). OnOk c.returned.result (c.returned.new.first ≡ earliest c.args.self.now.first (statement_faults (context_of c.args.self.now) s)))
    (sym (ap trees.statement c.in-Return.is)) c.returned.ensures.faults

pub statement-returns-in-Return-clause-loops : goal.statement-returns-in-Return-clause-loops
statement-returns-in-Return-clause-loops t c =
    let loops = map loop c.args.self.now.loops.items in
    always c.returned.result (sym (append-nil loops) ∙ ap (λ s. loops ++ loops_of (context_of c.args.self.now) s) (sym (ap trees.statement c.in-Return.is)))

pub statement-returns-in-Return-clause-value : goal.statement-returns-in-Return-clause-value
statement-returns-in-Return-clause-value t c =
    subst (λ (s : trees.Statement). IfOk c.returned.result (λ r. statement r ≡ statement_of (context_of c.args.self.now) s))
    (sym (ap trees.statement c.in-Return.is)) c.returned.ensures.value

pub statement-returns-in-Update-clause-context : goal.statement-returns-in-Update-clause-context
statement-returns-in-Update-clause-context t c =
    always c.update.result (ap (behind (context_of c.args.self.now)) (ap (λ e. trees.Update c.in-Update.name (trees.expression e)) c.deref-in-Update.ensures ∙ sym (ap trees.statement c.in-Update.is)))

pub statement-returns-in-Update-clause-faults : goal.statement-returns-in-Update-clause-faults
statement-returns-in-Update-clause-faults t c =
    subst (λ (s : trees.Statement). OnOk c.update.result (c.update.new.first ≡ earliest c.args.self.now.first (statement_faults (context_of c.args.self.now) s)))
    (ap (λ e. trees.Update c.in-Update.name (trees.expression e)) c.deref-in-Update.ensures ∙ sym (ap trees.statement c.in-Update.is)) c.update.ensures.faults

pub statement-returns-in-Update-clause-loops : goal.statement-returns-in-Update-clause-loops
statement-returns-in-Update-clause-loops t c =
    let loops = map loop c.args.self.now.loops.items in
    always c.update.result (sym (append-nil loops) ∙ ap (λ s. loops ++ loops_of (context_of c.args.self.now) s) (ap (λ e. trees.Update c.in-Update.name (trees.expression e)) c.deref-in-Update.ensures ∙ sym (ap trees.statement c.in-Update.is)))

pub statement-returns-in-Update-clause-value : goal.statement-returns-in-Update-clause-value
statement-returns-in-Update-clause-value t c =
    subst (λ (s : trees.Statement). IfOk c.update.result (λ r. statement r ≡ statement_of (context_of c.args.self.now) s))
    (ap (λ e. trees.Update c.in-Update.name (trees.expression e)) c.deref-in-Update.ensures ∙ sym (ap trees.statement c.in-Update.is)) c.update.ensures.value

pub statement-returns-in-Set-clause-context : goal.statement-returns-in-Set-clause-context
statement-returns-in-Set-clause-context t c =
    always c.set.result (ap (behind (context_of c.args.self.now)) (ap (λ e. trees.Statement.Set c.in-Set.name (trees.expression e)) c.deref-in-Set.ensures ∙ sym (ap trees.statement c.in-Set.is)))

pub statement-returns-in-Set-clause-faults : goal.statement-returns-in-Set-clause-faults
statement-returns-in-Set-clause-faults t c =
    subst (λ (s : trees.Statement). OnOk c.set.result (c.set.new.first ≡ earliest c.args.self.now.first (statement_faults (context_of c.args.self.now) s)))
    (ap (λ e. trees.Statement.Set c.in-Set.name (trees.expression e)) c.deref-in-Set.ensures ∙ sym (ap trees.statement c.in-Set.is)) c.set.ensures.faults

pub statement-returns-in-Set-clause-loops : goal.statement-returns-in-Set-clause-loops
statement-returns-in-Set-clause-loops t c =
    let loops = map loop c.args.self.now.loops.items in
    always c.set.result (sym (append-nil loops) ∙ ap (λ s. loops ++ loops_of (context_of c.args.self.now) s) (ap (λ e. trees.Statement.Set c.in-Set.name (trees.expression e)) c.deref-in-Set.ensures ∙ sym (ap trees.statement c.in-Set.is)))

pub statement-returns-in-Set-clause-value : goal.statement-returns-in-Set-clause-value
statement-returns-in-Set-clause-value t c =
    subst (λ (s : trees.Statement). IfOk c.set.result (λ r. statement r ≡ statement_of (context_of c.args.self.now) s))
    (ap (λ e. trees.Statement.Set c.in-Set.name (trees.expression e)) c.deref-in-Set.ensures ∙ sym (ap trees.statement c.in-Set.is)) c.set.ensures.value

pub scoped-returns-clause-context : goal.scoped-returns-clause-context
scoped-returns-clause-context t c =
    scope_closed (context_of c.args.self.now) (context_of c.open.new.self) (context_of c.statement.new.self) (context_of c.close.new.self) (trees.statement c.args.tree.now)
    c.in_ok-open.ensures.context c.in_ok-statement.ensures.context c.close.ensures.context

pub row-each-preserved : goal.row-each-preserved
row-each-preserved t c = record {
  context = row_context (context_of c.args.self.now) (context_of c.each.self) (context_of c.reach.new.self) (context_of c.statement.new.self) c.args.list.now c.each.tree-index c.tree-item.result c.each-test.true c.tree-item.is
      c.reach.ensures.context c.in_ok-statement.ensures.context c.each.invariant.context;
  faults = row_step (context_of c.args.self.now) (context_of c.each.self) (context_of c.reach.new.self) (context_of c.statement.new.self) c.args.list.now c.each.tree-index c.tree-item.result c.each-test.true c.tree-item.is
      c.reach.ensures.context c.in_ok-statement.ensures.context c.args.self.now.first c.each.self.first c.statement.new.self.first c.each.invariant.faults
      (c.in_ok-statement.ensures.faults ∙ ap (λ x. earliest x (statement_faults (context_of c.reach.new.self) (trees.statement c.tree-item.result))) c.reach.ensures.same.1);
  loops = row_loops_step (context_of c.args.self.now) (context_of c.each.self) (context_of c.reach.new.self) (context_of c.statement.new.self) c.args.list.now c.each.tree-index c.tree-item.result c.each-test.true c.tree-item.is
      c.reach.ensures.context c.in_ok-statement.ensures.context (map loop c.args.self.now.loops.items) (map loop c.each.self.loops.items) (map loop c.statement.new.self.loops.items) c.each.invariant.loops
      (c.in_ok-statement.ensures.loops ∙ ap (λ v. map loop v.items ++ loops_of (context_of c.reach.new.self) (trees.statement c.tree-item.result)) c.reach.ensures.same.0);
  value = row_value_step (context_of c.args.self.now) (context_of c.each.self) (context_of c.reach.new.self) (context_of c.statement.new.self) c.args.list.now c.each.tree-index c.tree-item.result c.each-test.true c.tree-item.is
      c.reach.ensures.context c.in_ok-statement.ensures.context c.each.row.items c.push.new.self.items c.in_ok-statement.field-0 c.each.invariant.value c.in_ok-statement.ensures.value c.in_ok-push.ensures.items;
}

pub row-returns-clause-context : goal.row-returns-clause-context
row-returns-clause-context t c = row_context_end (context_of c.args.self.now) (context_of c.each.self) c.args.list.now c.each.tree-index c.each-test.false c.each.invariant.context

pub row-returns-clause-faults : goal.row-returns-clause-faults
row-returns-clause-faults t c =
    row_end (context_of c.args.self.now) (context_of c.each.self) c.args.list.now c.each.tree-index c.each-test.false c.args.self.now.first c.each.self.first c.each.invariant.faults

pub row-returns-clause-loops : goal.row-returns-clause-loops
row-returns-clause-loops t c =
    row_loops_end (context_of c.args.self.now) (context_of c.each.self) c.args.list.now c.each.tree-index c.each-test.false (map loop c.args.self.now.loops.items) (map loop c.each.self.loops.items) c.each.invariant.loops

pub row-returns-clause-value : goal.row-returns-clause-value
row-returns-clause-value t c =
    row_value_end (context_of c.args.self.now) (context_of c.each.self) c.args.list.now c.each.tree-index c.each-test.false c.each.row.items c.each.invariant.value

pub parallel-leave-requires : goal.parallel-leave-requires
parallel-leave-requires t c =
    place_taken c.args.self.now.loops.items c.enter.new.self.loops.items c.scoped.new.self.loops.items c.in_ok-outside.ensures.loops.0
    (loops_of (inside (context_of c.enter.new.self)) (trees.statement c.args.body.now)) c.in_ok-outside.outside.number
    c.in_ok-outside.ensures.loops.1 c.in_ok-body.ensures.loops c.in_ok-outside.ensures.outside.2

pub parallel-returns-clause-context : goal.parallel-returns-clause-context
parallel-returns-clause-context t c =
    loop_closed (context_of c.args.self.now) (context_of c.enter.new.self) (context_of c.scoped.new.self) (context_of c.leave.new.self) c.args.head.now.variable (trees.statement c.args.body.now)
    c.in_ok-outside.outside.level c.in_ok-outside.outside.frame c.in_ok-outside.ensures.context c.in_ok-body.ensures.context c.in_ok-leave.ensures.context
    c.in_ok-outside.ensures.outside.1 c.in_ok-outside.ensures.outside.0

pub parallel-returns-clause-loops : goal.parallel-returns-clause-loops
parallel-returns-clause-loops t c =
    loop_taken (context_of c.args.self.now) (context_of c.enter.new.self) (context_of c.scoped.new.self) c.args.head.now.variable (trees.statement c.args.body.now)
    c.args.self.now.loops.items c.enter.new.self.loops.items c.scoped.new.self.loops.items c.leave.new.self.loops.items c.in_ok-outside.ensures.loops.0
    c.in_ok-outside.outside.number c.in_ok-outside.outside.frame.body (statement c.in_ok-body.body.value)
    c.in_ok-outside.ensures.context c.in_ok-body.ensures.context c.in_ok-body.ensures.value (ap (λ (f : Frame). f.body) c.in_ok-outside.ensures.outside.0)
    c.in_ok-outside.ensures.loops.1 c.in_ok-body.ensures.loops c.in_ok-outside.ensures.outside.2 c.in_ok-leave.ensures.loops

pub repeated-returns-clause-context : goal.repeated-returns-clause-context
repeated-returns-clause-context t c =
    head_closed (context_of c.args.self.now) (context_of c.open.new.self) (context_of c.beginning.new.self) (context_of c.scoped.new.self) (context_of c.close.new.self)
    (trees.optional_beginning c.args.head.now.beginning) (trees.statement c.args.body.now)
    c.in_ok-open.ensures.context c.in_ok-row.ensures.context c.in_ok-body.ensures.context c.close.ensures.context

pub statement-returns-in-Empty-clause-context : goal.statement-returns-in-Empty-clause-context
statement-returns-in-Empty-clause-context t c =
    ap (behind (context_of c.args.self.now)) (sym (ap trees.statement c.in-Empty.is))

pub statement-returns-in-Empty-clause-faults : goal.statement-returns-in-Empty-clause-faults
statement-returns-in-Empty-clause-faults t c =
    ap (λ s. earliest c.args.self.now.first (statement_faults (context_of c.args.self.now) s)) (sym (ap trees.statement c.in-Empty.is))

pub statement-returns-in-Empty-clause-value : goal.statement-returns-in-Empty-clause-value
statement-returns-in-Empty-clause-value t c =
    ap (statement_of (context_of c.args.self.now)) (sym (ap trees.statement c.in-Empty.is))

pub statement-returns-in-Empty-clause-loops : goal.statement-returns-in-Empty-clause-loops
statement-returns-in-Empty-clause-loops t c =
    sym (append-nil (map loop c.args.self.now.loops.items)) ∙ ap (λ s. map loop c.args.self.now.loops.items ++ loops_of (context_of c.args.self.now) s) (sym (ap trees.statement c.in-Empty.is))

pub statement-returns-in-Sync-clause-context : goal.statement-returns-in-Sync-clause-context
statement-returns-in-Sync-clause-context t c =
    ap (behind (context_of c.args.self.now)) (sym (ap trees.statement c.in-Sync.is))

pub statement-returns-in-Sync-clause-faults : goal.statement-returns-in-Sync-clause-faults
statement-returns-in-Sync-clause-faults t c =
    ap (λ s. earliest c.args.self.now.first (statement_faults (context_of c.args.self.now) s)) (sym (ap trees.statement c.in-Sync.is))

pub statement-returns-in-Sync-clause-value : goal.statement-returns-in-Sync-clause-value
statement-returns-in-Sync-clause-value t c =
    ap (statement_of (context_of c.args.self.now)) (sym (ap trees.statement c.in-Sync.is))

pub statement-returns-in-Sync-clause-loops : goal.statement-returns-in-Sync-clause-loops
statement-returns-in-Sync-clause-loops t c =
    sym (append-nil (map loop c.args.self.now.loops.items)) ∙ ap (λ s. map loop c.args.self.now.loops.items ++ loops_of (context_of c.args.self.now) s) (sym (ap trees.statement c.in-Sync.is))

pub statement-returns-in_ok-locals-in-Declare-clause-context : goal.statement-returns-in_ok-locals-in-Declare-clause-context
statement-returns-in_ok-locals-in-Declare-clause-context t c =
    c.in_ok-locals-in-Declare.ensures.context ∙ ap (behind (context_of c.args.self.now)) (ap (λ l. trees.Declare (trees.locals_of l)) c.deref-in-Declare.ensures.value ∙ sym (ap trees.statement c.in-Declare.is))

pub statement-returns-in_ok-locals-in-Declare-clause-faults : goal.statement-returns-in_ok-locals-in-Declare-clause-faults
statement-returns-in_ok-locals-in-Declare-clause-faults t c =
    c.in_ok-locals-in-Declare.ensures.faults ∙ ap (λ s. earliest c.args.self.now.first (statement_faults (context_of c.args.self.now) s)) (ap (λ l. trees.Declare (trees.locals_of l)) c.deref-in-Declare.ensures.value ∙ sym (ap trees.statement c.in-Declare.is))

pub statement-returns-in_ok-locals-in-Declare-clause-loops : goal.statement-returns-in_ok-locals-in-Declare-clause-loops
statement-returns-in_ok-locals-in-Declare-clause-loops t c =
    ap (λ v. map loop v.items) c.locals.ensures.loops ∙ sym (append-nil (map loop c.args.self.now.loops.items)) ∙ ap (λ s. map loop c.args.self.now.loops.items ++ loops_of (context_of c.args.self.now) s) (ap (λ l. trees.Declare (trees.locals_of l)) c.deref-in-Declare.ensures.value ∙ sym (ap trees.statement c.in-Declare.is))

pub statement-returns-in_ok-locals-in-Declare-clause-value : goal.statement-returns-in_ok-locals-in-Declare-clause-value
statement-returns-in_ok-locals-in-Declare-clause-value t c =
    ap syntax.Declare c.in_ok-locals-in-Declare.ensures.value ∙ ap (statement_of (context_of c.args.self.now)) (ap (λ l. trees.Declare (trees.locals_of l)) c.deref-in-Declare.ensures.value ∙ sym (ap trees.statement c.in-Declare.is))

pub statement-returns-in_ok-reducer-in-Reducer-clause-context : goal.statement-returns-in_ok-reducer-in-Reducer-clause-context
statement-returns-in_ok-reducer-in-Reducer-clause-context t c =
    c.in_ok-reducer-in-Reducer.ensures.context ∙ ap (behind (context_of c.args.self.now)) (sym (ap trees.statement c.in-Reducer.is))

pub statement-returns-in_ok-reducer-in-Reducer-clause-faults : goal.statement-returns-in_ok-reducer-in-Reducer-clause-faults
statement-returns-in_ok-reducer-in-Reducer-clause-faults t c =
    c.in_ok-reducer-in-Reducer.ensures.faults ∙ ap (λ s. earliest c.args.self.now.first (statement_faults (context_of c.args.self.now) s)) (sym (ap trees.statement c.in-Reducer.is))

pub statement-returns-in_ok-reducer-in-Reducer-clause-loops : goal.statement-returns-in_ok-reducer-in-Reducer-clause-loops
statement-returns-in_ok-reducer-in-Reducer-clause-loops t c =
    ap (λ v. map loop v.items) c.reducer.ensures.loops ∙ sym (append-nil (map loop c.args.self.now.loops.items)) ∙ ap (λ s. map loop c.args.self.now.loops.items ++ loops_of (context_of c.args.self.now) s) (sym (ap trees.statement c.in-Reducer.is))

pub statement-returns-in_ok-reducer-in-Reducer-clause-value : goal.statement-returns-in_ok-reducer-in-Reducer-clause-value
statement-returns-in_ok-reducer-in-Reducer-clause-value t c =
    ap (statement_of (context_of c.args.self.now)) (sym (ap trees.statement c.in-Reducer.is))

pub statement-returns-in_ok-expression-in-Print-clause-context : goal.statement-returns-in_ok-expression-in-Print-clause-context
statement-returns-in_ok-expression-in-Print-clause-context t c =
    ap (behind (context_of c.args.self.now)) (ap (λ e. trees.Print (trees.expression e)) c.deref-in-Print.ensures ∙ sym (ap trees.statement c.in-Print.is))

pub statement-returns-in_ok-expression-in-Print-clause-faults : goal.statement-returns-in_ok-expression-in-Print-clause-faults
statement-returns-in_ok-expression-in-Print-clause-faults t c =
    c.in_ok-expression-in-Print.ensures.faults ∙ ap (λ s. earliest c.args.self.now.first (statement_faults (context_of c.args.self.now) s)) (ap (λ e. trees.Print (trees.expression e)) c.deref-in-Print.ensures ∙ sym (ap trees.statement c.in-Print.is))

pub statement-returns-in_ok-expression-in-Print-clause-loops : goal.statement-returns-in_ok-expression-in-Print-clause-loops
statement-returns-in_ok-expression-in-Print-clause-loops t c =
    sym (append-nil (map loop c.args.self.now.loops.items)) ∙ ap (λ s. map loop c.args.self.now.loops.items ++ loops_of (context_of c.args.self.now) s) (ap (λ e. trees.Print (trees.expression e)) c.deref-in-Print.ensures ∙ sym (ap trees.statement c.in-Print.is))

pub statement-returns-in_ok-expression-in-Print-clause-value : goal.statement-returns-in_ok-expression-in-Print-clause-value
statement-returns-in_ok-expression-in-Print-clause-value t c =
    ap syntax.Print c.in_ok-expression-in-Print.ensures.value ∙ ap (statement_of (context_of c.args.self.now)) (ap (λ e. trees.Print (trees.expression e)) c.deref-in-Print.ensures ∙ sym (ap trees.statement c.in-Print.is))

pub statement-returns-in_ok-test-in-If-clause-context : goal.statement-returns-in_ok-test-in-If-clause-context
statement-returns-in_ok-test-in-If-clause-context t c =
    c.in_ok-test-in-If.ensures.context ∙ ap (behind (context_of c.args.self.now)) (ap (λ b. trees.If (trees.expression c.deref-in-If-2.result.now) (trees.statement b)) c.deref-in-If.ensures ∙ ap (λ e. trees.If (trees.expression e) (trees.statement c.in-If.body.value)) c.deref-in-If-2.ensures ∙ sym (ap trees.statement c.in-If.is))

pub statement-returns-in_ok-test-in-If-clause-faults : goal.statement-returns-in_ok-test-in-If-clause-faults
statement-returns-in_ok-test-in-If-clause-faults t c =
    c.in_ok-test-in-If.ensures.faults ∙ ap (λ s. earliest c.args.self.now.first (statement_faults (context_of c.args.self.now) s)) (ap (λ b. trees.If (trees.expression c.deref-in-If-2.result.now) (trees.statement b)) c.deref-in-If.ensures ∙ ap (λ e. trees.If (trees.expression e) (trees.statement c.in-If.body.value)) c.deref-in-If-2.ensures ∙ sym (ap trees.statement c.in-If.is))

pub statement-returns-in_ok-test-in-If-clause-loops : goal.statement-returns-in_ok-test-in-If-clause-loops
statement-returns-in_ok-test-in-If-clause-loops t c =
    c.in_ok-test-in-If.ensures.loops ∙ ap (λ s. map loop c.args.self.now.loops.items ++ loops_of (context_of c.args.self.now) s) (ap (λ b. trees.If (trees.expression c.deref-in-If-2.result.now) (trees.statement b)) c.deref-in-If.ensures ∙ ap (λ e. trees.If (trees.expression e) (trees.statement c.in-If.body.value)) c.deref-in-If-2.ensures ∙ sym (ap trees.statement c.in-If.is))

pub statement-returns-in_ok-test-in-If-clause-value : goal.statement-returns-in_ok-test-in-If-clause-value
statement-returns-in_ok-test-in-If-clause-value t c =
    ap (λ e. syntax.If e (statement c.in_ok-test-in-If.body.value)) c.in_ok-test-in-If.ensures.test ∙ ap (syntax.If (expression_of (names_of c.args.self.now.table) (trees.expression c.deref-in-If-2.result.now))) c.in_ok-test-in-If.ensures.body ∙ ap (statement_of (context_of c.args.self.now)) (ap (λ b. trees.If (trees.expression c.deref-in-If-2.result.now) (trees.statement b)) c.deref-in-If.ensures ∙ ap (λ e. trees.If (trees.expression e) (trees.statement c.in-If.body.value)) c.deref-in-If-2.ensures ∙ sym (ap trees.statement c.in-If.is))

pub statement-returns-in_ok-test-in-While-clause-context : goal.statement-returns-in_ok-test-in-While-clause-context
statement-returns-in_ok-test-in-While-clause-context t c =
    always c.while_of.result (c.in_ok-test-in-While.ensures.context ∙ ap (behind (context_of c.args.self.now)) (ap (λ b. trees.While (trees.expression c.deref-in-While-2.result.now) (trees.statement b)) c.deref-in-While.ensures ∙ ap (λ e. trees.While (trees.expression e) (trees.statement c.in-While.body.value)) c.deref-in-While-2.ensures ∙ sym (ap trees.statement c.in-While.is)))

pub statement-returns-in_ok-test-in-While-clause-faults : goal.statement-returns-in_ok-test-in-While-clause-faults
statement-returns-in_ok-test-in-While-clause-faults t c =
    always c.while_of.result (c.in_ok-test-in-While.ensures.faults ∙ ap (λ s. earliest c.args.self.now.first (statement_faults (context_of c.args.self.now) s)) (ap (λ b. trees.While (trees.expression c.deref-in-While-2.result.now) (trees.statement b)) c.deref-in-While.ensures ∙ ap (λ e. trees.While (trees.expression e) (trees.statement c.in-While.body.value)) c.deref-in-While-2.ensures ∙ sym (ap trees.statement c.in-While.is)))

pub statement-returns-in_ok-test-in-While-clause-loops : goal.statement-returns-in_ok-test-in-While-clause-loops
statement-returns-in_ok-test-in-While-clause-loops t c =
    always c.while_of.result (c.in_ok-test-in-While.ensures.loops ∙ ap (λ s. map loop c.args.self.now.loops.items ++ loops_of (context_of c.args.self.now) s) (ap (λ b. trees.While (trees.expression c.deref-in-While-2.result.now) (trees.statement b)) c.deref-in-While.ensures ∙ ap (λ e. trees.While (trees.expression e) (trees.statement c.in-While.body.value)) c.deref-in-While-2.ensures ∙ sym (ap trees.statement c.in-While.is)))

pub statement-returns-in_ok-test-in-While-clause-value : goal.statement-returns-in_ok-test-in-While-clause-value
statement-returns-in_ok-test-in-While-clause-value t c =
    subst (λ (x : syntax.Statement). IfOk c.while_of.result (λ r. statement r ≡ x))
    (ap (λ e. syntax.For syntax.Nothing (Some e) syntax.Nothing (statement c.in_ok-test-in-While.body.value)) c.in_ok-test-in-While.ensures.test ∙ ap (syntax.For syntax.Nothing (Some (expression_of (names_of c.args.self.now.table) (trees.expression c.deref-in-While-2.result.now))) syntax.Nothing) c.in_ok-test-in-While.ensures.body ∙ ap (statement_of (context_of c.args.self.now)) (ap (λ b. trees.While (trees.expression c.deref-in-While-2.result.now) (trees.statement b)) c.deref-in-While.ensures ∙ ap (λ e. trees.While (trees.expression e) (trees.statement c.in-While.body.value)) c.deref-in-While-2.ensures ∙ sym (ap trees.statement c.in-While.is)))
    c.while_of.ensures

pub statement-returns-in_ok-other-in-IfElse-clause-context : goal.statement-returns-in_ok-other-in-IfElse-clause-context
statement-returns-in_ok-other-in-IfElse-clause-context t c =
    let s = trees.statement c.deref-in-IfElse.result.now in
    let other = trees.statement c.deref-in-IfElse-3.result.now in
    let between = behind_scope (context_of c.args.self.now) (behind (inside (context_of c.args.self.now)) s) in
    c.in_ok-other-in-IfElse.ensures.context ∙ ap (λ x. behind_scope x (behind (inside x) other)) c.in_ok-test-in-IfElse.ensures.context ∙ ap (behind (context_of c.args.self.now)) (ap (λ b. trees.IfElse (trees.expression c.deref-in-IfElse-2.result.now) (trees.statement b) (trees.statement c.deref-in-IfElse-3.result.now)) c.deref-in-IfElse.ensures ∙ ap (λ e. trees.IfElse (trees.expression e) (trees.statement c.in-IfElse.body.value) (trees.statement c.deref-in-IfElse-3.result.now)) c.deref-in-IfElse-2.ensures ∙ ap (λ b. trees.IfElse (trees.expression c.in-IfElse.test.value) (trees.statement c.in-IfElse.body.value) (trees.statement b)) c.deref-in-IfElse-3.ensures ∙ sym (ap trees.statement c.in-IfElse.is))

pub statement-returns-in_ok-other-in-IfElse-clause-faults : goal.statement-returns-in_ok-other-in-IfElse-clause-faults
statement-returns-in_ok-other-in-IfElse-clause-faults t c =
    let s = trees.statement c.deref-in-IfElse.result.now in
    let other = trees.statement c.deref-in-IfElse-3.result.now in
    let between = behind_scope (context_of c.args.self.now) (behind (inside (context_of c.args.self.now)) s) in
    let tests = expression_faults (names_of c.args.self.now.table) (trees.expression c.deref-in-IfElse-2.result.now) in
    let firsts = statement_faults (inside (context_of c.args.self.now)) s in
    let others = statement_faults (inside between) other in
    let more = c.in_ok-other-in-IfElse.ensures.faults ∙ ap (λ x. earliest c.guarded-in-IfElse.new.self.first (statement_faults (inside x) other)) c.in_ok-test-in-IfElse.ensures.context in
    both_faults c.args.self.now.first c.guarded-in-IfElse.new.self.first c.scoped.new.self.first (tests ++ firsts) others c.in_ok-test-in-IfElse.ensures.faults more
    ∙ ap (λ s. earliest c.args.self.now.first (statement_faults (context_of c.args.self.now) s)) (ap (λ b. trees.IfElse (trees.expression c.deref-in-IfElse-2.result.now) (trees.statement b) (trees.statement c.deref-in-IfElse-3.result.now)) c.deref-in-IfElse.ensures ∙ ap (λ e. trees.IfElse (trees.expression e) (trees.statement c.in-IfElse.body.value) (trees.statement c.deref-in-IfElse-3.result.now)) c.deref-in-IfElse-2.ensures ∙ ap (λ b. trees.IfElse (trees.expression c.in-IfElse.test.value) (trees.statement c.in-IfElse.body.value) (trees.statement b)) c.deref-in-IfElse-3.ensures ∙ sym (ap trees.statement c.in-IfElse.is))

pub statement-returns-in_ok-other-in-IfElse-clause-loops : goal.statement-returns-in_ok-other-in-IfElse-clause-loops
statement-returns-in_ok-other-in-IfElse-clause-loops t c =
    let s = trees.statement c.deref-in-IfElse.result.now in
    let other = trees.statement c.deref-in-IfElse-3.result.now in
    let between = behind_scope (context_of c.args.self.now) (behind (inside (context_of c.args.self.now)) s) in
    let firsts = loops_of (inside (context_of c.args.self.now)) s in
    let others = loops_of (inside between) other in
    c.in_ok-other-in-IfElse.ensures.loops ∙ ap (λ x. map loop c.guarded-in-IfElse.new.self.loops.items ++ loops_of (inside x) other) c.in_ok-test-in-IfElse.ensures.context ∙ ap (λ l. l ++ others) c.in_ok-test-in-IfElse.ensures.loops ∙ append_assoc (map loop c.args.self.now.loops.items) firsts others ∙ ap (λ s. map loop c.args.self.now.loops.items ++ loops_of (context_of c.args.self.now) s) (ap (λ b. trees.IfElse (trees.expression c.deref-in-IfElse-2.result.now) (trees.statement b) (trees.statement c.deref-in-IfElse-3.result.now)) c.deref-in-IfElse.ensures ∙ ap (λ e. trees.IfElse (trees.expression e) (trees.statement c.in-IfElse.body.value) (trees.statement c.deref-in-IfElse-3.result.now)) c.deref-in-IfElse-2.ensures ∙ ap (λ b. trees.IfElse (trees.expression c.in-IfElse.test.value) (trees.statement c.in-IfElse.body.value) (trees.statement b)) c.deref-in-IfElse-3.ensures ∙ sym (ap trees.statement c.in-IfElse.is))

pub statement-returns-in_ok-other-in-IfElse-clause-value : goal.statement-returns-in_ok-other-in-IfElse-clause-value
statement-returns-in_ok-other-in-IfElse-clause-value t c =
    let s = trees.statement c.deref-in-IfElse.result.now in
    let other = trees.statement c.deref-in-IfElse-3.result.now in
    let between = behind_scope (context_of c.args.self.now) (behind (inside (context_of c.args.self.now)) s) in
    let test = expression_of (names_of c.args.self.now.table) (trees.expression c.deref-in-IfElse-2.result.now) in
    ap (λ e. syntax.IfElse e (statement c.in_ok-test-in-IfElse.body.value) (statement c.in_ok-other-in-IfElse.other.value)) c.in_ok-test-in-IfElse.ensures.test
    ∙ ap (λ b. syntax.IfElse test b (statement c.in_ok-other-in-IfElse.other.value)) c.in_ok-test-in-IfElse.ensures.body
    ∙ ap (syntax.IfElse test (statement_of (inside (context_of c.args.self.now)) s)) (c.in_ok-other-in-IfElse.ensures.value ∙ ap (λ x. statement_of (inside x) other) c.in_ok-test-in-IfElse.ensures.context)
    ∙ ap (statement_of (context_of c.args.self.now)) (ap (λ b. trees.IfElse (trees.expression c.deref-in-IfElse-2.result.now) (trees.statement b) (trees.statement c.deref-in-IfElse-3.result.now)) c.deref-in-IfElse.ensures ∙ ap (λ e. trees.IfElse (trees.expression e) (trees.statement c.in-IfElse.body.value) (trees.statement c.deref-in-IfElse-3.result.now)) c.deref-in-IfElse-2.ensures ∙ ap (λ b. trees.IfElse (trees.expression c.in-IfElse.test.value) (trees.statement c.in-IfElse.body.value) (trees.statement b)) c.deref-in-IfElse-3.ensures ∙ sym (ap trees.statement c.in-IfElse.is))

pub guarded-returns-clause-faults : goal.guarded-returns-clause-faults
guarded-returns-clause-faults t c =
    both_faults c.args.self.now.first c.expression.new.first c.scoped.new.self.first (expression_faults (names_of c.args.self.now.table) (trees.expression c.args.test.now)) (statement_faults (inside (context_of c.args.self.now)) (trees.statement c.args.body.now)) c.in_ok-test.ensures.faults c.in_ok-body.ensures.faults

pub block-returns-clause-faults : goal.block-returns-clause-faults
block-returns-clause-faults t c =
    c.close.ensures.same.1 ∙ c.in_ok-row.ensures.faults ∙ ap (λ x. earliest c.open.new.self.first (row_faults x (trees.statements c.args.list.now))) c.in_ok-open.ensures.context ∙ ap (λ f. earliest f (row_faults (inside (context_of c.args.self.now)) (trees.statements c.args.list.now))) c.open.ensures.same.1

pub block-returns-clause-loops : goal.block-returns-clause-loops
block-returns-clause-loops t c =
    ap (λ v. map loop v.items) c.close.ensures.same.0 ∙ c.in_ok-row.ensures.loops ∙ ap (λ x. map loop c.open.new.self.loops.items ++ row_loops x (trees.statements c.args.list.now)) c.in_ok-open.ensures.context ∙ ap (λ v. map loop v.items ++ row_loops (inside (context_of c.args.self.now)) (trees.statements c.args.list.now)) c.open.ensures.same.0

pub scoped-returns-clause-faults : goal.scoped-returns-clause-faults
scoped-returns-clause-faults t c =
    c.close.ensures.same.1 ∙ c.in_ok-statement.ensures.faults ∙ ap (λ x. earliest c.open.new.self.first (statement_faults x (trees.statement c.args.tree.now))) c.in_ok-open.ensures.context ∙ ap (λ f. earliest f (statement_faults (inside (context_of c.args.self.now)) (trees.statement c.args.tree.now))) c.open.ensures.same.1

pub scoped-returns-clause-loops : goal.scoped-returns-clause-loops
scoped-returns-clause-loops t c =
    ap (λ v. map loop v.items) c.close.ensures.same.0 ∙ c.in_ok-statement.ensures.loops ∙ ap (λ x. map loop c.open.new.self.loops.items ++ loops_of x (trees.statement c.args.tree.now)) c.in_ok-open.ensures.context ∙ ap (λ v. map loop v.items ++ loops_of (inside (context_of c.args.self.now)) (trees.statement c.args.tree.now)) c.open.ensures.same.0

pub parallel-returns-clause-faults : goal.parallel-returns-clause-faults
parallel-returns-clause-faults t c =
    let inner = in_body (context_of c.args.self.now) c.args.head.now.variable in
    let body = c.in_ok-body.ensures.faults ∙ ap (λ x. earliest c.enter.new.self.first (statement_faults (inside x) (trees.statement c.args.body.now))) c.in_ok-outside.ensures.context ∙ ap (λ f. earliest f (statement_faults (inside inner) (trees.statement c.args.body.now))) c.in_ok-outside.ensures.first in
    c.leave.ensures.first ∙ both_faults c.args.self.now.first c.bounds.new.first c.scoped.new.self.first (head_faults (names_of c.args.self.now.table) (trees.bounds c.args.head.now)) (statement_faults (inside inner) (trees.statement c.args.body.now)) c.in_ok-low.ensures.faults body

pub parallel-returns-clause-value : goal.parallel-returns-clause-value
parallel-returns-clause-value t c =
    let low = expression_of (names_of c.args.self.now.table) (trees.expression c.args.head.now.low.value) in
    let high = expression_of (names_of c.args.self.now.table) (trees.expression c.args.head.now.high.value) in
    let n = c.in_ok-outside.outside.number in
    ap (λ x. syntax.ParallelFor x (expression c.in_ok-low.high.value) n) c.in_ok-low.ensures.low ∙ ap (λ x. syntax.ParallelFor low x n) c.in_ok-low.ensures.high ∙ ap (syntax.ParallelFor low high) c.in_ok-outside.ensures.outside.2

pub repeated-returns-clause-faults : goal.repeated-returns-clause-faults
repeated-returns-clause-faults t c =
    let headed = behind_beginning (inside (context_of c.args.self.now)) (trees.optional_beginning c.args.head.now.beginning) in
    let same : context_of c.beginning.new.self ≡ headed = c.in_ok-row.ensures.context ∙ ap (λ x. behind_beginning x (trees.optional_beginning c.args.head.now.beginning)) c.in_ok-open.ensures.context in
    let begins = beginning_faults (inside (context_of c.args.self.now)) (trees.optional_beginning c.args.head.now.beginning) in
    let tests = optional_faults headed.names (trees.optional c.args.head.now.test) in
    let steps = optional_assignment_faults headed.names (trees.optional_assignment c.args.head.now.step) in
    let bodies = statement_faults (inside headed) (trees.statement c.args.body.now) in
    let first = c.in_ok-row.ensures.faults ∙ ap (λ x. earliest c.open.new.self.first (beginning_faults x (trees.optional_beginning c.args.head.now.beginning))) c.in_ok-open.ensures.context ∙ ap (λ f. earliest f begins) c.open.ensures.same.1 in
    let second = c.in_ok-test.ensures.faults ∙ ap (λ x. earliest c.beginning.new.self.first (optional_faults x.names (trees.optional c.args.head.now.test))) same in
    let third = c.in_ok-step.ensures.faults ∙ ap (λ x. earliest c.optional.new.first (optional_assignment_faults x.names (trees.optional_assignment c.args.head.now.step))) same in
    let fourth = c.in_ok-body.ensures.faults ∙ ap (λ x. earliest c.step.new.first (statement_faults (inside x) (trees.statement c.args.body.now))) same in
    c.close.ensures.same.1
    ∙ both_faults c.args.self.now.first c.step.new.first c.scoped.new.self.first (begins ++ tests ++ steps) bodies
    (both_faults c.args.self.now.first c.optional.new.first c.step.new.first (begins ++ tests) steps
    (both_faults c.args.self.now.first c.beginning.new.self.first c.optional.new.first begins tests first second) third) fourth

pub repeated-returns-clause-loops : goal.repeated-returns-clause-loops
repeated-returns-clause-loops t c =
    let headed = behind_beginning (inside (context_of c.args.self.now)) (trees.optional_beginning c.args.head.now.beginning) in
    let same : context_of c.beginning.new.self ≡ headed = c.in_ok-row.ensures.context ∙ ap (λ x. behind_beginning x (trees.optional_beginning c.args.head.now.beginning)) c.in_ok-open.ensures.context in
    ap (λ v. map loop v.items) c.close.ensures.same.0
    ∙ c.in_ok-body.ensures.loops
    ∙ ap (λ x. map loop c.beginning.new.self.loops.items ++ loops_of (inside x) (trees.statement c.args.body.now)) same
    ∙ ap (λ v. map loop v.items ++ loops_of (inside headed) (trees.statement c.args.body.now)) (c.beginning.ensures.loops ∙ c.open.ensures.same.0)

pub repeated-returns-clause-value : goal.repeated-returns-clause-value
repeated-returns-clause-value t c =
    let headed = behind_beginning (inside (context_of c.args.self.now)) (trees.optional_beginning c.args.head.now.beginning) in
    let same : context_of c.beginning.new.self ≡ headed = c.in_ok-row.ensures.context ∙ ap (λ x. behind_beginning x (trees.optional_beginning c.args.head.now.beginning)) c.in_ok-open.ensures.context in
    let row = c.in_ok-row.ensures.value ∙ ap (λ x. beginning_of x (trees.optional_beginning c.args.head.now.beginning)) c.in_ok-open.ensures.context in
    let test = c.in_ok-test.ensures.value ∙ ap (λ x. optional_of x.names (trees.optional c.args.head.now.test)) same in
    let step = c.in_ok-step.ensures.value ∙ ap (λ x. optional_row x.names (trees.optional_assignment c.args.head.now.step)) same in
    let body = c.in_ok-body.ensures.value ∙ ap (λ x. statement_of (inside x) (trees.statement c.args.body.now)) same in
    c.for_of.ensures
    ∙ ap (λ x. syntax.For x (optional c.in_ok-test.test) (statements c.in_ok-step.step.items) (statement c.in_ok-body.body.value)) row
    ∙ ap (λ x. syntax.For (beginning_of (inside (context_of c.args.self.now)) (trees.optional_beginning c.args.head.now.beginning)) x (statements c.in_ok-step.step.items) (statement c.in_ok-body.body.value)) test
    ∙ ap (λ x. syntax.For (beginning_of (inside (context_of c.args.self.now)) (trees.optional_beginning c.args.head.now.beginning)) (optional_of headed.names (trees.optional c.args.head.now.test)) x (statement c.in_ok-body.body.value)) step
    ∙ ap (syntax.For (beginning_of (inside (context_of c.args.self.now)) (trees.optional_beginning c.args.head.now.beginning)) (optional_of headed.names (trees.optional c.args.head.now.test)) (optional_row headed.names (trees.optional_assignment c.args.head.now.step))) body
