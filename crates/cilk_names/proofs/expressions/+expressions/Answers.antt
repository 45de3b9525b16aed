-- Each kind of expression, resolved.
use Rattle.std.proofs.Common.{◌≡◌, OnOk, IfOk, sym, ap, ◌∙◌, subst}
use Rattle.cilk_syntax.specs.Trees as trees
use Rattle.cilk_program.specs.Programs.{expression}
use Rattle.cilk_program.specs.Syntax as syntax
use Rattle.cilk_names.specs.Faults.{array_faults, earliest}
use Rattle.cilk_names.specs.Misnamings.{expression_faults}
use Rattle.cilk_names.specs.Operators.{joined, prefixed}
use Rattle.cilk_names.specs.Pass.{element_of, expression_of, read_of, value_of}
use Rattle.cilk_names.specs.Sights.{array}
use Rattle.cilk_names.specs.Tables.{names_of}
use Rattle.cilk_names.proofs.Parts.{both_faults}
use Rattle.cilk_names.proofs.expressions.+expressions.Goals as goal

pub expression-returns-in-InputCount-clause-faults : goal.expression-returns-in-InputCount-clause-faults
expression-returns-in-InputCount-clause-faults t c =
    ap (λ e. earliest c.args.first.now (expression_faults (names_of c.args.table.now) e)) (sym (ap trees.expression c.in-InputCount.is))

pub expression-returns-in-InputCount-clause-value : goal.expression-returns-in-InputCount-clause-value
expression-returns-in-InputCount-clause-value t c =
    ap (expression_of (names_of c.args.table.now)) (sym (ap trees.expression c.in-InputCount.is))

pub expression-returns-in-Variable-clause-faults : goal.expression-returns-in-Variable-clause-faults
expression-returns-in-Variable-clause-faults t c =
    c.variable.ensures.faults ∙ ap (λ e. earliest c.args.first.now (expression_faults (names_of c.args.table.now) e)) (sym (ap trees.expression c.in-Variable.is))

pub expression-returns-in-Variable-clause-value : goal.expression-returns-in-Variable-clause-value
expression-returns-in-Variable-clause-value t c =
    c.read.ensures ∙ ap read_of c.variable.ensures.place ∙ ap (expression_of (names_of c.args.table.now)) (sym (ap trees.expression c.in-Variable.is))

pub expression-returns-in-Value-clause-faults : goal.expression-returns-in-Value-clause-faults
expression-returns-in-Value-clause-faults t c =
    c.reducer.ensures.faults ∙ ap (λ e. earliest c.args.first.now (expression_faults (names_of c.args.table.now) e)) (sym (ap trees.expression c.in-Value.is))

pub expression-returns-in-Value-clause-value : goal.expression-returns-in-Value-clause-value
expression-returns-in-Value-clause-value t c =
    c.value.ensures ∙ ap value_of c.reducer.ensures.reducer ∙ ap (expression_of (names_of c.args.table.now)) (sym (ap trees.expression c.in-Value.is))

pub expression-returns-in_ok-index-in-Element-clause-faults : goal.expression-returns-in_ok-index-in-Element-clause-faults
expression-returns-in_ok-index-in-Element-clause-faults t c =
    both_faults c.args.first.now c.array-array.new.first c.part.new.first (array_faults (names_of c.args.table.now) c.in-Element.name) (expression_faults (names_of c.args.table.now) (trees.expression c.deref.result.now)) c.array-array.ensures.faults c.in_ok-index-in-Element.ensures.faults
    ∙ ap (λ e. earliest c.args.first.now (expression_faults (names_of c.args.table.now) e)) (ap (λ e. trees.Expression.Element c.in-Element.name (trees.expression e)) c.deref.ensures ∙ sym (ap trees.expression c.in-Element.is))

pub expression-returns-in_ok-index-in-Element-clause-value : goal.expression-returns-in_ok-index-in-Element-clause-value
expression-returns-in_ok-index-in-Element-clause-value t c =
    c.element.ensures ∙ ap (λ a. element_of a (expression c.in_ok-index-in-Element.index.value)) c.array-array.ensures.array ∙ ap (element_of (array (names_of c.args.table.now) c.in-Element.name)) c.in_ok-index-in-Element.ensures.value ∙ ap (expression_of (names_of c.args.table.now)) (ap (λ e. trees.Expression.Element c.in-Element.name (trees.expression e)) c.deref.ensures ∙ sym (ap trees.expression c.in-Element.is))

pub expression-returns-in-Group-clause-faults : goal.expression-returns-in-Group-clause-faults
expression-returns-in-Group-clause-faults t c =
    subst (λ (e : trees.Expression). OnOk c.expression.result (c.expression.new.first ≡ earliest c.args.first.now (expression_faults (names_of c.args.table.now) e)))
    (ap (λ e. trees.Group (trees.expression e)) c.deref-in-Group.ensures ∙ sym (ap trees.expression c.in-Group.is)) c.expression.ensures.faults

pub expression-returns-in-Group-clause-value : goal.expression-returns-in-Group-clause-value
expression-returns-in-Group-clause-value t c =
    subst (λ (e : trees.Expression). IfOk c.expression.result (λ r. expression r ≡ expression_of (names_of c.args.table.now) e))
    (ap (λ e. trees.Group (trees.expression e)) c.deref-in-Group.ensures ∙ sym (ap trees.expression c.in-Group.is)) c.expression.ensures.value

pub expression-returns-in_ok-operand-in-Unary-clause-faults : goal.expression-returns-in_ok-operand-in-Unary-clause-faults
expression-returns-in_ok-operand-in-Unary-clause-faults t c =
    c.in_ok-operand-in-Unary.ensures.faults ∙ ap (λ e. earliest c.args.first.now (expression_faults (names_of c.args.table.now) e)) (ap (λ e. trees.Unary c.in-Unary.operator (trees.expression e)) c.deref-in-Unary.ensures ∙ sym (ap trees.expression c.in-Unary.is))

pub expression-returns-in_ok-operand-in-Unary-clause-value : goal.expression-returns-in_ok-operand-in-Unary-clause-value
expression-returns-in_ok-operand-in-Unary-clause-value t c =
    c.in_front.ensures ∙ ap (prefixed c.in-Unary.operator) c.in_ok-operand-in-Unary.ensures.value ∙ ap (expression_of (names_of c.args.table.now)) (ap (λ e. trees.Unary c.in-Unary.operator (trees.expression e)) c.deref-in-Unary.ensures ∙ sym (ap trees.expression c.in-Unary.is))

pub expression-returns-in_ok-right-in-Binary-clause-faults : goal.expression-returns-in_ok-right-in-Binary-clause-faults
expression-returns-in_ok-right-in-Binary-clause-faults t c =
    both_faults c.args.first.now c.part-in-Binary.new.first c.part-in-Binary-2.new.first (expression_faults (names_of c.args.table.now) (trees.expression c.deref-in-Binary.result.now)) (expression_faults (names_of c.args.table.now) (trees.expression c.deref-in-Binary-2.result.now)) c.in_ok-left-in-Binary.ensures.faults c.in_ok-right-in-Binary.ensures.faults
    ∙ ap (λ e. earliest c.args.first.now (expression_faults (names_of c.args.table.now) e)) (ap (λ e. trees.Binary c.in-Binary.operator (trees.expression e) (trees.expression c.deref-in-Binary-2.result.now)) c.deref-in-Binary.ensures ∙ ap (λ e. trees.Binary c.in-Binary.operator (trees.expression c.in-Binary.left.value) (trees.expression e)) c.deref-in-Binary-2.ensures ∙ sym (ap trees.expression c.in-Binary.is))

pub expression-returns-in_ok-right-in-Binary-clause-value : goal.expression-returns-in_ok-right-in-Binary-clause-value
expression-returns-in_ok-right-in-Binary-clause-value t c =
    c.between.ensures ∙ ap (λ x. joined c.in-Binary.operator x (expression c.in_ok-right-in-Binary.right.value)) c.in_ok-left-in-Binary.ensures.value ∙ ap (joined c.in-Binary.operator (expression_of (names_of c.args.table.now) (trees.expression c.deref-in-Binary.result.now))) c.in_ok-right-in-Binary.ensures.value ∙ ap (expression_of (names_of c.args.table.now)) (ap (λ e. trees.Binary c.in-Binary.operator (trees.expression e) (trees.expression c.deref-in-Binary-2.result.now)) c.deref-in-Binary.ensures ∙ ap (λ e. trees.Binary c.in-Binary.operator (trees.expression c.in-Binary.left.value) (trees.expression e)) c.deref-in-Binary-2.ensures ∙ sym (ap trees.expression c.in-Binary.is))

pub expression-returns-in_ok-part-in-Input-clause-faults : goal.expression-returns-in_ok-part-in-Input-clause-faults
expression-returns-in_ok-part-in-Input-clause-faults t c =
    c.in_ok-part-in-Input.ensures.faults ∙ ap (λ e. earliest c.args.first.now (expression_faults (names_of c.args.table.now) e)) (ap (λ e. trees.Input (trees.expression e)) c.deref-in-Input.ensures ∙ sym (ap trees.expression c.in-Input.is))

pub expression-returns-in_ok-part-in-Input-clause-value : goal.expression-returns-in_ok-part-in-Input-clause-value
expression-returns-in_ok-part-in-Input-clause-value t c =
    ap syntax.Input c.in_ok-part-in-Input.ensures.value ∙ ap (expression_of (names_of c.args.table.now)) (ap (λ e. trees.Input (trees.expression e)) c.deref-in-Input.ensures ∙ sym (ap trees.expression c.in-Input.is))
