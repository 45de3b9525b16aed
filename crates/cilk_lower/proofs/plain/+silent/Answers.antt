use Rattle.std.proofs.Common.{◌≡◌, ◌&&◌, sym, ap, ◌∙◌}
use Rattle.cilk_program.specs.Programs.{statement, statements}
use Rattle.cilk_lower.specs.Plain.{is_silent, row_is_silent}
use Rattle.cilk_lower.proofs.Silent.{all_false, all_done, block_silent, both, for_silent, neither, row_is}
use Rattle.cilk_lower.proofs.plain.+silent.Goals as goal
use Rattle.cilk_lower.proofs.plain.+silent.Goals.{is_silent-then-are_silent, is_silent-else-are_silent}

pub are_silent-returns-then-not-is_silent : goal.are_silent-returns-then-not-is_silent
are_silent-returns-then-not-is_silent t c =
    let row = c.args.row.now in
    sym (row_is row ∙ all_false (λ s. is_silent (statement s)) row c.each.s-index c.s-item.result c.each-test.true c.s-item.is (sym c.is_silent.ensures ∙ c.if-not-is_silent.true))

pub are_silent-returns : goal.are_silent-returns
are_silent-returns t c = let row = c.args.row.now in sym (row_is row ∙ all_done (λ s. is_silent (statement s)) row c.each.s-index c.each-test.false c.each.invariant)

pub is_silent-returns-in-Block : goal.is_silent-returns-in-Block
is_silent-returns-in-Block t c =
    c.are_silent.ensures ∙ ap (λ row. row_is_silent (statements row)) c.deref.ensures.value ∙ sym (ap (λ s. is_silent (statement s)) c.in-Block.is ∙ block_silent c.in-Block.field-0 c.in-Block.row)

pub is_silent-returns-then-is_silent-2 : goal.is_silent-returns-then-is_silent-2
is_silent-returns-then-is_silent-2 t c =
    let a = row_is_silent (statements c.in-For.beginning.items) in
    let b = is_silent (statement c.in-For.body.value) in
    let first : c.are_silent-in-For.result ≡ a = c.are_silent-in-For.ensures ∙ ap (λ row. row_is_silent (statements row)) c.deref-in-For.ensures.value in
    let so_far : c.if-are_silent.value ≡ (a && b) = elim c.if-are_silent.branch [
      | is_silent-then-are_silent w ↦ w.value-is ∙ w.is_silent-then-are_silent.ensures ∙ ap (λ s. is_silent (statement s)) w.deref-then-are_silent.ensures ∙ ap (λ x. x && b) (sym (sym first ∙ w.if-are_silent.true))
      | is_silent-else-are_silent w ↦ w.value-is ∙ w.if-are_silent.false ∙ ap (λ x. x && b) (sym (sym first ∙ w.if-are_silent.false))
    ] in
    c.are_silent-then-is_silent-2.ensures ∙ ap (λ row. row_is_silent (statements row)) c.deref-then-is_silent-2.ensures.value
    ∙ sym (for_silent _ c.args.s.now c.in-For.beginning c.in-For.step c.in-For.field-2 c.in-For.body c.in-For.is ∙ both a b (row_is_silent (statements c.in-For.step.items)) (sym so_far ∙ c.if-is_silent-2.true))

pub is_silent-returns-else-is_silent-2 : goal.is_silent-returns-else-is_silent-2
is_silent-returns-else-is_silent-2 t c =
    let a = row_is_silent (statements c.in-For.beginning.items) in
    let b = is_silent (statement c.in-For.body.value) in
    let first : c.are_silent-in-For.result ≡ a = c.are_silent-in-For.ensures ∙ ap (λ row. row_is_silent (statements row)) c.deref-in-For.ensures.value in
    let so_far : c.if-are_silent.value ≡ (a && b) = elim c.if-are_silent.branch [
      | is_silent-then-are_silent w ↦ w.value-is ∙ w.is_silent-then-are_silent.ensures ∙ ap (λ s. is_silent (statement s)) w.deref-then-are_silent.ensures ∙ ap (λ x. x && b) (sym (sym first ∙ w.if-are_silent.true))
      | is_silent-else-are_silent w ↦ w.value-is ∙ w.if-are_silent.false ∙ ap (λ x. x && b) (sym (sym first ∙ w.if-are_silent.false))
    ] in
    c.if-is_silent-2.false ∙ sym (for_silent _ c.args.s.now c.in-For.beginning c.in-For.step c.in-For.field-2 c.in-For.body c.in-For.is ∙ neither a b (row_is_silent (statements c.in-For.step.items)) (sym so_far ∙ c.if-is_silent-2.false))
