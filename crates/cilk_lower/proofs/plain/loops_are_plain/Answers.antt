use Rattle.std.proofs.Common.{sym, ap, ◌∙◌}
use Rattle.cilk_program.specs.Programs.{loop, statements}
use Rattle.cilk_lower.specs.Plain.{loop_is_plain, row_is_silent}
use Rattle.cilk_lower.proofs.Silent.{all_false, all_done, of_map}
use Rattle.cilk_lower.proofs.plain.loops_are_plain.Goals as goal

pub returns-then-not-are_silent : goal.returns-then-not-are_silent
returns-then-not-are_silent c =
    let ls = c.args.loops.now in
    let prints = sym (c.are_silent.ensures ∙ ap (λ row. row_is_silent (statements row)) c.deref.ensures.value) ∙ c.if-not-are_silent.true in
    sym (of_map loop_is_plain loop ls ∙ all_false (λ x. loop_is_plain (loop x)) ls c.each.l-index c.l-item.result c.each-test.true c.l-item.is prints)

pub returns : goal.returns
returns c =
    let ls = c.args.loops.now in
    sym (of_map loop_is_plain loop ls ∙ all_done (λ x. loop_is_plain (loop x)) ls c.each.l-index c.each-test.false c.each.invariant)
