use Rattle.std.proofs.Common.{sym, ◌∙◌}
use Rattle.cilk_program.specs.Programs.{function}
use Rattle.cilk_lower.specs.Plain.{function_is_plain}
use Rattle.cilk_lower.proofs.Silent.{all_false, all_done, of_map}
use Rattle.cilk_lower.proofs.plain.functions_are_plain.Goals as goal

pub returns-then-not-function_is_plain : goal.returns-then-not-function_is_plain
returns-then-not-function_is_plain c =
    let fs = c.args.functions.now in
    sym (of_map function_is_plain function fs ∙ all_false (λ f. function_is_plain (function f)) fs c.each.f-index c.f-item.result c.each-test.true c.f-item.is (sym c.function_is_plain.ensures ∙ c.if-not-function_is_plain.true))

pub returns : goal.returns
returns c =
    let fs = c.args.functions.now in
    sym (of_map function_is_plain function fs ∙ all_done (λ f. function_is_plain (function f)) fs c.each.f-index c.each-test.false c.each.invariant)
