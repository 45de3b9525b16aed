use Rattle.std.proofs.Common.{◌≡◌, take, true}
use Rattle.std.specs.List.{list_all}
use Rattle.cilk_program.specs.Programs.{function}
use Rattle.cilk_lower.specs.Plain.{function_is_plain}
use Rattle.cilk_lower.proofs.plain.functions_are_plain.Given as goal

abbrev pub invariant-each : goal.invariant-each
invariant-each l = list_all (λ f. function_is_plain (function f)) (take l.f-index l.functions) ≡ true
