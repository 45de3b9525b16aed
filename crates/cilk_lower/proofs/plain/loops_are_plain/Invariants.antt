use Rattle.std.proofs.Common.{◌≡◌, take, true}
use Rattle.std.specs.List.{list_all}
use Rattle.cilk_program.specs.Programs.{loop}
use Rattle.cilk_lower.specs.Plain.{loop_is_plain}
use Rattle.cilk_lower.proofs.plain.loops_are_plain.Given as goal

abbrev pub invariant-each : goal.invariant-each
invariant-each l = list_all (λ x. loop_is_plain (loop x)) (take l.l-index l.loops) ≡ true
