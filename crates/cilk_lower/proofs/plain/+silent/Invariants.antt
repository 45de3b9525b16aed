use Rattle.std.proofs.Common.{◌≡◌, take, true}
use Rattle.std.specs.List.{list_all}
use Rattle.cilk_program.specs.Programs.{statement}
use Rattle.cilk_lower.specs.Plain.{is_silent}
use Rattle.cilk_lower.proofs.plain.+silent.Given as goal

abbrev pub invariant-are_silent-each : goal.invariant-are_silent-each
invariant-are_silent-each l = list_all (λ s. is_silent (statement s)) (take l.s-index l.row) ≡ true
