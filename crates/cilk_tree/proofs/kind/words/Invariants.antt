use Rattle.std.proofs.Common.{take}
use Rattle.std.specs.List.{All}
use Rattle.std.specs.Prelude.{FitsSigned}
use Rattle.std.specs.Int.{w64}
use Rattle.cilk_tree.proofs.kind.words.Given as goal

abbrev pub invariant-each : goal.invariant-each
invariant-each l = All (FitsSigned w64) (take l.value-index l.values)
