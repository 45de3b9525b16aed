use Rattle.std.proofs.Common.{All, ℤ, List}
use Rattle.cilk_program.specs.Syntax.{Source}
use Rattle.cilk_lower.specs.Code.{CodeView}
use Rattle.cilk_helpers.specs.Whole.{IsKept}
use Rattle.cilk_helpers.proofs.depths.blanks.Given as goal

abbrev pub invariant-each : goal.invariant-each
invariant-each l = (code : CodeView) (p : Source) (inputs : List ℤ) → All (IsKept code p inputs) l.list.items
