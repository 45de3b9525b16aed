use Rattle.std.proofs.Common.{All, ℤ, List}
use Rattle.cilk_program.specs.Syntax.{Source}
use Rattle.cilk_lower.specs.Code.{CodeView}
use Rattle.cilk_helpers.specs.Whole.{IsKept}
use Rattle.cilk_helpers.specs.Replayed.{AreReplayed}
use Rattle.cilk_helpers.proofs.depths.keep.Given as goal

abbrev pub invariant-each : goal.invariant-each
invariant-each l = record {
  rest : (code : CodeView) (p : Source) (inputs : List ℤ) → All (AreReplayed code p inputs) l.fn.round.items → All (AreReplayed code p inputs) l.round.items;
  kept : (code : CodeView) (p : Source) (inputs : List ℤ) → All (IsKept code p inputs) l.fn.replays → All (AreReplayed code p inputs) l.fn.round.items → All (IsKept code p inputs) l.replays;
}
