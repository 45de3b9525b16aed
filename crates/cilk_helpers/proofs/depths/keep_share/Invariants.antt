use Rattle.std.proofs.Common.{All, ℤ, List}
use Rattle.cilk_program.specs.Syntax.{Source}
use Rattle.cilk_lower.specs.Code.{CodeView}
use Rattle.cilk_helpers.specs.Whole.{IsKept}
use Rattle.cilk_helpers.specs.Replayed.{IsReplayed}
use Rattle.cilk_helpers.proofs.depths.keep_share.Given as goal

abbrev pub invariant-each : goal.invariant-each
invariant-each l = record {
  rest : (code : CodeView) (p : Source) (inputs : List ℤ) → All (IsReplayed code p inputs) l.fn.share.items → All (IsReplayed code p inputs) l.share.items;
  kept : (code : CodeView) (p : Source) (inputs : List ℤ) → All (IsKept code p inputs) l.fn.replays → All (IsReplayed code p inputs) l.fn.share.items → All (IsKept code p inputs) l.replays;
}
