use Rattle.std.proofs.Common.{All}
use Rattle.cilk_program.specs.Sources.{source}
use Rattle.cilk_helpers.specs.Whole.{IsKept}
use Rattle.cilk_helpers.specs.Replayed.{IsFitting}
use Rattle.cilk_helpers.proofs.depths.replays.Given as goal

abbrev pub invariant-rounds : goal.invariant-rounds
invariant-rounds g l = record {
  kept : All (IsKept l.code (source l.program) l.input) l.replays.items;
  fits : All (IsFitting (source l.program)) l.dues.items;
}
