use Rattle.std.proofs.Common.{All}
use Rattle.cilk_program.specs.Sources.{source}
use Rattle.cilk_helpers.specs.Replayed.{IsFitting}
use Rattle.cilk_helpers.proofs.depths.following.Given as goal

abbrev pub invariant-frames : goal.invariant-frames
invariant-frames l = All (IsFitting (source l.program)) l.dues.items
