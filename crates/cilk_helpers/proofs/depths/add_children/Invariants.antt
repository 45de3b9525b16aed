use Rattle.std.proofs.Common.{All}
use Rattle.cilk_program.specs.Sources.{source}
use Rattle.cilk_helpers.specs.Replayed.{IsFitting}
use Rattle.cilk_helpers.proofs.depths.add_children.Given as goal

abbrev pub invariant-notes : goal.invariant-notes
invariant-notes l = All (IsFitting (source l.program)) l.fn.dues.items → All (IsFitting (source l.program)) l.dues.items
