use Rattle.std.proofs.Common.{length}
use Rattle.cilk_helpers.proofs.hints.Reading.piece.Given as goal

abbrev pub decreases-lines : goal.decreases-lines
decreases-lines l = length l.rest
