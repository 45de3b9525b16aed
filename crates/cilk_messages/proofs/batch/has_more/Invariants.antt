use Rattle.std.proofs.Common.{◌≡◌, length}
use Rattle.cilk_messages.specs.Batches.{has_more}
use Rattle.cilk_messages.specs.Words.{texts}
use Rattle.cilk_messages.proofs.batch.has_more.Given as goal

abbrev pub invariant-each : goal.invariant-each
invariant-each l = has_more l.left (texts l.rest) ≡ has_more l.most (texts l.words)

abbrev pub decreases-each : goal.decreases-each
decreases-each l = length l.rest
