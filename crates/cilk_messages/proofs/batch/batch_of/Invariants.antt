use Rattle.std.proofs.Common.{◌≡◌, length}
use Rattle.cilk_messages.specs.Batches.{batch_view, with_words}
use Rattle.cilk_messages.specs.Words.{texts}
use Rattle.cilk_messages.proofs.batch.batch_of.Given as goal

abbrev pub invariant-each : goal.invariant-each
invariant-each l = with_words (batch_view l.batch) (texts l.rest) ≡ with_words (batch_view l.initial.batch) (texts l.initial.rest)

abbrev pub decreases-each : goal.decreases-each
decreases-each l = length l.rest
