use Rattle.std.proofs.Common.{◌≡◌, length}
use Rattle.cilk_messages.specs.Asked.{asks}
use Rattle.cilk_messages.specs.Words.{texts}
use Rattle.cilk_messages.proofs.asked.asks.Given as goal

abbrev pub invariant-each : goal.invariant-each
invariant-each l = asks l.wanted (texts l.rest) ≡ asks l.wanted (texts l.words)

abbrev pub decreases-each : goal.decreases-each
decreases-each l = length l.rest
