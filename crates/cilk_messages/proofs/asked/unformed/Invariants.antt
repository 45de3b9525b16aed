use Rattle.std.proofs.Common.{◌≡◌, ◌++◌, length}
use Rattle.cilk_messages.specs.Asked.{unformed}
use Rattle.cilk_messages.specs.Words.{texts}
use Rattle.cilk_messages.proofs.asked.unformed.Given as goal

abbrev pub invariant-each : goal.invariant-each
invariant-each l = texts l.plain.items ++ unformed (texts l.rest) ≡ unformed (texts l.words)

abbrev pub decreases-each : goal.decreases-each
decreases-each l = length l.rest
