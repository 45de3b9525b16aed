use Rattle.std.proofs.Common.{◌≡◌, ◌++◌, length}
use Rattle.cilk_messages.specs.Asked.{unmarked}
use Rattle.cilk_messages.specs.Words.{texts}
use Rattle.cilk_messages.proofs.flags.unmarked.Given as goal

abbrev pub invariant-each : goal.invariant-each
invariant-each l = texts l.plain.items ++ unmarked l.command (texts l.rest) ≡ unmarked l.command (texts l.words)

abbrev pub decreases-each : goal.decreases-each
decreases-each l = length l.rest
