use Rattle.std.proofs.Common.{◌≡◌, length}
use Rattle.cilk_messages.specs.Words.{texts}
use Rattle.cilk_messages.specs.CheckWords.{name_helpers}
use Rattle.cilk_messages.proofs.check_words.name_helpers.Given as goal

abbrev pub invariant-each : goal.invariant-each
invariant-each l = name_helpers (texts l.rest) ≡ name_helpers (texts l.words)

abbrev pub decreases-each : goal.decreases-each
decreases-each l = length l.rest
