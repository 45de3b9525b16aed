use Rattle.std.proofs.Common.{◌≡◌, ◌≤◌, drop, length}
use Rattle.cilk_helpers.proofs.note.words.Given as goal

abbrev pub invariant-each : goal.invariant-each
invariant-each l = (l.next ≤ length l.list) × (l.words ≡ drop l.next l.list)

abbrev pub decreases-each : goal.decreases-each
decreases-each l = l.next
