use Rattle.std.proofs.Common.{◌≡◌, ◌≤◌, drop, length}
use Rattle.cilk_program.proofs.given.References.take_from.Given as goal

abbrev pub invariant-each : goal.invariant-each
invariant-each l =
    let now = l.self-inside in
    let other = l.other-inside in
    (other.start ≤ now.start) × (now.start ≤ 16) × (length now.items ≡ 16) × (drop now.start now.items ≡ drop now.start other.items)

abbrev pub decreases-each : goal.decreases-each
decreases-each l = l.self-inside.start
