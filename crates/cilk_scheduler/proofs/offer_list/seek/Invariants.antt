use Rattle.std.proofs.Common.{◌≤◌, ℕ, length}
use Rattle.cilk_scheduler.specs.Slots.{StandsIn}
use Rattle.cilk_scheduler.proofs.offer_list.seek.Given as goal

abbrev pub invariant-each : goal.invariant-each
invariant-each l = record { low : l.at ≤ length l.slots; none : (j : ℕ) → l.at ≤ j → StandsIn l.slots j l.frame → ⊥ }

abbrev pub decreases-each : goal.decreases-each
decreases-each l = l.at
