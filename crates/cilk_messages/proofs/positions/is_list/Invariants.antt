use Rattle.std.proofs.Common.{◌≡◌, length}
use Rattle.cilk_messages.specs.Positions.{goes_on}
use Rattle.cilk_messages.specs.declared.positions.Listed.TheVariants.{Open}
use Rattle.cilk_messages.proofs.positions.is_list.Given as goal

abbrev pub invariant-each : goal.invariant-each
invariant-each l = goes_on l.at l.rest ≡ goes_on Open l.word

abbrev pub decreases-each : goal.decreases-each
decreases-each l = length l.rest
