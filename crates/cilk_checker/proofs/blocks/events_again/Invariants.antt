use Rattle.std.proofs.Common.{◌≡◌, ◌-◌, ◌≤◌, length, take}
use Rattle.cilk_cert_maker.specs.Listed.{creations}
use Rattle.cilk_cert_maker.specs.Sources.{AreLast}
use Rattle.cilk_checker.proofs.blocks.events_again.Given as goal

abbrev pub invariant-events : goal.invariant-events
invariant-events l = record {
  within : l.at ≤ l.first.agreed;
  last : AreLast l.right.trace l.at l.writes.positions.items;
  cells : length l.writes.positions.items ≡ length l.tally.writes.positions.items;
  made : l.made.made.items ≡ creations (take l.at l.right.trace);
}

abbrev pub decreases-events : goal.decreases-events
decreases-events l = l.first.agreed - l.at
