use Rattle.std.proofs.Common.{◌≡◌, ◌+◌, ◌≤◌}
use Rattle.std.specs.Prelude.{drop}
use Rattle.cilk_schedule.specs.Showing.{strands_shown}
use Rattle.cilk_schedule.proofs.showing.strands.Given as goal

abbrev pub invariant-each : goal.invariant-each
invariant-each l = (l.begun ≤ l.event-index) × (strands_shown l.events ≡ l.begun + strands_shown (drop l.event-index l.events))
