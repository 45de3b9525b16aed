use Rattle.std.proofs.Common.{◌≡◌, cond}
use Rattle.std.specs.Prelude.{drop}
use Rattle.cilk_schedule.specs.Showing.{has_sync, joins_child}
use Rattle.cilk_schedule.proofs.showing.joins_child.Given as goal

abbrev pub invariant-each : goal.invariant-each
invariant-each l = joins_child l.fn.ordinal l.events ≡ cond l.spawned (has_sync (drop l.event-index l.events)) (joins_child l.fn.ordinal (drop l.event-index l.events))
