use Rattle.std.proofs.Common.{◌≡◌, ◌≤◌, take}
use Rattle.cilk_workers.specs.Shared.{event_order_in}
use Rattle.cilk_workers.proofs.SpawnCounts.{spawns}
use Rattle.cilk_workers.proofs.shared.Shared.spawns.Given as goal

abbrev pub invariant-each : goal.invariant-each
invariant-each l = let s = event_order_in l.self in (l.count ≡ spawns (take l.before s.events)) × (l.count ≤ l.before)
