use Rattle.std.proofs.Common.{◌≡◌, ◌+◌, drop}
use Rattle.cilk_join.specs.AwaitedRows.{place_of}
use Rattle.cilk_join.proofs.row.Row.place.Given as goal

abbrev pub invariant-each : goal.invariant-each
invariant-each g l = place_of (drop l.place l.self-inside.awaited.items) l.key + l.place ≡ place_of l.self-inside.awaited.items l.key
