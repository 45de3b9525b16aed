use Rattle.std.proofs.Common.{◌≡◌, ◌+◌, ◌≤◌, drop}
use Rattle.cilk_join.specs.AwaitedRows.{runs_in}
use Rattle.cilk_join.proofs.row.Row.runs.Given as goal

abbrev pub invariant-each : goal.invariant-each
invariant-each g l = (runs_in (drop l.place l.self-inside.awaited.items) + l.count ≡ runs_in l.self-inside.awaited.items) × (l.count ≤ l.place)
