use Rattle.std.proofs.Common.{◌≡◌, drop}
use Rattle.cilk_workers.specs.Rows.{last_end}
use Rattle.cilk_workers.proofs.awaited.end_of_all.Given as goal

abbrev pub invariant-each : goal.invariant-each
invariant-each l = last_end l.at (drop l.place l.waits) ≡ last_end l.begin l.waits
