use Rattle.std.proofs.Common.{◌≡◌, ◌+◌, ◌≤◌, ◌<◌, length}
use Rattle.std.specs.Prelude.{All}
use Rattle.cilk_threads.specs.WorkerSeeds.{IsTake}
use Rattle.cilk_threads.proofs.seeds.takes.Given as goal

abbrev pub invariant-each : goal.invariant-each
invariant-each g l =
    All IsTake l.all.items × (length l.racks.items ≡ length l.fn.racks.items) × (l.at ≤ l.but → length l.all.items ≡ l.at) × (l.but < l.at → length l.all.items + 1 ≡ l.at)
