use Rattle.std.specs.Prelude.{◌≡◌, All, length}
use Rattle.cilk_workers.specs.Held.{IsNewRack}
use Rattle.cilk_threads.proofs.seeds.racks.Given as goal

abbrev pub invariant-each : goal.invariant-each
invariant-each g l = (length l.all.items ≡ l.made) × All (IsNewRack l.room) l.all.items
