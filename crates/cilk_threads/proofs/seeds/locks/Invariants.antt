use Rattle.std.specs.Prelude.{◌≡◌, length}
use Rattle.cilk_workers.specs.Keys.{AreKeysFrom}
use Rattle.cilk_threads.proofs.seeds.locks.Given as goal

abbrev pub invariant-each : goal.invariant-each
invariant-each g l = AreKeysFrom 0 l.count l.all.items l.keys.items × (length l.all.items ≡ l.made)
