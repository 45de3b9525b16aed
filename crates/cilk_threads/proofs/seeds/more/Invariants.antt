use Rattle.std.proofs.Common.{length, take}
use Rattle.cilk_workers.specs.Keys.{AreKeys, AreKeysFrom}
use Rattle.cilk_threads.proofs.seeds.more.Given as goal

abbrev pub invariant-each : goal.invariant-each
invariant-each g l = AreKeysFrom 0 (length l.locks.items) (take l.at l.locks.items) l.all.items × AreKeys l.locks.items l.keys.items
