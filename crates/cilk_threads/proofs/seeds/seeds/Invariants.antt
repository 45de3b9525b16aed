use Rattle.std.proofs.Common.{◌≤◌}
use Rattle.std.specs.Prelude.{All, IfSome}
use Rattle.cilk_workers.specs.Rows.{OfRun}
use Rattle.cilk_workers.specs.Turns.{Works}
use Rattle.cilk_workers.specs.Keys.{AreKeys}
use Rattle.cilk_threads.specs.WorkerSeeds.{IsWorkerSeed, IsTake}
use Rattle.cilk_threads.proofs.seeds.seeds.Given as goal

abbrev pub invariant-each : goal.invariant-each
invariant-each g l =
    All (IsWorkerSeed l.shared l.locks.items) l.all.items
    × AreKeys l.locks.items l.keys.items
    × All (λ ts. All IsTake ts.items) l.ends.items
    × OfRun l.shared.run l.spare
    × (l.spare.upto ≤ l.spare.from)
    × IfSome l.first (Works l.shared)
