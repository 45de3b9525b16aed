use Rattle.std.proofs.Common.{◌≡◌, ◌≤◌, ◌+◌, vec_len}
use Rattle.std.specs.Prelude.{All}
use Rattle.std.specs.Vec.{vec_capacity}
use Rattle.cilk_threads.specs.WorkerSeeds.{IsWorkerSeed}
use Rattle.cilk_threads.proofs.pool.fn.pool.scope.Given as goal

abbrev pub invariant-each : goal.invariant-each
invariant-each g l =
    All (IsWorkerSeed l.shared.now l.locks.now.items) l.seeds.items × All (λ h. h.promise.shared.now ≡ l.shared.now) l.handles.items
    × (vec_len l.seeds + vec_len l.handles ≤ vec_capacity l.handles) × (vec_len l.seeds + vec_len l.handles ≤ vec_capacity l.reasons)
