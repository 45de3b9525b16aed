use Rattle.std.proofs.Common.{◌≡◌, ◌≤◌, ◌+◌, vec_len}
use Rattle.std.specs.Prelude.{All}
use Rattle.std.specs.Vec.{vec_capacity}
use Rattle.cilk_workers.specs.Activities.{IsExitReason}
use Rattle.cilk_threads.proofs.pool.joined.Given as goal

abbrev pub invariant-each : goal.invariant-each
invariant-each g l =
    All (λ h. h.promise.shared.now ≡ l.shared) l.handles.items × All (IsExitReason l.shared) l.reasons.items
    × (vec_len l.handles + vec_len l.reasons ≡ vec_len l.fn.handles) × (vec_len l.fn.handles ≤ vec_capacity l.reasons)

abbrev pub decreases-each : goal.decreases-each
decreases-each g l = vec_len l.handles
