use Rattle.std.specs.Prelude.{◌≡◌, ◌+◌, All, length}
use Rattle.cilk_threads.specs.WorkerSeeds.{IsTake}
use Rattle.cilk_threads.proofs.seeds.ends.Given as goal

abbrev pub invariant-each : goal.invariant-each
invariant-each g l =
    All (λ ts. All IsTake ts.items) l.all.items × All (λ ts. length ts.items + 1 ≡ length l.fn.racks.items) l.all.items × (length l.all.items ≡ l.at) × (length l.racks.items ≡ length l.fn.racks.items)
