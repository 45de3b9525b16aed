-- The order of events: which event is before which in every schedule.
use Rattle.std.specs.Prelude.{◌≡◌, ℕ, ◌<◌, ◌≤◌, ◌⊎◌, List, length}
use Rattle.cilk_types.specs.declared.event.Event.{Event}
use Rattle.cilk_tree.specs.Tree.{Tree}
use Rattle.cilk_tree.specs.Parallel.{Before}
use Rattle.cilk_tree.specs.Races.{strand_at}

-- positions count from 1
abbrev pub IsPosition : List Event → ℕ → Type 0
IsPosition events p = (1 ≤ p) × (p ≤ length events)

-- One event is before another if both are in one strand and it comes first, or if its strand is
-- before the other's.
abbrev pub IsBefore : Tree → List Event → ℕ → ℕ → Type 0
IsBefore t events p q =
    ((strand_at events p ≡ strand_at events q) × (p < q))
    ⊎ Before t 1 (strand_at events p) (strand_at events q)
