-- The last writes of cells, kept by a pass over a run's events.
use Rattle.std.specs.Prelude.{◌≡◌, ℕ, ◌<◌, List, Some, slice_get, slice_index}
use Rattle.cilk_types.specs.declared.event.Event.{Event}
use Rattle.cilk_types.specs.declared.event.Event.TheVariants.{Write}
use Rattle.cilk_tree.specs.Sources.{last_write}

-- the cell that an event writes, if it writes one, is below n
abbrev pub Fits : ℕ → Event → Type 0
Fits n (Write c v) = c < n
Fits n _ = Unit {0}

-- the cells that events write are below n
abbrev pub AllFit : ℕ → List Event → Type 0
AllFit n es = (k : ℕ) (e : Event) → slice_get es k ≡ Some e → Fits n e

-- for each cell, the last write of it among the first n positions
abbrev pub AreLast : List Event → ℕ → List ℕ → Type 0
AreLast es n last = (c : ℕ) → slice_index last c ≡ last_write es c n
