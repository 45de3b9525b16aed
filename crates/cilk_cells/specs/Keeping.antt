-- The accesses of each cell that a pass over a run's events keeps.
use Rattle.std.specs.Prelude.{ℕ, ◌<◌, cond, nat_lt, List, Option, Some, None, slice_index_or, slice_set}
use Rattle.cilk_types.specs.declared.event.Event.{Event}
use Rattle.cilk_types.specs.declared.event.Event.TheVariants.{Read, Write}
use Rattle.cilk_cells.specs.declared.histories.Access.{Access}
use Rattle.cilk_cells.specs.declared.histories.Kept.{Kept}

-- no access, since Hebrew numbers count from 1
abbrev pub no_access : Access
no_access = record { hebrew = 0; at = 0 }

-- what is kept of a cell before its first access
abbrev pub untouched : Kept
untouched = record { write = no_access; access = no_access }

-- the kept access, or this one if its Hebrew number is greater
abbrev pub greater_of : Access → Access → Access
greater_of b a = cond (nat_lt b.hebrew a.hebrew) a b

-- the position of the kept access if its Hebrew number is greater
abbrev pub racing_with : Access → ℕ → Option ℕ
racing_with b h = cond (nat_lt h b.hebrew) (Some b.at) None

-- the event's cell, if any, is below n
abbrev pub Fits : ℕ → Event → Type 0
Fits n (Read c v) = c < n
Fits n (Write c v) = c < n
Fits n _ = Unit {0}

-- what is kept of a cell after a read, and after a write
abbrev pub after_read : Access → Kept → Kept
after_read a k = record { write = k.write; access = greater_of k.access a }

abbrev pub after_write : Access → Kept → Kept
after_write a k = record { write = greater_of k.write a; access = greater_of k.access a }

abbrev pub kept_after : Event → Access → List Kept → List Kept
kept_after (Read c v) a ks = slice_set ks c (after_read a (slice_index_or ks c untouched))
kept_after (Write c v) a ks = slice_set ks c (after_write a (slice_index_or ks c untouched))
kept_after _ a ks = ks

-- a read races with a write, a write with any access
abbrev pub answer_at : Event → ℕ → List Kept → Option ℕ
answer_at (Read c v) h ks = racing_with (slice_index_or ks c untouched).write h
answer_at (Write c v) h ks = racing_with (slice_index_or ks c untouched).access h
answer_at _ h ks = None
