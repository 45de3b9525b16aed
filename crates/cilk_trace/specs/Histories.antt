-- The history of a cell of a trace, by Hebrew numbers. The positions that are kept of a cell stand for it.
use Rattle.std.specs.Prelude.{◌≡◌, ℕ, nat_lt, if◌then◌else◌}
use Rattle.cilk_trace.specs.declared.histories.Kind.{Kind}
use Rattle.cilk_trace.specs.declared.histories.Kind.TheVariants.{Read, Write, Clear}
use Rattle.cilk_trace.specs.declared.line.Cells.{Cells}
use Rattle.cilk_trace.specs.Accesses.{Covers}

-- An access of a cell: its strand's Hebrew number, from 1, and its position. None has number 0.
pub record Kept : Type 0 where
  pub hebrew : ℕ
  pub at : ℕ

-- The write and the access of greatest Hebrew number of a cell, the earliest of their strand.
pub record History : Type 0 where
  pub write : Kept
  pub access : Kept

abbrev pub nothing : Kept
nothing = record { hebrew = 0; at = 0 }

-- the history of a cell without an access
abbrev pub untouched : History
untouched = record { write = nothing; access = nothing }

-- the access, if its Hebrew number is above n
abbrev pub above : Kept → ℕ → Kept
above k n = if nat_lt n k.hebrew then k else nothing

-- the access that may race with one of this kind
abbrev pub rival : Kind → History → Kept
rival Read h = h.write
rival Write h = h.access
rival Clear h = nothing

-- the access that races with one of this kind and Hebrew number
abbrev pub racing : Kind → History → ℕ → Kept
racing kind h n = above (rival kind h) n

-- the access of greater Hebrew number, at equal numbers the earlier one
abbrev pub better : Kept → Kept → Kept
better k here = if nat_lt k.hebrew here.hebrew then here else k

abbrev pub after : Kind → Kept → History → History
after Read here h = record { write = h.write; access = better h.access here }
after Write here h = record { write = better h.write here; access = better h.access here }
after Clear here h = record { write = nothing; access = nothing }

-- A line did this to its cells, and nothing to others, by the histories before and after.
pub record IsMet (kind : Kind) (here : Kept) (k : Cells) (old new : ℕ → History) : Type 0 where
  pub covered : (c : ℕ) → Covers k c → new c ≡ after kind here (old c)
  pub others : (c : ℕ) → (Covers k c → ⊥) → new c ≡ old c
