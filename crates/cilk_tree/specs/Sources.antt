-- The source of a read: the last earlier write of its cell.
use Rattle.std.specs.Prelude.{◌≡◌, ◌<◌, ◌≤◌, ◌-◌, ◌⊎◌, ℕ, zero, suc, nat_eq, Bool, false, if◌then◌else◌, List, Option, Some, slice_get}
use Rattle.cilk_types.specs.declared.event.Event.{Event}
use Rattle.cilk_types.specs.declared.event.Event.TheVariants.{Write}
use Rattle.cilk_tree.specs.Races.{event_at, Writes}

-- the event writes the cell
abbrev pub writes : Option Event → ℕ → Bool
writes (Some (Write d v)) c = nat_eq d c
writes _ c = false

-- the position of the last write of the cell among the first n events, 0 if there is none
abbrev pub last_write : List Event → ℕ → ℕ → ℕ
last_write events c zero = 0
last_write events c (suc n) = if writes (slice_get events n) c then suc n else last_write events c n

-- the source of a read of the cell at position q: the position of the cell's last earlier write, 0
-- if there is none
abbrev pub source_at : List Event → ℕ → ℕ → ℕ
source_at events c q = last_write events c (q - 1)

-- s is 0 or an earlier position that writes the cell, and no position between s and q writes it
pub record IsLastWrite (events : List Event) (c q s : ℕ) : Type 0 where
  pub earlier : s < q
  pub written : (s ≡ 0) ⊎ Writes (event_at events s) c
  pub last : (k : ℕ) → s < k → k < q → Writes (event_at events k) c → ⊥

abbrev pub SourcesAreLastWrites : Type 0
SourcesAreLastWrites = (events : List Event) (c q : ℕ) → 1 ≤ q → IsLastWrite events c q (source_at events c q)
