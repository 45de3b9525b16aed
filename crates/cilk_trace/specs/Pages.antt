-- What is kept of the cells of a trace, by pages.
use Rattle.std.specs.Prelude.{◌≡◌, ℕ, ◌-◌, ◌/◌, ◌%◌, ◌^◌, ◌<◌, List, Option, Some, None, slice_get, slice_index_or}
use Rattle.cilk_trace.specs.declared.histories.Kind.{Kind}
use Rattle.cilk_trace.specs.declared.histories.Page.{Page}
use Rattle.cilk_trace.specs.declared.line.Cells.{Cells}
use Rattle.cilk_trace.specs.declared.positions.Positions.{Positions}
use Rattle.cilk_trace.specs.Accesses.{Covers}
use Rattle.cilk_trace.specs.IntervalStacks.{IntervalStack}
use Rattle.cilk_trace.specs.Positions.{after, raced_in}

-- what is kept of a cell without an access
abbrev pub none : Positions
none = record { write = 0; access = 0 }

-- what is kept at a place of a page, nothing past the last
abbrev pub positions_at : List Positions → ℕ → Positions
positions_at ps c = slice_index_or ps c (record { write = 0; access = 0 })

-- what a page keeps of the cell at this place: the 2 ^ shift cells of a grain have one history
abbrev pub kept_by : Page → ℕ → Positions
kept_by page place = positions_at page.grains.items (place / 2 ^ page.shift)

-- the same, if there is a page
abbrev pub kept_in : Option Page → ℕ → Positions
kept_in None place = none
kept_in (Some page) place = kept_by page place

-- what is kept of a cell: a page has 4,096
abbrev pub positions_of : List Page → ℕ → Positions
positions_of pages c = kept_in (slice_get pages (c / 4096)) (c % 4096)

-- Grains of 2 ^ shift cells begin at both places.
pub record IsParted (shift from to : ℕ) : Type 0 where
  pub first : from % 2 ^ shift ≡ 0
  pub last : to % 2 ^ shift ≡ 0

-- the cells from one on, up to another
abbrev pub part : ℕ → ℕ → Cells
part from to = record { first = from; count = to - from }

-- A line that races with nothing did this to its cells, and nothing to others, by what was kept before and is after.
pub record AreMet (o : IntervalStack) (kind : Kind) (here : ℕ) (k : Cells) (old new : ℕ → Positions) : Type 0 where
  pub covered : (c : ℕ) → Covers k c → new c ≡ after o kind here (old c)
  pub others : (c : ℕ) → (Covers k c → ⊥) → new c ≡ old c

-- Of the kept accesses of these cells that race with one of this kind, that of the first cell with one; or 0.
pub record IsLeastRace (o : IntervalStack) (kind : Kind) (k : Cells) (ps : ℕ → Positions) (raced : ℕ) : Type 0 where
  pub clean : raced ≡ 0 → (c : ℕ) → Covers k c → raced_in o kind (ps c) ≡ 0
  pub found : 0 < raced → (c : ℕ) × Covers k c × (raced_in o kind (ps c) ≡ raced) × ((d : ℕ) → Covers k d → d < c → raced_in o kind (ps d) ≡ 0)
