-- Which lines of a trace access which locations, in which strands, and which of them race.
use Rattle.std.specs.Prelude.{◌≡◌, ℕ, zero, suc, ◌+◌, ◌-◌, ◌<◌, ◌≤◌, List, [], ◌∷◌, Bool, ◌&&◌, nat_le, nat_lt, Option, Some, slice_get, if◌then◌else◌}
use Rattle.cilk_tree.specs.Tree.{Tree}
use Rattle.cilk_tree.specs.Hebrew.{hebrew}
use Rattle.cilk_tree.specs.Races.{Clash, IsFirstClash}
use Rattle.cilk_trace.specs.declared.line.Cells.{Cells}
use Rattle.cilk_trace.specs.declared.line.Line.{Line}
use Rattle.cilk_trace.specs.declared.line.Line.TheVariants as lines

-- How many strands a line begins. A frame syncs before it ends, and then its parent resumes.
abbrev pub begun_in : Line → ℕ
begun_in (lines.Enter s) = 1
begun_in lines.Spawned = 2
begun_in lines.Called = 2
begun_in lines.Sync = 1
begun_in lines.End = 1
begun_in (lines.Read k s) = 0
begun_in (lines.Write k s) = 0
begun_in (lines.Clear k) = 0
begun_in (lines.Unseen k) = 0
begun_in (lines.Create r s) = 0
begun_in (lines.Update r s) = 0
begun_in (lines.Value r s) = 0
begun_in (lines.Retire r s) = 0

-- the strand of the line with index i, if that is an access: the trace begins strand 1
abbrev pub strand_of : List Line → ℕ → ℕ
strand_of ls zero = 1
strand_of [] (suc i) = 1
strand_of (l ∷ ls) (suc i) = begun_in l + strand_of ls i

-- the Hebrew number of the strand of the line with index i
abbrev pub number : Tree → List Line → ℕ → ℕ
number t ls i = hebrew t (strand_of ls i)

abbrev pub Covers : Cells → ℕ → Type 0
Covers k c = (k.first ≤ c) × (c < k.first + k.count)

abbrev pub covers : Cells → ℕ → Bool
covers k c = nat_le k.first c && nat_lt c (k.first + k.count)

abbrev pub cleared_in : Line → ℕ → ℕ
cleared_in (lines.Clear k) c = if covers k c then 1 else 0
cleared_in _ c = 0

-- how many of the first i lines clear the cell
abbrev pub clears : List Line → ℕ → ℕ → ℕ
clears ls c zero = 0
clears [] c (suc i) = 0
clears (l ∷ ls) c (suc i) = cleared_in l c + clears ls c i

-- A location: a cell, between two lines that clear it.
pub record Location : Type 0 where
  pub cell : ℕ
  pub age : ℕ

abbrev pub AccessesCell : Option Line → ℕ → Type 0
AccessesCell (Some (lines.Read k s)) c = Covers k c
AccessesCell (Some (lines.Write k s)) c = Covers k c
AccessesCell _ c = ⊥

abbrev pub WritesCell : Option Line → ℕ → Type 0
WritesCell (Some (lines.Write k s)) c = Covers k c
WritesCell _ c = ⊥

-- the line with index i accesses or writes the cell at this age
abbrev pub AccessesAt : List Line → ℕ → ℕ → ℕ → Type 0
AccessesAt ls c age i = AccessesCell (slice_get ls i) c × (clears ls c i ≡ age)

abbrev pub WritesAt : List Line → ℕ → ℕ → ℕ → Type 0
WritesAt ls c age i = WritesCell (slice_get ls i) c × (clears ls c i ≡ age)

-- Positions count lines from 1, without the header.
abbrev pub strand_at : List Line → ℕ → ℕ
strand_at ls p = strand_of ls (p - 1)

abbrev pub Accesses : List Line → ℕ → Location → Type 0
Accesses ls p o = AccessesAt ls o.cell o.age (p - 1)

abbrev pub Writes : List Line → ℕ → Location → Type 0
Writes ls p o = WritesAt ls o.cell o.age (p - 1)

-- two accesses of one location, at least one of them a write, by parallel strands
abbrev pub IsTraceRace : Tree → List Line → ℕ → ℕ → Type 0
IsTraceRace t ls = Clash Location t (strand_at ls) (Accesses ls) (Writes ls)

-- the same, of this cell
abbrev pub IsCellRace : Tree → List Line → ℕ → ℕ → ℕ → Type 0
IsCellRace t ls c = Clash ℕ t (strand_at ls) (λ p age. AccessesAt ls c age (p - 1)) (λ p age. WritesAt ls c age (p - 1))

-- the first race of a cell
abbrev pub IsFirstCellRace : Tree → List Line → ℕ → ℕ → ℕ → Type 0
IsFirstCellRace t ls c = IsFirstClash ℕ t (strand_at ls) (λ p age. AccessesAt ls c age (p - 1)) (λ p age. WritesAt ls c age (p - 1))

-- The first race of a trace: it is the first one of its cell, no race ends earlier, and none that ends here is of a lesser cell.
pub record IsFirstTraceRace (t : Tree) (ls : List Line) (p q : ℕ) : Type 0 where
  pub cell : ℕ
  pub first : IsFirstCellRace t ls cell p q
  pub least : (p' q' : ℕ) → IsTraceRace t ls p' q' → q ≤ q'
  pub least_cell : (c p' : ℕ) → IsCellRace t ls c p' q → cell ≤ c

-- no two lines race
abbrev pub HasNoTraceRace : Tree → List Line → Type 0
HasNoTraceRace t ls = (p q : ℕ) → IsTraceRace t ls p q → ⊥
