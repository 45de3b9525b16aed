-- What is kept of a cell as positions of accesses, 0 for none. They stand for the accesses with their Hebrew numbers.
use Rattle.std.specs.Prelude.{⊤, ◌≡◌, ℕ, zero, suc, ◌<◌, ◌≤◌, nat_le, if◌then◌else◌, List, ◌∷◌, ◌++◌, length, slice_get}
use Rattle.cilk_tree.specs.Shape.{Shape, SpellsMarks}
use Rattle.cilk_tree.specs.Tree.{Tree, tree}
use Rattle.cilk_trace.specs.Histories.{Kept, History}
use Rattle.cilk_trace.specs.declared.line.Line.{Line}
use Rattle.cilk_trace.specs.declared.histories.Kind.{Kind}
use Rattle.cilk_trace.specs.declared.histories.Kind.TheVariants.{Read, Write, Clear}
use Rattle.cilk_trace.specs.declared.intervals.Order.{Order}
use Rattle.cilk_trace.specs.declared.intervals.Order.TheVariants as orders
use Rattle.cilk_trace.specs.declared.positions.Positions.{Positions}
use Rattle.cilk_trace.specs.Accesses.{strand_of, number}
use Rattle.cilk_trace.specs.Frames.{Nests}
use Rattle.cilk_trace.specs.Histories as histories
use Rattle.cilk_trace.specs.IntervalStacks.{IntervalStack, order_at}
use Rattle.cilk_trace.specs.Marks.{marks_of}
use Rattle.cilk_trace.specs.Joined.{stack_at, IsEntry}

-- what is kept after an access at `here`, by how the kept one is to its strand
abbrev pub raised : Order → ℕ → ℕ → ℕ
raised orders.Series at here = here
raised orders.Same at here = at
raised orders.Parallel at here = at

-- the same, where the kept one isn't parallel
abbrev pub renewed : IntervalStack → ℕ → ℕ → ℕ
renewed o at here = if nat_le at o.first then here else at

-- the kept access, if it is parallel to the current strand
abbrev pub raced : Order → ℕ → ℕ
raced orders.Series at = 0
raced orders.Same at = 0
raced orders.Parallel at = at

-- the kept access that races with one of this kind, or 0
abbrev pub raced_in : IntervalStack → Kind → Positions → ℕ
raced_in o Read p = raced (order_at o p.write) p.write
raced_in o Write p = raced (order_at o p.access) p.access
raced_in o Clear p = 0

-- what is kept of a cell after a line of this kind at `here` that races with nothing
abbrev pub after : IntervalStack → Kind → ℕ → Positions → Positions
after o Read here p = record { write = p.write; access = raised (order_at o p.access) p.access here }
after o Write here p = record { write = renewed o p.write here; access = renewed o p.access here }
after o Clear here p = record { write = 0; access = 0 }

-- how the line with index j is to the strand of the line with index n
abbrev pub IsOrder : Tree → List Line → ℕ → ℕ → Order → Type 0
IsOrder t ls j n orders.Series = number t ls j < number t ls n
IsOrder t ls j n orders.Same = strand_of ls j ≡ strand_of ls n
IsOrder t ls j n orders.Parallel = number t ls n < number t ls j

-- What is told of an earlier line that enters no frame is true in each trace that begins with these lines and one more.
abbrev pub OrderIsTold : Type 0
OrderIsTold = (s : Shape) (done more : List Line) (l : Line) → Nests 0 (done ++ l ∷ more) → SpellsMarks s (marks_of (done ++ l ∷ more)) → (j : ℕ) → j < length done
    → (IsEntry (slice_get done j) → ⊥) → IsOrder (tree s) (done ++ l ∷ more) j (length done) (order_at (stack_at done) (suc j))

-- the access that a position stands for
abbrev pub kept_at : Tree → List Line → ℕ → Kept
kept_at t ls zero = histories.nothing
kept_at t ls (suc i) = record { hebrew = number t ls i; at = suc i }

-- the history that is kept of a cell
abbrev pub history_of : Tree → List Line → Positions → History
history_of t ls p = record { write = kept_at t ls p.write; access = kept_at t ls p.access }

-- the position of one of these lines, which enters no frame; or 0
abbrev pub IsPast : List Line → ℕ → Type 0
IsPast done zero = ⊤
IsPast done (suc i) = (i < length done) × (IsEntry (slice_get done i) → ⊥)

pub record ArePast (done : List Line) (p : Positions) : Type 0 where
  pub write : IsPast done p.write
  pub access : IsPast done p.access

-- The kept access that races stands for the one that races by Hebrew numbers.
abbrev pub RacesAlike : Type 0
RacesAlike = (s : Shape) (done more : List Line) (l : Line) → Nests 0 (done ++ l ∷ more) → SpellsMarks s (marks_of (done ++ l ∷ more)) → (kind : Kind) (p : Positions)
    → ArePast done p
    → kept_at (tree s) (done ++ l ∷ more) (raced_in (stack_at done) kind p)
    ≡ histories.racing kind (history_of (tree s) (done ++ l ∷ more) p) (number (tree s) (done ++ l ∷ more) (length done))

-- What is kept after a line that races with nothing stands for the history by Hebrew numbers, where the kept write has no greater one than
-- the kept access.
abbrev pub HistoriesAlike : Type 0
HistoriesAlike = (s : Shape) (done more : List Line) (l : Line) → Nests 0 (done ++ l ∷ more) → SpellsMarks s (marks_of (done ++ l ∷ more)) → (kind : Kind) (p : Positions)
    → ArePast done p → (kept_at (tree s) (done ++ l ∷ more) p.write).hebrew ≤ (kept_at (tree s) (done ++ l ∷ more) p.access).hebrew
    → raced_in (stack_at done) kind p ≡ 0
    → history_of (tree s) (done ++ l ∷ more) (after (stack_at done) kind (suc (length done)) p)
    ≡ histories.after kind (kept_at (tree s) (done ++ l ∷ more) (suc (length done))) (history_of (tree s) (done ++ l ∷ more) p)
