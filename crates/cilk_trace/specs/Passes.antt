-- The pass over a trace's lines that looks for races.
use Rattle.std.specs.Prelude.{⊤, ◌≡◌, ℕ, ◌+◌, ◌-◌, ◌<◌, ◌≤◌, ◌⊎◌, List, ◌++◌, length}
use Rattle.cilk_tree.specs.Shape.{Shape, SpellsMarks}
use Rattle.cilk_tree.specs.Tree.{Tree, tree}
use Rattle.cilk_trace.specs.declared.line.Line.{Line}
use Rattle.cilk_trace.specs.declared.line.Line.TheVariants as lines
use Rattle.cilk_trace.specs.declared.line.Cells.{Cells}
use Rattle.cilk_trace.specs.declared.histories.Kind.{Kind}
use Rattle.cilk_trace.specs.declared.histories.Kind.TheVariants as kinds
use Rattle.cilk_trace.specs.declared.positions.Positions.{Positions}
use Rattle.cilk_trace.specs.Accesses.{number, clears, AccessesAt, WritesAt, IsTraceRace}
use Rattle.cilk_trace.specs.Frames.{Nests}
use Rattle.cilk_trace.specs.Histories.{Kept, History}
use Rattle.cilk_trace.specs.IntervalStacks.{IntervalStack}
use Rattle.cilk_trace.specs.Marks.{marks_of}
use Rattle.cilk_trace.specs.Joined.{stack_at}
use Rattle.cilk_trace.specs.Positions.{ArePast, history_of}

-- Of the indices below i that have P, the one of greatest number, at equal numbers the earliest. A position is an index plus one.
pub record IsGreatest (P : ℕ → Type 0) (H : ℕ → ℕ) (i : ℕ) (k : Kept) : Type 0 where
  pub held : 0 < k.hebrew → (1 ≤ k.at) × (k.at ≤ i) × P (k.at - 1) × (k.hebrew ≡ H (k.at - 1))
  pub most : (j : ℕ) → j < i → P j → (H j < k.hebrew) ⊎ ((H j ≡ k.hebrew) × (k.at ≤ j + 1))

-- The state before the line with index i: of each cell the greatest write and access since it was cleared last. No line before it ends a
-- race.
pub record Standing (t : Tree) (ls : List Line) (i : ℕ) (hs : ℕ → History) : Type 0 where
  pub writes : (c : ℕ) → IsGreatest (WritesAt ls c (clears ls c i)) (number t ls) i (hs c).write
  pub accesses : (c : ℕ) → IsGreatest (AccessesAt ls c (clears ls c i)) (number t ls) i (hs c).access
  pub clean : (p q : ℕ) → q ≤ i → IsTraceRace t ls p q → ⊥

-- what a line does to its cells
abbrev pub Does : Line → Kind → Cells → Type 0
Does (lines.Read k s) kinds.Read c = k ≡ c
Does (lines.Write k s) kinds.Write c = k ≡ c
Does (lines.Clear k) kinds.Clear c = k ≡ c
Does _ _ c = ⊥

-- whether a line neither accesses nor clears a cell
abbrev pub IsIdle : Line → Type 0
IsIdle (lines.Read k s) = ⊥
IsIdle (lines.Write k s) = ⊥
IsIdle (lines.Clear k) = ⊥
IsIdle _ = ⊤

-- The pass over a trace of this shape has taken its first lines: these intervals are open, and positions of these lines are kept, which
-- stand for histories.
pub record IsBefore (s : Shape) (done more : List Line) (o : IntervalStack) (ps : ℕ → Positions) : Type 0 where
  pub nests : Nests 0 (done ++ more)
  pub spells : SpellsMarks s (marks_of (done ++ more))
  pub intervals : o ≡ stack_at done
  pub within : (c : ℕ) → ArePast done (ps c)
  pub standing : Standing (tree s) (done ++ more) (length done) (λ c. history_of (tree s) (done ++ more) (ps c))
