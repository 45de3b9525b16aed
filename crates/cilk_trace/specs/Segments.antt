-- What a recorder may leave out, join, split or write in another order: traces with the same lines but for accesses, in whose segments the
-- same cells are accessed and written, have the same verdict.
use Rattle.std.specs.Prelude.{◌≡◌, ℕ, zero, suc, ◌-◌, ◌↔◌, Bool, true, false, List, [], ◌∷◌, slice_get, if◌then◌else◌}
use Rattle.cilk_trace.specs.declared.line.Line.{Line}
use Rattle.cilk_trace.specs.declared.line.Line.TheVariants as lines
use Rattle.cilk_trace.specs.declared.judge.Verdict.{Verdict}
use Rattle.cilk_trace.specs.declared.judge.Verdict.TheVariants as verdicts
use Rattle.cilk_trace.specs.Accesses.{AccessesCell, WritesCell}
use Rattle.cilk_trace.specs.Judging.{IsJudged}

-- a line that is no access
abbrev pub is_other : Line → Bool
is_other (lines.Read k s) = false
is_other (lines.Write k s) = false
is_other _ = true

-- a line that begins a strand, or clears cells
abbrev pub cuts : Line → Bool
cuts (lines.Enter s) = true
cuts lines.Spawned = true
cuts lines.Called = true
cuts lines.Sync = true
cuts lines.End = true
cuts (lines.Clear k) = true
cuts _ = false

-- the lines of a sort
abbrev pub those : (Line → Bool) → List Line → List Line
those f [] = []
those f (l ∷ ls) = if f l then l ∷ those f ls else those f ls

-- how many of the first i lines are of a sort
abbrev pub before : (Line → Bool) → List Line → ℕ → ℕ
before f ls zero = 0
before f [] (suc i) = 0
before f (l ∷ ls) (suc i) = if f l then suc (before f ls i) else before f ls i

-- the lines that are no accesses, and how many of them are before the line with index i
abbrev pub others : List Line → List Line
others ls = those is_other ls

abbrev pub place : List Line → ℕ → ℕ
place ls i = before is_other ls i

-- A segment is a stretch of lines between two that cut. This is the number of the one in which the line with index i is, from 0.
abbrev pub segment : List Line → ℕ → ℕ
segment ls i = before cuts ls i

-- a line of this segment accesses, or writes, the cell
abbrev pub AccessesIn : List Line → ℕ → ℕ → Type 0
AccessesIn ls k c = (i : ℕ) × AccessesCell (slice_get ls i) c × (segment ls i ≡ k)

abbrev pub WritesIn : List Line → ℕ → ℕ → Type 0
WritesIn ls k c = (i : ℕ) × WritesCell (slice_get ls i) c × (segment ls i ≡ k)

-- The traces have the same lines but for accesses, and in each segment the same cells are written, and the same ones are read or written. So
-- a read beside a write of the same cells may be left out, and any access beside an equal one.
pub record HaveAlikeSegments (ls ms : List Line) : Type 0 where
  pub others : others ls ≡ others ms
  pub accesses : (k c : ℕ) → AccessesIn ls k c ↔ AccessesIn ms k c
  pub writes : (k c : ℕ) → WritesIn ls k c ↔ WritesIn ms k c

-- Verdicts on two such traces are the same: both are race-free, with as many lines `unseen`; or both have a first race of accesses, whose
-- later one is in the same segment; or both have the same first view-read race.
abbrev pub IsSameVerdict : List Line → List Line → Verdict → Verdict → Type 0
IsSameVerdict ls ms (verdicts.RaceFree m) (verdicts.RaceFree n) = m ≡ n
IsSameVerdict ls ms (verdicts.Race p q) (verdicts.Race p' q') = segment ls (q - 1) ≡ segment ms (q' - 1)
IsSameVerdict ls ms (verdicts.ViewRace p q) (verdicts.ViewRace p' q') = (place ls (p - 1) ≡ place ms (p' - 1)) × (place ls (q - 1) ≡ place ms (q' - 1))
IsSameVerdict ls ms _ _ = ⊥

-- traces whose segments are alike have the same verdict
abbrev pub SegmentsDecide : Type 0
SegmentsDecide = (ls ms : List Line) → HaveAlikeSegments ls ms → (v w : Verdict) → IsJudged ls v → IsJudged ms w → IsSameVerdict ls ms v w
