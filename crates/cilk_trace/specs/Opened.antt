-- The strands parallel to the current one, as a stack of intervals of lines. Lines count from 0.
use Rattle.std.specs.Prelude.{⊤, ◌≡◌, ℕ, suc, ◌<◌, ◌≤◌, ◌⊎◌, ◌↔◌, List, [], ◌∷◌, ◌++◌, length}
use Rattle.cilk_tree.specs.Shape.{Shape, SpellsMarks}
use Rattle.cilk_tree.specs.Tree.{tree}
use Rattle.cilk_tree.specs.Parallel.{Parallel}
use Rattle.cilk_trace.specs.declared.line.Line.{Line}
use Rattle.cilk_trace.specs.declared.line.Line.TheVariants as lines
use Rattle.cilk_trace.specs.Frames.{Nests}
use Rattle.cilk_trace.specs.declared.intervals.Child.{Child}
use Rattle.cilk_trace.specs.Marks.{marks_of}
use Rattle.cilk_trace.specs.Accesses.{strand_of, number}

-- a frame that waits: where the frame inside it was entered, and the children that it spawned since its last sync
pub record Frame : Type 0 where
  pub enter : ℕ
  pub children : List Child

-- The innermost frame's children since its last sync; the frames outside it, innermost first; and the first line of the current
-- strand.
pub record Open : Type 0 where
  pub children : List Child
  pub outer : List Frame
  pub first : ℕ

abbrev pub opening : Open
opening = record { children = []; outer = []; first = 0 }

abbrev pub entered : ℕ → Open → Open
entered i o = record { children = []; outer = record { enter = i; children = o.children } ∷ o.outer; first = suc i }

abbrev pub synced : ℕ → Open → Open
synced i o = record { children = []; outer = o.outer; first = suc i }

-- the innermost frame ends, and was called, or spawned
abbrev pub called : ℕ → Open → List Frame → Open
called i o [] = record { children = []; outer = []; first = suc i }
called i o (f ∷ fs) = record { children = f.children; outer = fs; first = suc i }

abbrev pub spawned : ℕ → Open → List Frame → Open
spawned i o [] = record { children = []; outer = []; first = suc i }
spawned i o (f ∷ fs) = record { children = record { enter = f.enter; spawned = i } ∷ f.children; outer = fs; first = suc i }

-- after the line with index i
abbrev pub after_line : ℕ → Line → Open → Open
after_line i (lines.Enter s) o = entered i o
after_line i lines.Spawned o = spawned i o o.outer
after_line i lines.Called o = called i o o.outer
after_line i lines.Sync o = synced i o
after_line i lines.End o = synced i o
after_line i (lines.Read c s) o = o
after_line i (lines.Write c s) o = o
after_line i (lines.Clear c) o = o
after_line i (lines.Unseen c) o = o
after_line i (lines.Create r s) o = o
after_line i (lines.Update r s) o = o
after_line i (lines.Value r s) o = o
after_line i (lines.Retire r s) o = o

-- after these lines, from index i on
abbrev pub opened_from : ℕ → Open → List Line → Open
opened_from i o [] = o
opened_from i o (l ∷ ls) = opened_from (suc i) (after_line i l o) ls

abbrev pub opened : List Line → Open
opened ls = opened_from 0 opening ls

-- line j is in one of the children
abbrev pub InChildren : List Child → ℕ → Type 0
InChildren [] j = ⊥
InChildren (k ∷ ks) j = ((k.enter < j) × (j ≤ k.spawned)) ⊎ InChildren ks j

abbrev pub InOuter : List Frame → ℕ → Type 0
InOuter [] j = ⊥
InOuter (f ∷ fs) j = InChildren f.children j ⊎ InOuter fs j

-- line j is in an open interval
abbrev pub IsOpen : Open → ℕ → Type 0
IsOpen o j = InChildren o.children j ⊎ InOuter o.outer j

-- An earlier line of a trace is in an open interval exactly where its strand is parallel to that of the line after these.
abbrev pub OpenedIsParallel : Type 0
OpenedIsParallel = (s : Shape) (done more : List Line) (l : Line) → Nests 0 (done ++ l ∷ more) → SpellsMarks s (marks_of (done ++ l ∷ more)) → (j : ℕ) → j < length done
    → IsOpen (opened done) j ↔ Parallel (tree s) 1 (strand_of (done ++ l ∷ more) j) (strand_of (done ++ l ∷ more) (length done))

-- The same, by Hebrew numbers.
abbrev pub OpenedIsGreater : Type 0
OpenedIsGreater = (s : Shape) (done more : List Line) (l : Line) → Nests 0 (done ++ l ∷ more) → SpellsMarks s (marks_of (done ++ l ∷ more)) → (j : ℕ) → j < length done
    → IsOpen (opened done) j ↔ (number (tree s) (done ++ l ∷ more) (length done) < number (tree s) (done ++ l ∷ more) j)

-- An earlier line is in the current strand exactly where it is not before `first`.
abbrev pub FirstIsCurrent : Type 0
FirstIsCurrent = (done more : List Line) → (j : ℕ) → j < length done → ((opened done).first ≤ j) ↔ (strand_of (done ++ more) j ≡ strand_of (done ++ more) (length done))

-- An earlier line has a smaller Hebrew number exactly where it is before `first` and in no open interval.
abbrev pub OthersAreLess : Type 0
OthersAreLess = (s : Shape) (done more : List Line) (l : Line) → Nests 0 (done ++ l ∷ more) → SpellsMarks s (marks_of (done ++ l ∷ more)) → (j : ℕ) → j < length done
    → (number (tree s) (done ++ l ∷ more) j < number (tree s) (done ++ l ∷ more) (length done)) ↔ ((j < (opened done).first) × (IsOpen (opened done) j → ⊥))

-- The children lie below n, the last one first, and apart.
abbrev pub Descends : ℕ → List Child → Type 0
Descends n [] = ⊤
Descends n (k ∷ ks) = (k.spawned < n) × (k.enter < k.spawned) × Descends k.enter ks

-- where the first of these children was entered; n without one
abbrev pub least : ℕ → List Child → ℕ
least n [] = n
least n (k ∷ ks) = least k.enter ks

-- each frame's children are before the frame inside it, and that is before the children inside it
abbrev pub DescendsOuter : ℕ → List Frame → Type 0
DescendsOuter n [] = ⊤
DescendsOuter n (f ∷ fs) = (f.enter < n) × Descends f.enter f.children × DescendsOuter (least f.enter f.children) fs

-- the intervals from the innermost frame outwards, the last one first, are disjoint, descend and are below n
abbrev pub IsSorted : ℕ → Open → Type 0
IsSorted n o = Descends n o.children × DescendsOuter (least n o.children) o.outer

abbrev pub OpenedIsSorted : Type 0
OpenedIsSorted = (done : List Line) → IsSorted (length done) (opened done)
