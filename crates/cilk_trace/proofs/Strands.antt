-- The strands of a trace's lines, and how many lines clear a cell.
use Rattle.std.proofs.Common.{◌≡◌, ℕ, zero, suc, ◌+◌, ◌<◌, ◌≤◌, List, [], ◌∷◌, ◌++◌, length, refl, sym, ◌∙◌, ap, subst, arith, Option, Some, None, slice_get, inl, inr}
use Rattle.std.specs.Prelude.{◌↔◌}
use Rattle.std.proofs.lemmas.Bool.{cases_lt}
use Rattle.cilk_types.specs.declared.invocation.Invocation.{Invocation}
use Rattle.cilk_tree.specs.declared.mark.Mark.{Mark}
use Rattle.cilk_tree.specs.declared.mark.Mark.TheVariants.{Begin, End, Sync, Resume, Spawn, Call, Plain}
use Rattle.cilk_tree.specs.Marks.{begun_by}
use Rattle.cilk_tree.specs.Shape.{Shape, SpellsMarks}
use Rattle.cilk_tree.specs.Tree.{tree}
use Rattle.cilk_tree.specs.Parallel.{Holds, Parallel}
use Rattle.cilk_tree.specs.Hebrew.{hebrew}
use Rattle.cilk_tree.proofs.Strands.{count, count-append, count-shape, begun-start_of}
use Rattle.cilk_tree.proofs.Order.{parallel_by_order, not_to_itself, bounds}
use Rattle.cilk_trace.specs.declared.line.Line.{Line}
use Rattle.cilk_trace.specs.declared.line.Line.TheVariants as lines
use Rattle.cilk_trace.specs.Frames.{ends}
use Rattle.cilk_trace.specs.Marks.{started, marks_at, marks_after, marks_of}
use Rattle.cilk_trace.specs.Accesses.{begun_in, strand_of, cleared_in, clears, number}

clears_none : (ls : List Line) (c : ℕ) → clears ls c 0 ≡ 0
clears_none [] c = refl
clears_none (l ∷ ls) c = refl

pub clears_next : (ls : List Line) (c i : ℕ) (l : Line) → slice_get ls i ≡ Some l → clears ls c (suc i) ≡ clears ls c i + cleared_in l c
clears_next [] c i l h = absurd (let q : None ≡ Some l = h in cc q)
clears_next (k ∷ ls) c zero l h =
    let e : k ≡ l = cc h in
    subst (λ (m : Line). cleared_in k c + clears ls c 0 ≡ 0 + cleared_in m c) e (let z = clears_none ls c in omega (arith, z))
clears_next (k ∷ ls) c (suc i) l h = let r = clears_next ls c i l h in omega (arith, r)

pub clears_grow : (ls : List Line) (c j i : ℕ) → j ≤ i → clears ls c j ≤ clears ls c i
clears_grow ls c zero i le = let z = clears_none ls c in omega (arith, z)
clears_grow [] c (suc j) zero le = absurd (omega (arith, le))
clears_grow [] c (suc j) (suc i) le = omega arith
clears_grow (l ∷ ls) c (suc j) zero le = absurd (omega (arith, le))
clears_grow (l ∷ ls) c (suc j) (suc i) le = let r = clears_grow ls c j i (omega (arith, le)) in omega (arith, r)

pub strand_first : (ls : List Line) → strand_of ls 0 ≡ 1
strand_first [] = refl
strand_first (l ∷ ls) = refl

pub strand_next : (ls : List Line) (i : ℕ) (l : Line) → slice_get ls i ≡ Some l → strand_of ls (suc i) ≡ strand_of ls i + begun_in l
strand_next [] i l h = absurd (let q : None ≡ Some l = h in cc q)
strand_next (k ∷ ls) zero l h =
    let e : k ≡ l = cc h in
    subst (λ (m : Line). begun_in k + strand_of ls 0 ≡ 1 + begun_in m) e (let z = strand_first ls in omega (arith, z))
strand_next (k ∷ ls) (suc i) l h = let r = strand_next ls i l h in omega (arith, r)

pub strand_positive : (ls : List Line) (i : ℕ) → 1 ≤ strand_of ls i
strand_positive ls zero = let z = strand_first ls in omega (arith, z)
strand_positive [] (suc i) = omega arith
strand_positive (l ∷ ls) (suc i) = let r = strand_positive ls i in omega (arith, r)

pub strand_grows : (ls : List Line) (j i : ℕ) → j ≤ i → strand_of ls j ≤ strand_of ls i
strand_grows ls zero i le = let z = strand_first ls in let p = strand_positive ls i in omega (arith, z, p)
strand_grows [] (suc j) zero le = absurd (omega (arith, le))
strand_grows [] (suc j) (suc i) le = omega arith
strand_grows (l ∷ ls) (suc j) zero le = absurd (omega (arith, le))
strand_grows (l ∷ ls) (suc j) (suc i) le = let r = strand_grows ls j i (omega (arith, le)) in omega (arith, r)

begun-started : (o : Option Invocation) → begun_by (started o) ≡ 0
begun-started None = refl
begun-started (Some how) = begun-start_of how

begun_marks : (l : Line) (ls : List Line) → count (marks_at l ls) ≡ begun_in l
begun_marks (lines.Enter s) ls = let b = begun-started (ends 0 ls) in omega (arith, b)
begun_marks lines.Spawned ls = refl
begun_marks lines.Called ls = refl
begun_marks lines.Sync ls = refl
begun_marks lines.End ls = refl
begun_marks (lines.Read k s) ls = refl
begun_marks (lines.Write k s) ls = refl
begun_marks (lines.Clear k) ls = refl
begun_marks (lines.Unseen k) ls = refl
begun_marks (lines.Create r s) ls = refl
begun_marks (lines.Update r s) ls = refl
begun_marks (lines.Value r s) ls = refl
begun_marks (lines.Retire r s) ls = refl

strands_within : (ls : List Line) (i : ℕ) → strand_of ls i ≤ 1 + count (marks_after ls)
strands_within ls zero = let z = strand_first ls in omega (arith, z)
strands_within [] (suc i) = omega arith
strands_within (l ∷ ls) (suc i) =
    let r = strands_within ls i in let b = begun_marks l ls in let a = count-append (marks_at l ls) (marks_after ls) in omega (arith, r, b, a)

-- each line's strand is a leaf of the tree
pub strand_held : (s : Shape) (ls : List Line) → SpellsMarks s (marks_of ls) → (i : ℕ) → Holds (tree s) 1 (strand_of ls i)
strand_held s ls sp i =
    let w = strands_within ls i in let c = ap count sp in let n = count-shape s in
    (strand_positive ls i, omega (arith, w, c, n))

pub number_positive : (s : Shape) (ls : List Line) → SpellsMarks s (marks_of ls) → (i : ℕ) → 1 ≤ number (tree s) ls i
number_positive s ls sp i = (bounds (tree s) 1 1 (strand_of ls i) (strand_held s ls sp i)).0

-- for lines in their order: parallel is to have a greater Hebrew number
pub parallel_lines : (s : Shape) (ls : List Line) → SpellsMarks s (marks_of ls) → (j i : ℕ) → j < i
    → (number (tree s) ls i < number (tree s) ls j) ↔ Parallel (tree s) 1 (strand_of ls j) (strand_of ls i)
parallel_lines s ls sp j i m =
    let a = strand_held s ls sp j in
    let b = strand_held s ls sp i in
    let g = strand_grows ls j i (omega (arith, m)) in
    elim (cases_lt (strand_of ls j) (strand_of ls i)) [
      | inl k ↦ parallel_by_order (tree s) (strand_of ls j) (strand_of ls i) a b k
      | inr k ↦ (let e : strand_of ls j ≡ strand_of ls i = omega (arith, g, k) in
          let f = ap (λ (x : ℕ). hebrew (tree s) x) e in
          ((λ h. absurd (omega (arith, h, f))), λ h. absurd (not_to_itself (tree s) 1 (strand_of ls i) (subst (λ (x : ℕ). Parallel (tree s) 1 x (strand_of ls i)) e h))))
    ]

-- a strand of the first lines
pub strand_front : (ls more : List Line) (i : ℕ) → i ≤ length ls → strand_of (ls ++ more) i ≡ strand_of ls i
strand_front ls more zero le = strand_first (ls ++ more) ∙ sym (strand_first ls)
strand_front [] more (suc i) le = absurd (omega (arith, le))
strand_front (l ∷ ls) more (suc i) le = ap (λ (n : ℕ). begun_in l + n) (strand_front ls more i (omega (arith, le)))

begun_one : (m : Mark) → begun_by m ≤ 1
begun_one Begin = omega arith
begun_one End = omega arith
begun_one Sync = omega arith
begun_one Resume = omega arith
begun_one Spawn = omega arith
begun_one Call = omega arith
begun_one Plain = omega arith

count_marks : (ms : List Mark) → count ms ≤ length ms
count_marks [] = omega arith
count_marks (m ∷ ms) = let c = count_marks ms in let b = begun_one m in omega (arith, c, b)

-- strands are no more than marks
pub strands_few : (ls : List Line) (i : ℕ) → strand_of ls i ≤ length (marks_of ls)
strands_few ls i = let w = strands_within ls i in let c = count_marks (marks_after ls) in omega (arith, w, c)
