-- The strands of positions.
use Rattle.std.proofs.Common.{◌≡◌, ℕ, zero, suc, ◌+◌, ◌<◌, ◌≤◌, List, [], ◌∷◌, ◌++◌, length, get_or, map, Option, Some, None, refl, ap, subst, arith, inl, inr, ◌↔◌}
use Rattle.std.proofs.lemmas.Bool.{cases_lt}
use Rattle.cilk_types.specs.declared.event.Event.{Event}
use Rattle.cilk_tree.specs.declared.mark.Mark.{Mark}
use Rattle.cilk_tree.specs.declared.mark.Mark.TheVariants.{Begin, Resume}
use Rattle.cilk_tree.specs.Marks.{mark_of, begun_by}
use Rattle.cilk_types.specs.declared.invocation.Invocation.{Invocation}
use Rattle.cilk_types.specs.declared.invocation.Invocation.TheVariants as invocations
use Rattle.cilk_tree.specs.Shape.{Shape, finish, act, sync, child, start_of, marks, Spells}
use Rattle.cilk_tree.specs.Tree.{Tree, strand, then_later, beside, Rest, block, blocks, rest_of, tree, leaves}
use Rattle.cilk_tree.specs.Parallel.{Holds, Parallel}
use Rattle.cilk_tree.specs.Hebrew.{hebrew}
use Rattle.cilk_tree.specs.Races.{strand_at}
use Rattle.cilk_tree.proofs.Order.{parallel_by_order, not_to_itself}

-- how many strands these events begin
abbrev pub count : List Mark → ℕ
count [] = 0
count (m ∷ ms) = begun_by m + count ms

pub count-append : (xs ys : List Mark) → count (xs ++ ys) ≡ count xs + count ys
count-append [] ys = omega arith
count-append (x ∷ xs) ys = let h = count-append xs ys in omega (arith, h)

abbrev pub number : Option Tree → ℕ
number None = 0
number (Some t) = leaves t

pub leaves-then_later : (t : Tree) (o : Option Tree) → leaves (then_later t o) ≡ leaves t + number o
leaves-then_later t None = omega arith
leaves-then_later t (Some l) = refl

pub leaves-block : (x : Rest) → leaves (block x) ≡ 1 + number x.after
leaves-block x = leaves-then_later (strand (suc x.events)) x.after

pub leaves-blocks : (x : Rest) → leaves (blocks x) ≡ 1 + number x.after + number x.later
leaves-blocks x = let p = leaves-then_later (block x) x.later in let q = leaves-block x in omega (arith, p, q)

pub leaves-beside : (k : Invocation) (a b : Tree) → leaves (beside k a b) ≡ leaves a + leaves b
leaves-beside invocations.Call a b = refl
leaves-beside invocations.Spawn a b = refl

pub begun-start_of : (k : Invocation) → begun_by (start_of k) ≡ 0
begun-start_of invocations.Call = refl
begun-start_of invocations.Spawn = refl

pub count-marks : (r : Shape) → count (marks r) ≡ number (rest_of r).after + number (rest_of r).later
count-marks finish = refl
count-marks (act r) = let h = count-marks r in omega (arith, h)
count-marks (sync r) = let h = count-marks r in let p = leaves-blocks (rest_of r) in omega (arith, h, p)
count-marks (child k u r) =
    let h = count-marks r in
    let i = count-marks u in
    let a = count-append (marks u) (Resume ∷ marks r) in
    let b = begun-start_of k in
    let p = leaves-beside k (blocks (rest_of u)) (block (rest_of r)) in
    let q = leaves-blocks (rest_of u) in
    let s = leaves-block (rest_of r) in
    omega (arith, h, i, a, b, p, q, s)

pub count-shape : (s : Shape) → count (Begin ∷ marks s) ≡ leaves (tree s)
count-shape s = let h = count-marks s in let p = leaves-blocks (rest_of s) in omega (arith, h, p)

-- strands of positions stay within the count
within_count : (es : List Event) (p : ℕ) → strand_at es p ≤ count (map mark_of es)
within_count [] p = omega arith
within_count (e ∷ es) zero = omega arith
within_count (e ∷ es) (suc p) = let h = within_count es p in omega (arith, h)

pub strand_grows : (es : List Event) (p q : ℕ) → p ≤ q → strand_at es p ≤ strand_at es q
strand_grows [] p q l = omega arith
strand_grows (e ∷ es) zero q l = omega arith
strand_grows (e ∷ es) (suc p) zero l = absurd (omega (arith, l))
strand_grows (e ∷ es) (suc p) (suc q) l = let h = strand_grows es p q (omega (arith, l)) in omega (arith, h)

pub strand_zero : (es : List Event) → strand_at es 0 ≡ 0
strand_zero [] = refl
strand_zero (e ∷ es) = refl

pub strand_next : (es : List Event) (i : ℕ) (d : Event) → i < length es → strand_at es (i + 1) ≡ strand_at es i + begun_by (mark_of (get_or es i d))
strand_next [] i d l = absurd (omega (arith, l))
strand_next (e ∷ es) zero d l =
    let P = λ (k : ℕ). strand_at (e ∷ es) k ≡ 0 + begun_by (mark_of e) in
    let z : suc 0 ≡ 0 + 1 = omega arith in
    subst P z (let f = strand_zero es in omega (arith, f))
strand_next (e ∷ es) (suc i) d l =
    let h = strand_next es i d (omega (arith, l)) in
    let z : suc (i + 1) ≡ suc i + 1 = omega arith in
    subst (λ (k : ℕ). strand_at (e ∷ es) k ≡ strand_at (e ∷ es) (suc i) + begun_by (mark_of (get_or es i d))) z (omega (arith, h))

first_strand : (es : List Event) (ms : List Mark) → map mark_of es ≡ Begin ∷ ms → (p : ℕ) → 1 ≤ p → 1 ≤ strand_at es p
first_strand [] ms h p l = absurd (let q : [] ≡ Begin ∷ ms = h in cc q)
first_strand (e ∷ es) ms h zero l = absurd (omega (arith, l))
first_strand (e ∷ es) ms h (suc p) l =
    let q : mark_of e ≡ Begin = cc h in
    let b = ap begun_by q in omega (arith, b)

-- each position's strand is a leaf of the tree
pub strand_held : (s : Shape) (es : List Event) → Spells s es → (p : ℕ) → 1 ≤ p → Holds (tree s) 1 (strand_at es p)
strand_held s es sp p l =
    let w = within_count es p in
    let c = ap count sp in
    let n = count-shape s in
    (first_strand es (marks s) sp p l, omega (arith, w, c, n))

-- for positions in serial order: parallel is to have a greater Hebrew number
pub parallel_positions : (s : Shape) (es : List Event) → Spells s es → (p q : ℕ) → 1 ≤ p → p < q
    → (hebrew (tree s) (strand_at es q) < hebrew (tree s) (strand_at es p)) ↔ Parallel (tree s) 1 (strand_at es p) (strand_at es q)
parallel_positions s es sp p q l m =
    let a = strand_held s es sp p l in
    let b = strand_held s es sp q (omega (arith, l, m)) in
    let g = strand_grows es p q (omega (arith, m)) in
    elim (cases_lt (strand_at es p) (strand_at es q)) [
      | inl k ↦ parallel_by_order (tree s) (strand_at es p) (strand_at es q) a b k
      | inr k ↦ (let e : strand_at es p ≡ strand_at es q = omega (arith, g, k) in
          let f = ap (λ (x : ℕ). hebrew (tree s) x) e in
          ((λ h. absurd (omega (arith, h, f))), λ h. absurd (not_to_itself (tree s) 1 (strand_at es q) (subst (λ (x : ℕ). Parallel (tree s) 1 x (strand_at es q)) e h))))
    ]
