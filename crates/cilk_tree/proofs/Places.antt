-- Positions in a tree: each subtree's events are consecutive, so two positions are parallel exactly
-- where they are on the two sides of a P node.
use Rattle.std.proofs.Common.{◌≡◌, ℕ, zero, suc, ◌+◌, ◌-◌, ◌<◌, ◌≤◌, List, [], ◌∷◌, ◌++◌, length, map, get_or, replicate, Option, Some, None, refl, sym, ◌∙◌, ap, subst, arith, ◌⊎◌, inl, inr, ◌↔◌}
use Rattle.std.proofs.lemmas.Bool.{cases_lt}
use Rattle.std.proofs.lemmas.List.{append_assoc, append-nil, length-append, length-replicate, get_or-replicate, length-map}
use Rattle.cilk_types.specs.declared.event.Event.{Event}
use Rattle.cilk_tree.specs.declared.mark.Mark.{Mark}
use Rattle.cilk_tree.specs.declared.mark.Mark.TheVariants.{Begin, Resume}
use Rattle.cilk_tree.specs.Marks.{mark_of, begun_by}
use Rattle.cilk_types.specs.declared.invocation.Invocation.{Invocation}
use Rattle.cilk_types.specs.declared.invocation.Invocation.TheVariants as invocations
use Rattle.cilk_tree.specs.Shape.{Shape, finish, act, sync, child, start_of, marks, Spells}
use Rattle.cilk_tree.specs.Tree.{Tree, strand, series, parallel, then_later, beside, Rest, block, blocks, rest_of, tree, leaves}
use Rattle.cilk_tree.specs.Parallel.{Holds, Parallel}
use Rattle.cilk_tree.specs.Races.{strand_at}
use Rattle.cilk_tree.specs.Before.{IsPosition, IsBefore}
use Rattle.cilk_tree.proofs.Order.{at, at_left, at_right, not_to_itself, series_left, series_right, series_across, parallel_left, parallel_right}
use Rattle.cilk_tree.proofs.Strands.{count, number, leaves-beside, begun-start_of, count-marks, leaves-block, leaves-blocks, strand_zero, strand_grows, strand_held}
use Rattle.cilk_tree.proofs.Before.{ordered, not_both, before_or_parallel}

-- the number of events of a tree
abbrev pub size : Tree → ℕ
size (strand n) = n
size (series a b) = size a + size b
size (parallel a b) = size a + size b

-- the leaf of each event in serial order, where leaves are counted from o
abbrev pub strands : Tree → ℕ → List ℕ
strands (strand n) o = replicate n o
strands (series a b) o = strands a o ++ strands b (o + leaves a)
strands (parallel a b) o = strands a o ++ strands b (o + leaves a)

pub length-strands : (t : Tree) (o : ℕ) → length (strands t o) ≡ size t
length-strands (strand n) o = length-replicate n o
length-strands (series a b) o = let p = length-strands a o in let q = length-strands b (o + leaves a) in let l = length-append (strands a o) (strands b (o + leaves a)) in omega (arith, p, q, l)
length-strands (parallel a b) o = let p = length-strands a o in let q = length-strands b (o + leaves a) in let l = length-append (strands a o) (strands b (o + leaves a)) in omega (arith, p, q, l)

-- p is one of n positions from e
abbrev pub Lies : ℕ → ℕ → ℕ → Type 0
Lies e n p = (e ≤ p) × (p < e + n)

pub lies_in : (e n m p : ℕ) → Lies e (n + m) p → Lies e n p ⊎ Lies (e + n) m p
lies_in e n m p (l, k) = elim (cases_lt p (e + n)) [ inl x ↦ inl (l, x) | inr x ↦ inr (x, omega (arith, k)) ]

-- p is left of q under a P node that is the lowest above both; events are counted from e
abbrev pub Beside : Tree → ℕ → ℕ → ℕ → Type 0
Beside (strand n) e p q = ⊥
Beside (series a b) e p q = Beside a e p q ⊎ Beside b (e + size a) p q
Beside (parallel a b) e p q = Beside a e p q ⊎ Beside b (e + size a) p q ⊎ (Lies e (size a) p × Lies (e + size a) (size b) q)

pub record Bounded (t : Tree) (e p q : ℕ) : Type 0 where
  pub low : e ≤ p
  pub less : p < q
  pub high : q < e + size t

pub bounded : (t : Tree) (e p q : ℕ) → Beside t e p q → Bounded t e p q
bounded (strand n) e p q h = absurd h
bounded (series a b) e p q (inl h) = let k = bounded a e p q h in let x = k.high in record { low = k.low; less = k.less; high = omega (arith, x) }
bounded (series a b) e p q (inr h) = let k = bounded b (e + size a) p q h in let x = k.low in let y = k.high in record { low = omega (arith, x); less = k.less; high = omega (arith, y) }
bounded (parallel a b) e p q (inl h) = let k = bounded a e p q h in let x = k.high in record { low = k.low; less = k.less; high = omega (arith, x) }
bounded (parallel a b) e p q (inr (inl h)) = let k = bounded b (e + size a) p q h in let x = k.low in let y = k.high in record { low = omega (arith, x); less = k.less; high = omega (arith, y) }
bounded (parallel a b) e p q (inr (inr (x, y))) = record { low = omega (arith, x); less = omega (arith, x, y); high = omega (arith, y) }

-- the leaf of a position
abbrev pub leaf : Tree → ℕ → ℕ → ℕ → ℕ
leaf t o e p = at (strands t o) e p

pub leaf_left : (a b : Tree) (o e p : ℕ) → Lies e (size a) p → at (strands a o ++ strands b (o + leaves a)) e p ≡ leaf a o e p
leaf_left a b o e p (l, k) = at_left (strands a o) (strands b (o + leaves a)) e p l (let n = length-strands a o in omega (arith, n, k))

pub leaf_right : (a b : Tree) (o e p : ℕ) → Lies (e + size a) (size b) p → at (strands a o ++ strands b (o + leaves a)) e p ≡ leaf b (o + leaves a) (e + size a) p
leaf_right a b o e p (l, k) = at_right (strands a o) (strands b (o + leaves a)) e (size a) p (length-strands a o) l

pub leaf_held : (t : Tree) (o e p : ℕ) → Lies e (size t) p → Holds t o (leaf t o e p)
leaf_held (strand n) o e p (l, k) =
    let x : at (replicate n o) e p ≡ o = get_or-replicate n (p - e) o 0 (omega (arith, l, k)) in
    (omega (arith, x), omega (arith, x))
leaf_held (series a b) o e p h =
    elim (lies_in e (size a) (size b) p h) [
      | inl i ↦ (let x = leaf_left a b o e p i in let y = leaf_held a o e p i in (omega (arith, x, y), omega (arith, x, y)))
      | inr i ↦ (let x = leaf_right a b o e p i in let y = leaf_held b (o + leaves a) (e + size a) p i in (omega (arith, x, y), omega (arith, x, y)))
    ]
leaf_held (parallel a b) o e p h =
    elim (lies_in e (size a) (size b) p h) [
      | inl i ↦ (let x = leaf_left a b o e p i in let y = leaf_held a o e p i in (omega (arith, x, y), omega (arith, x, y)))
      | inr i ↦ (let x = leaf_right a b o e p i in let y = leaf_held b (o + leaves a) (e + size a) p i in (omega (arith, x, y), omega (arith, x, y)))
    ]

-- two leaves by other names
renamed : (t : Tree) (o u v u' v' : ℕ) → u ≡ u' → v ≡ v' → Parallel t o u v → Parallel t o u' v'
renamed t o u v u' v' x y h = subst (λ (k : ℕ). Parallel t o u' k) y (subst (λ (k : ℕ). Parallel t o k v) x h)

pub beside_parallel : (t : Tree) (o e p q : ℕ) → Beside t e p q → Parallel t o (leaf t o e p) (leaf t o e q)
beside_parallel (strand n) o e p q h = absurd h
beside_parallel (series a b) o e p q (inl h) =
    let k = bounded a e p q h in let x = k.low in let y = k.less in let z = k.high in
    inl (renamed a o _ _ _ _ (sym (leaf_left a b o e p (x, omega (arith, y, z)))) (sym (leaf_left a b o e q (omega (arith, x, y), z))) (beside_parallel a o e p q h))
beside_parallel (series a b) o e p q (inr h) =
    let k = bounded b (e + size a) p q h in let x = k.low in let y = k.less in let z = k.high in
    inr (renamed b (o + leaves a) _ _ _ _ (sym (leaf_right a b o e p (x, omega (arith, y, z)))) (sym (leaf_right a b o e q (omega (arith, x, y), z))) (beside_parallel b (o + leaves a) (e + size a) p q h))
beside_parallel (parallel a b) o e p q (inl h) =
    let k = bounded a e p q h in let x = k.low in let y = k.less in let z = k.high in
    inl (renamed a o _ _ _ _ (sym (leaf_left a b o e p (x, omega (arith, y, z)))) (sym (leaf_left a b o e q (omega (arith, x, y), z))) (beside_parallel a o e p q h))
beside_parallel (parallel a b) o e p q (inr (inl h)) =
    let k = bounded b (e + size a) p q h in let x = k.low in let y = k.less in let z = k.high in
    inr (inl (renamed b (o + leaves a) _ _ _ _ (sym (leaf_right a b o e p (x, omega (arith, y, z)))) (sym (leaf_right a b o e q (omega (arith, x, y), z))) (beside_parallel b (o + leaves a) (e + size a) p q h)))
beside_parallel (parallel a b) o e p q (inr (inr (i, j))) =
    let u = leaf_held a o e p i in
    let v = leaf_held b (o + leaves a) (e + size a) q j in
    let x = leaf_left a b o e p i in
    let y = leaf_right a b o e q j in
    inr (inr (inl ((omega (arith, u, x), omega (arith, u, x)), (omega (arith, v, y), omega (arith, v, y)))))

pub parallel_beside : (t : Tree) (o e p q : ℕ) → Lies e (size t) p → Lies e (size t) q → p < q → Parallel t o (leaf t o e p) (leaf t o e q) → Beside t e p q
parallel_beside (strand n) o e p q i j l h = absurd h
parallel_beside (series a b) o e p q i j l h =
    elim (lies_in e (size a) (size b) p i) [
      | inl i' ↦ elim (lies_in e (size a) (size b) q j) [
        | inl j' ↦ inl (parallel_beside a o e p q i' j' l (series_left a b o _ _ (leaf_held a o e p i') (renamed (series a b) o _ _ _ _ (leaf_left a b o e p i') (leaf_left a b o e q j') h)))
        | inr j' ↦ absurd (series_across a b o _ _ (leaf_held a o e p i') (leaf_held b (o + leaves a) (e + size a) q j') (renamed (series a b) o _ _ _ _ (leaf_left a b o e p i') (leaf_right a b o e q j') h))
      ]
      | inr i' ↦ elim (lies_in e (size a) (size b) q j) [
        | inl j' ↦ absurd (omega (arith, i', j', l))
        | inr j' ↦ inr (parallel_beside b (o + leaves a) (e + size a) p q i' j' l (series_right a b o _ _ (leaf_held b (o + leaves a) (e + size a) p i') (renamed (series a b) o _ _ _ _ (leaf_right a b o e p i') (leaf_right a b o e q j') h)))
      ]
    ]
parallel_beside (parallel a b) o e p q i j l h =
    elim (lies_in e (size a) (size b) p i) [
      | inl i' ↦ elim (lies_in e (size a) (size b) q j) [
        | inl j' ↦ inl (parallel_beside a o e p q i' j' l (parallel_left a b o _ _ (leaf_held a o e p i') (leaf_held a o e q j') (renamed (parallel a b) o _ _ _ _ (leaf_left a b o e p i') (leaf_left a b o e q j') h)))
        | inr j' ↦ inr (inr (i', j'))
      ]
      | inr i' ↦ elim (lies_in e (size a) (size b) q j) [
        | inl j' ↦ absurd (omega (arith, i', j', l))
        | inr j' ↦ inr (inl (parallel_beside b (o + leaves a) (e + size a) p q i' j' l (parallel_right a b o _ _ (leaf_held b (o + leaves a) (e + size a) p i') (leaf_held b (o + leaves a) (e + size a) q j') (renamed (parallel a b) o _ _ _ _ (leaf_right a b o e p i') (leaf_right a b o e q j') h))))
      ]
    ]

-- the strand of each event, where n strands began before
abbrev numbers : List Mark → ℕ → List ℕ
numbers [] n = []
numbers (m ∷ ms) n = (n + begun_by m) ∷ numbers ms (n + begun_by m)

length-numbers : (ms : List Mark) (n : ℕ) → length (numbers ms n) ≡ length ms
length-numbers [] n = refl
length-numbers (m ∷ ms) n = let h = length-numbers ms (n + begun_by m) in omega (arith, h)

numbers-append : (xs ys : List Mark) (n : ℕ) → numbers (xs ++ ys) n ≡ numbers xs n ++ numbers ys (n + count xs)
numbers-append [] ys n = let z : n ≡ n + 0 = omega arith in ap (numbers ys) z
numbers-append (x ∷ xs) ys n =
    let z : n + begun_by x + count xs ≡ n + (begun_by x + count xs) = omega arith in
    ap (λ (l : List ℕ). (n + begun_by x) ∷ l) (numbers-append xs ys (n + begun_by x) ∙ ap (λ (k : ℕ). numbers xs (n + begun_by x) ++ numbers ys k) z)

strand_number : (es : List Event) (p n : ℕ) → p < length es → n + strand_at es (suc p) ≡ get_or (numbers (map mark_of es) n) p 0
strand_number [] p n l = absurd (omega (arith, l))
strand_number (e ∷ es) zero n l = let z = strand_zero es in omega (arith, z)
strand_number (e ∷ es) (suc p) n l = let h = strand_number es p (n + begun_by (mark_of e)) (omega (arith, l)) in omega (arith, h)

abbrev listed : Option Tree → ℕ → List ℕ
listed None o = []
listed (Some t) o = strands t o

strands-then_later : (t : Tree) (l : Option Tree) (o : ℕ) → strands (then_later t l) o ≡ strands t o ++ listed l (o + leaves t)
strands-then_later t None o = sym (append-nil (strands t o))
strands-then_later t (Some l) o = refl

strands-block : (x : Rest) (o : ℕ) → strands (block x) o ≡ replicate (suc x.events) o ++ listed x.after (o + 1)
strands-block x o = strands-then_later (strand (suc x.events)) x.after o

-- the strands of the events after a point whose own strand is n
abbrev following : Rest → ℕ → List ℕ
following x n = replicate x.events n ++ (listed x.after (n + 1) ++ listed x.later (n + 1 + number x.after))

strands-blocks : (x : Rest) (o : ℕ) → strands (blocks x) o ≡ o ∷ following x o
strands-blocks x o =
    let z : o + leaves (block x) ≡ o + 1 + number x.after = let l = leaves-block x in omega (arith, l) in
    strands-then_later (block x) x.later o
    ∙ (ap (λ (k : ℕ). strands (block x) o ++ listed x.later k) z
    ∙ (ap (λ (l : List ℕ). l ++ listed x.later (o + 1 + number x.after)) (strands-block x o)
    ∙ append_assoc (replicate (suc x.events) o) (listed x.after (o + 1)) (listed x.later (o + 1 + number x.after))))

strands-beside : (k : Invocation) (a b : Tree) (o : ℕ) → strands (beside k a b) o ≡ strands a o ++ strands b (o + leaves a)
strands-beside invocations.Call a b o = refl
strands-beside invocations.Spawn a b o = refl

numbers_rest : (r : Shape) (n : ℕ) → numbers (marks r) n ≡ following (rest_of r) n
numbers_rest finish n = let z : n + 0 ≡ n = omega arith in ap (λ (k : ℕ). k ∷ []) z
numbers_rest (act r) n = let z : n + 0 ≡ n = omega arith in ap (λ (k : ℕ). k ∷ numbers (marks r) k) z ∙ ap (λ (l : List ℕ). n ∷ l) (numbers_rest r n)
numbers_rest (sync r) n =
    let z : n + 1 ≡ n + 1 + 0 = omega arith in
    ap (λ (l : List ℕ). (n + 1) ∷ l) (numbers_rest r (n + 1)) ∙ (sym (strands-blocks (rest_of r) (n + 1)) ∙ ap (strands (blocks (rest_of r))) z)
numbers_rest (child k u r) n =
    let x = rest_of u in
    let y = rest_of r in
    let s = begun-start_of k in
    let z : n + begun_by (start_of k) ≡ n = omega (arith, s) in
    let m = n + 1 + count (marks u) in
    let c : m + 1 ≡ n + 1 + leaves (blocks x) = let p = count-marks u in let q = leaves-blocks x in omega (arith, p, q) in
    let e : n + 1 + leaves (blocks x) + leaves (block y) ≡ n + 1 + leaves (beside k (blocks x) (block y)) = let p = leaves-beside k (blocks x) (block y) in omega (arith, p) in
    let d : n + 1 + leaves (blocks x) + 1 + number y.after ≡ n + 1 + leaves (blocks x) + leaves (block y) = let p = leaves-block y in omega (arith, p) in
    let inner : (n + 1) ∷ numbers (marks u) (n + 1) ≡ strands (blocks x) (n + 1) = ap (λ (l : List ℕ). (n + 1) ∷ l) (numbers_rest u (n + 1)) ∙ sym (strands-blocks x (n + 1)) in
    let o = n + 1 + leaves (blocks x) in
    let outer : (m + 1) ∷ numbers (marks r) (m + 1) ≡ strands (block y) o ++ listed y.later (o + leaves (block y)) =
    ap (λ (j : ℕ). j ∷ numbers (marks r) j) c ∙ (ap (λ (l : List ℕ). o ∷ l) (numbers_rest r o)
    ∙ (sym (append_assoc (replicate (suc y.events) o) (listed y.after (o + 1)) (listed y.later (o + 1 + number y.after)))
    ∙ (ap (λ (l : List ℕ). l ++ listed y.later (o + 1 + number y.after)) (sym (strands-block y o)) ∙ ap (λ (j : ℕ). strands (block y) o ++ listed y.later j) d))) in
    ap (λ (j : ℕ). j ∷ (j + 1) ∷ numbers (marks u ++ Resume ∷ marks r) (j + 1)) z
    ∙ ap (λ (l : List ℕ). n ∷ l)
    (ap (λ (l : List ℕ). (n + 1) ∷ l) (numbers-append (marks u) (Resume ∷ marks r) (n + 1))
    ∙ (ap (λ (l : List ℕ). l ++ ((m + 1) ∷ numbers (marks r) (m + 1))) inner
    ∙ (ap (λ (l : List ℕ). strands (blocks x) (n + 1) ++ l) outer
    ∙ (sym (append_assoc (strands (blocks x) (n + 1)) (strands (block y) o) (listed y.later (o + leaves (block y))))
    ∙ (ap (λ (l : List ℕ). l ++ listed y.later (o + leaves (block y))) (sym (strands-beside k (blocks x) (block y) (n + 1)))
    ∙ ap (λ (j : ℕ). strands (beside k (blocks x) (block y)) (n + 1) ++ listed y.later j) e)))))

pub numbers_shape : (s : Shape) → numbers (Begin ∷ marks s) 0 ≡ strands (tree s) 1
numbers_shape s = ap (λ (l : List ℕ). 1 ∷ l) (numbers_rest s 1) ∙ sym (strands-blocks (rest_of s) 1)

-- the tree of a trace has its events
pub size-spelled : (s : Shape) (es : List Event) → Spells s es → size (tree s) ≡ length es
size-spelled s es sp =
    let a = ap (λ (l : List ℕ). length l) (numbers_shape s) in
    let b = length-numbers (Begin ∷ marks s) 0 in
    let c = length-strands (tree s) 1 in
    let d = ap (λ (l : List Mark). length l) sp in
    let e = length-map es mark_of in
    omega (arith, a, b, c, d, e)

-- the strand of a position is the leaf there
pub strand_leaf : (s : Shape) (es : List Event) → Spells s es → (p : ℕ) → IsPosition es p → strand_at es p ≡ leaf (tree s) 1 1 p
strand_leaf s es sp p (l, k) =
    let z : suc (p - 1) ≡ p = omega (arith, l) in
    let a = strand_number es (p - 1) 0 (omega (arith, l, k)) in
    let b : numbers (map mark_of es) 0 ≡ strands (tree s) 1 = ap (λ (ms : List Mark). numbers ms 0) sp ∙ numbers_shape s in
    let c : get_or (numbers (map mark_of es) 0) (p - 1) 0 ≡ leaf (tree s) 1 1 p = ap (λ (l : List ℕ). get_or l (p - 1) 0) b in
    let d = ap (strand_at es) z in
    omega (arith, a, c, d)

pub lies_position : (s : Shape) (es : List Event) → Spells s es → (p : ℕ) → IsPosition es p → Lies 1 (size (tree s)) p
lies_position s es sp p (l, k) = let n = size-spelled s es sp in (l, omega (arith, k, n))

-- two positions in serial order are parallel where they are beside each other
pub beside_positions : (s : Shape) (es : List Event) → Spells s es → (p q : ℕ) → IsPosition es p → IsPosition es q → p < q
    → Parallel (tree s) 1 (strand_at es p) (strand_at es q) ↔ Beside (tree s) 1 p q
beside_positions s es sp p q i j l = (
  λ h. parallel_beside (tree s) 1 1 p q (lies_position s es sp p i) (lies_position s es sp q j) l (renamed (tree s) 1 _ _ _ _ (strand_leaf s es sp p i) (strand_leaf s es sp q j) h),
  λ h. renamed (tree s) 1 _ _ _ _ (sym (strand_leaf s es sp p i)) (sym (strand_leaf s es sp q j)) (beside_parallel (tree s) 1 1 p q h),
)

-- one position is before another where it comes first and they aren't beside each other
pub record Earlier (t : Tree) (p q : ℕ) : Type 0 where
  pub less : p < q
  pub apart : Beside t 1 p q → ⊥

pub before_earlier : (s : Shape) (es : List Event) → Spells s es → (p q : ℕ) → IsPosition es p → IsPosition es q → IsBefore (tree s) es p q → Earlier (tree s) p q
before_earlier s es sp p q i j (inl (e, l)) = record {
  less = l;
  apart = λ b. not_to_itself (tree s) 1 (strand_at es q) (renamed (tree s) 1 _ _ _ _ e refl ((beside_positions s es sp p q i j l).1 b));
}
before_earlier s es sp p q i j (inr h) =
    let less : p < q = elim (cases_lt p q) [
      | inl l ↦ l
      | inr l ↦ (let g = strand_grows es q p l in let k = (ordered (tree s) 1 _ _ h).less in absurd (omega (arith, g, k)))
    ] in
    record { less = less; apart = λ b. not_both (tree s) 1 _ _ h ((beside_positions s es sp p q i j less).1 b) }

pub earlier_before : (s : Shape) (es : List Event) → Spells s es → (p q : ℕ) → IsPosition es p → IsPosition es q → Earlier (tree s) p q → IsBefore (tree s) es p q
earlier_before s es sp p q i j h =
    let l = h.less in
    let g = strand_grows es p q (omega (arith, l)) in
    elim (cases_lt (strand_at es p) (strand_at es q)) [
      | inl k ↦ elim (before_or_parallel (tree s) 1 _ _ (strand_held s es sp p i.0) (strand_held s es sp q j.0) k) [
        | inl b ↦ inr b
        | inr b ↦ absurd (h.apart ((beside_positions s es sp p q i j l).0 b))
      ]
      | inr k ↦ inl (omega (arith, g, k), l)
    ]
