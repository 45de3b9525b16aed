-- The span is the sum of the parts' at S nodes, the greater of them at P nodes.
use Rattle.std.proofs.Common.{◌≡◌, ℕ, zero, suc, ◌+◌, ◌-◌, ◌^◌, ◌<◌, ◌≤◌, min, max, Bool, true, false, cond, nat_lt, nat_le, List, [], ◌∷◌, ◌++◌, length, drop, get_or, refl, sym, ◌∙◌, ap, subst, arith, inl, inr}
use Rattle.std.proofs.lemmas.Bool.{cases_lt, lt-ltb, le-ltb, lt-leb, le-leb}
use Rattle.std.proofs.lemmas.List.{append_assoc, append-nil, length-append}
use Rattle.std.proofs.Math.Seq.{drop-cons, drop-length}
use Rattle.cilk_types.specs.declared.event.Event.{Event}
use Rattle.cilk_tree.specs.Shape.{Shape, Spells}
use Rattle.cilk_tree.specs.Tree.{Tree, strand, series, parallel, tree, leaves, preorder}
use Rattle.cilk_tree.specs.Before.{IsPosition}
use Rattle.cilk_tree.specs.Span.{IsChain, IsSpan}
use Rattle.cilk_tree.specs.Spans.{top, joined, spans_from}
use Rattle.cilk_tree.specs.declared.tree.Node.{Node}
use Rattle.cilk_tree.specs.declared.tree.Node.TheVariants as nodes
use Rattle.cilk_tree.proofs.Places.{size, Lies, lies_in, Beside, bounded, before_earlier, earlier_before, size-spelled, lies_position}

abbrev pub span_of : Tree → ℕ
span_of (strand n) = n
span_of (series a b) = span_of a + span_of b
span_of (parallel a b) = max (span_of a) (span_of b)

pub span_size : (t : Tree) → span_of t ≤ size t
span_size (strand n) = omega arith
span_size (series a b) = let p = span_size a in let q = span_size b in omega (arith, p, q)
span_size (parallel a b) = let p = span_size a in let q = span_size b in omega (arith, p, q)

-- the number of events in the longest chain that ends at a position; positions are counted from e
-- on
abbrev rank : Tree → ℕ → ℕ → ℕ
rank (strand n) e p = p + 1 - e
rank (series a b) e p = cond (nat_lt p (e + size a)) (rank a e p) (span_of a + rank b (e + size a) p)
rank (parallel a b) e p = cond (nat_lt p (e + size a)) (rank a e p) (rank b (e + size a) p)

pick_left : (n p x y : ℕ) → p < n → cond (nat_lt p n) x y ≡ x
pick_left n p x y l = rw (lt-ltb p n l) refl

pick_right : (n p x y : ℕ) → n ≤ p → cond (nat_lt p n) x y ≡ y
pick_right n p x y l = rw (le-ltb p n l) refl

ranged : (t : Tree) (e p : ℕ) → Lies e (size t) p → (1 ≤ rank t e p) × (rank t e p ≤ span_of t)
ranged (strand n) e p (l, k) = (omega (arith, l), omega (arith, l, k))
ranged (series a b) e p h =
    elim (lies_in e (size a) (size b) p h) [
      | inl i ↦ (let x = pick_left (e + size a) p (rank a e p) (span_of a + rank b (e + size a) p) i.1 in let y = ranged a e p i in let u = y.0 in let v = y.1 in (omega (arith, x, u), omega (arith, x, v)))
      | inr i ↦ (let x = pick_right (e + size a) p (rank a e p) (span_of a + rank b (e + size a) p) i.0 in let y = ranged b (e + size a) p i in let u = y.0 in let v = y.1 in (omega (arith, x, u), omega (arith, x, v)))
    ]
ranged (parallel a b) e p h =
    elim (lies_in e (size a) (size b) p h) [
      | inl i ↦ (let x = pick_left (e + size a) p (rank a e p) (rank b (e + size a) p) i.1 in let y = ranged a e p i in let u = y.0 in let v = y.1 in (omega (arith, x, u), omega (arith, x, v)))
      | inr i ↦ (let x = pick_right (e + size a) p (rank a e p) (rank b (e + size a) p) i.0 in let y = ranged b (e + size a) p i in let u = y.0 in let v = y.1 in (omega (arith, x, u), omega (arith, x, v)))
    ]

rises : (t : Tree) (e p q : ℕ) → Lies e (size t) p → Lies e (size t) q → p < q → (Beside t e p q → ⊥) → rank t e p < rank t e q
rises (strand n) e p q (i, i') (j, j') l no_p = omega (arith, i, l)
rises (series a b) e p q i j l apart =
    elim (lies_in e (size a) (size b) p i) [
      | inl i' ↦ (let x = pick_left (e + size a) p (rank a e p) (span_of a + rank b (e + size a) p) i'.1 in
          elim (lies_in e (size a) (size b) q j) [
            | inl j' ↦ (let y = pick_left (e + size a) q (rank a e q) (span_of a + rank b (e + size a) q) j'.1 in
                let r = rises a e p q i' j' l (λ h. apart (inl h)) in omega (arith, x, y, r))
            | inr j' ↦ (let y = pick_right (e + size a) q (rank a e q) (span_of a + rank b (e + size a) q) j'.0 in
                let u = (ranged a e p i').1 in let v = (ranged b (e + size a) q j').0 in omega (arith, x, y, u, v))
          ])
      | inr i' ↦ (let x = pick_right (e + size a) p (rank a e p) (span_of a + rank b (e + size a) p) i'.0 in
          elim (lies_in e (size a) (size b) q j) [
            | inl j' ↦ absurd (omega (arith, i', j', l))
            | inr j' ↦ (let y = pick_right (e + size a) q (rank a e q) (span_of a + rank b (e + size a) q) j'.0 in
                let r = rises b (e + size a) p q i' j' l (λ h. apart (inr h)) in omega (arith, x, y, r))
          ])
    ]
rises (parallel a b) e p q i j l apart =
    elim (lies_in e (size a) (size b) p i) [
      | inl i' ↦ (let x = pick_left (e + size a) p (rank a e p) (rank b (e + size a) p) i'.1 in
          elim (lies_in e (size a) (size b) q j) [
            | inl j' ↦ (let y = pick_left (e + size a) q (rank a e q) (rank b (e + size a) q) j'.1 in
                let r = rises a e p q i' j' l (λ h. apart (inl h)) in omega (arith, x, y, r))
            | inr j' ↦ absurd (apart (inr (inr (i', j'))))
          ])
      | inr i' ↦ (let x = pick_right (e + size a) p (rank a e p) (rank b (e + size a) p) i'.0 in
          elim (lies_in e (size a) (size b) q j) [
            | inl j' ↦ absurd (omega (arith, i', j', l))
            | inr j' ↦ (let y = pick_right (e + size a) q (rank a e q) (rank b (e + size a) q) j'.0 in
                let r = rises b (e + size a) p q i' j' l (λ h. apart (inr (inl h))) in omega (arith, x, y, r))
          ])
    ]

-- no chain is longer
first_position : (t : Tree) (es : List Event) (p : ℕ) (ps : List ℕ) → IsChain t es (p ∷ ps) → IsPosition es p
first_position t es p [] h = h
first_position t es p (q ∷ ps) h = h.0

from_first : (s : Shape) (es : List Event) → Spells s es → (p : ℕ) (ps : List ℕ) → IsChain (tree s) es (p ∷ ps) → rank (tree s) 1 p + length ps ≤ span_of (tree s)
from_first s es sp p [] h = let r = (ranged (tree s) 1 p (lies_position s es sp p h)).1 in omega (arith, r)
from_first s es sp p (q ∷ ps) (i, b, h) =
    let j = first_position (tree s) es q ps h in
    let k = before_earlier s es sp p q i j b in
    let r = rises (tree s) 1 p q (lies_position s es sp p i) (lies_position s es sp q j) k.less k.apart in
    let g = from_first s es sp q ps h in
    omega (arith, r, g)

none_longer : (s : Shape) (es : List Event) → Spells s es → (ps : List ℕ) → IsChain (tree s) es ps → length ps ≤ span_of (tree s)
none_longer s es sp [] h = omega arith
none_longer s es sp (p ∷ ps) h =
    let r = (ranged (tree s) 1 p (lies_position s es sp p (first_position (tree s) es p ps h))).0 in
    let g = from_first s es sp p ps h in
    omega (arith, r, g)

-- a longest chain
abbrev counted : ℕ → ℕ → List ℕ
counted zero e = []
counted (suc n) e = e ∷ counted n (e + 1)

abbrev longest : Tree → ℕ → List ℕ
longest (strand n) e = counted n e
longest (series a b) e = longest a e ++ longest b (e + size a)
longest (parallel a b) e = cond (nat_le (span_of b) (span_of a)) (longest a e) (longest b (e + size a))

length-counted : (n e : ℕ) → length (counted n e) ≡ n
length-counted zero e = refl
length-counted (suc n) e = let h = length-counted n (e + 1) in omega (arith, h)

length-longest : (t : Tree) (e : ℕ) → length (longest t e) ≡ span_of t
length-longest (strand n) e = length-counted n e
length-longest (series a b) e = let p = length-longest a e in let q = length-longest b (e + size a) in let l = length-append (longest a e) (longest b (e + size a)) in omega (arith, p, q, l)
length-longest (parallel a b) e =
    elim (cases_lt (span_of a) (span_of b)) [
      | inl l ↦ (let t = lt-leb (span_of b) (span_of a) l in let q = length-longest b (e + size a) in
          let z : length (longest b (e + size a)) ≡ max (span_of a) (span_of b) = omega (arith, q, l) in
          subst (λ (c : Bool). length (cond c (longest a e) (longest b (e + size a))) ≡ max (span_of a) (span_of b)) (sym t) z)
      | inr l ↦ (let t = le-leb (span_of b) (span_of a) l in let q = length-longest a e in
          let z : length (longest a e) ≡ max (span_of a) (span_of b) = omega (arith, q, l) in
          subst (λ (c : Bool). length (cond c (longest a e) (longest b (e + size a))) ≡ max (span_of a) (span_of b)) (sym t) z)
    ]

-- positions in a tree, each before the next
abbrev Follows : Tree → ℕ → ℕ → ℕ → Type 0
Follows t e p q = (p < q) × (Beside t e p q → ⊥)

abbrev All : ℕ → ℕ → List ℕ → Type 0
All e n [] = Unit {0}
All e n (p ∷ ps) = Lies e n p × All e n ps

abbrev Steps : (ℕ → ℕ → Type 0) → List ℕ → Type 0
Steps R [] = Unit {0}
Steps R (p ∷ []) = Unit {0}
Steps R (p ∷ q ∷ ps) = R p q × Steps R (q ∷ ps)

all_append : (e n : ℕ) (xs ys : List ℕ) → All e n xs → All e n ys → All e n (xs ++ ys)
all_append e n [] ys g h = h
all_append e n (x ∷ xs) ys g h = (g.0, all_append e n xs ys g.1 h)

all_wider : (e n e' n' : ℕ) (xs : List ℕ) → ((p : ℕ) → Lies e n p → Lies e' n' p) → All e n xs → All e' n' xs
all_wider e n e' n' [] f h = tt
all_wider e n e' n' (x ∷ xs) f h = (f x h.0, all_wider e n e' n' xs f h.1)

steps_along : (R S : ℕ → ℕ → Type 0) (e n : ℕ) (xs : List ℕ) → ((p q : ℕ) → Lies e n p → Lies e n q → R p q → S p q) → All e n xs → Steps R xs → Steps S xs
steps_along R S e n [] f g h = tt
steps_along R S e n (x ∷ []) f g h = tt
steps_along R S e n (x ∷ y ∷ xs) f g h = (f x y g.0 g.1.0 h.0, steps_along R S e n (y ∷ xs) f g.1 h.1)

steps_append : (R : ℕ → ℕ → Type 0) (e n e' n' : ℕ) (xs ys : List ℕ) → ((p q : ℕ) → Lies e n p → Lies e' n' q → R p q) → All e n xs → All e' n' ys → Steps R xs → Steps R ys → Steps R (xs ++ ys)
steps_append R e n e' n' [] ys f g g' h h' = h'
steps_append R e n e' n' (x ∷ []) [] f g g' h h' = tt
steps_append R e n e' n' (x ∷ []) (y ∷ ys) f g g' h h' = (f x y g.0 g'.0, h')
steps_append R e n e' n' (x ∷ z ∷ xs) ys f g g' h h' = (h.0, steps_append R e n e' n' (z ∷ xs) ys f g.1 g' h.1 h')

counted_lie : (n e m : ℕ) → n ≤ m → All e m (counted n e)
counted_lie zero e m l = tt
counted_lie (suc n) e m l =
    ((omega arith, omega (arith, l)), all_wider (e + 1) (m - 1) e m (counted n (e + 1)) (λ p h. (omega (arith, h), omega (arith, h, l))) (counted_lie n (e + 1) (m - 1) (omega (arith, l))))

counted_step : (n e : ℕ) (t : Tree) (o : ℕ) → ((p q : ℕ) → Beside t o p q → ⊥) → Steps (Follows t o) (counted n e)
counted_step zero e t o none = tt
counted_step (suc zero) e t o none = tt
counted_step (suc (suc n)) e t o none = ((omega arith, none e (e + 1)), counted_step (suc n) (e + 1) t o none)

either : (P : List ℕ → Type 0) (xs ys : List ℕ) (c : Bool) → P xs → P ys → P (cond c xs ys)
either P xs ys true g h = g
either P xs ys false g h = h

longest_lie : (t : Tree) (e : ℕ) → All e (size t) (longest t e)
longest_lie (strand n) e = counted_lie n e n (omega arith)
longest_lie (series a b) e =
    all_append e (size a + size b) (longest a e) (longest b (e + size a))
    (all_wider e (size a) e (size a + size b) (longest a e) (λ p h. (h.0, omega (arith, h))) (longest_lie a e))
    (all_wider (e + size a) (size b) e (size a + size b) (longest b (e + size a)) (λ p h. (omega (arith, h), omega (arith, h))) (longest_lie b (e + size a)))
longest_lie (parallel a b) e =
    either (All e (size a + size b)) (longest a e) (longest b (e + size a)) (nat_le (span_of b) (span_of a))
    (all_wider e (size a) e (size a + size b) (longest a e) (λ p h. (h.0, omega (arith, h))) (longest_lie a e))
    (all_wider (e + size a) (size b) e (size a + size b) (longest b (e + size a)) (λ p h. (omega (arith, h), omega (arith, h))) (longest_lie b (e + size a)))

series_follows_left : (a b : Tree) (e p q : ℕ) → Lies e (size a) p → Lies e (size a) q → Follows a e p q → Follows (series a b) e p q
series_follows_left a b e p q i j (l, n) = (l, λ h. elim h [ inl g ↦ n g | inr g ↦ (let k = (bounded b (e + size a) p q g).low in omega (arith, i, k)) ])

series_follows_right : (a b : Tree) (e p q : ℕ) → Lies (e + size a) (size b) p → Lies (e + size a) (size b) q → Follows b (e + size a) p q → Follows (series a b) e p q
series_follows_right a b e p q i j (l, n) = (l, λ h. elim h [ inl g ↦ (let k = (bounded a e p q g).high in omega (arith, j, k)) | inr g ↦ n g ])

series_follows_across : (a b : Tree) (e p q : ℕ) → Lies e (size a) p → Lies (e + size a) (size b) q → Follows (series a b) e p q
series_follows_across a b e p q i j =
    (omega (arith, i, j), λ h. elim h [ inl g ↦ (let k = (bounded a e p q g).high in omega (arith, j, k)) | inr g ↦ (let k = (bounded b (e + size a) p q g).low in omega (arith, i, k)) ])

parallel_follows_left : (a b : Tree) (e p q : ℕ) → Lies e (size a) p → Lies e (size a) q → Follows a e p q → Follows (parallel a b) e p q
parallel_follows_left a b e p q i j (l, n) = (
  l,
  λ h. elim h [
    | inl g ↦ n g
    | inr (inl g) ↦ (let k = (bounded b (e + size a) p q g).low in omega (arith, i, k))
    | inr (inr g) ↦ (let k = g.1 in omega (arith, j, k))
  ],
)

parallel_follows_right : (a b : Tree) (e p q : ℕ) → Lies (e + size a) (size b) p → Lies (e + size a) (size b) q → Follows b (e + size a) p q → Follows (parallel a b) e p q
parallel_follows_right a b e p q i j (l, n) = (
  l,
  λ h. elim h [
    | inl g ↦ (let k = (bounded a e p q g).high in omega (arith, j, k))
    | inr (inl g) ↦ n g
    | inr (inr g) ↦ (let k = g.0 in omega (arith, i, k))
  ],
)

longest_step : (t : Tree) (e : ℕ) → Steps (Follows t e) (longest t e)
longest_step (strand n) e = counted_step n e (strand n) e (λ p q h. h)
longest_step (series a b) e =
    steps_append (Follows (series a b) e) e (size a) (e + size a) (size b) (longest a e) (longest b (e + size a)) (series_follows_across a b e) (longest_lie a e) (longest_lie b (e + size a))
    (steps_along (Follows a e) (Follows (series a b) e) e (size a) (longest a e) (series_follows_left a b e) (longest_lie a e) (longest_step a e))
    (steps_along (Follows b (e + size a)) (Follows (series a b) e) (e + size a) (size b) (longest b (e + size a)) (series_follows_right a b e) (longest_lie b (e + size a)) (longest_step b (e + size a)))
longest_step (parallel a b) e =
    either (Steps (Follows (parallel a b) e)) (longest a e) (longest b (e + size a)) (nat_le (span_of b) (span_of a))
    (steps_along (Follows a e) (Follows (parallel a b) e) e (size a) (longest a e) (parallel_follows_left a b e) (longest_lie a e) (longest_step a e))
    (steps_along (Follows b (e + size a)) (Follows (parallel a b) e) (e + size a) (size b) (longest b (e + size a)) (parallel_follows_right a b e) (longest_lie b (e + size a)) (longest_step b (e + size a)))

is_chain : (s : Shape) (es : List Event) → Spells s es → (ps : List ℕ) → All 1 (size (tree s)) ps → Steps (Follows (tree s) 1) ps → IsChain (tree s) es ps
is_chain s es sp [] g h = tt
is_chain s es sp (p ∷ []) (g, g') h = let n = size-spelled s es sp in (omega (arith, g), omega (arith, g, n))
is_chain s es sp (p ∷ q ∷ ps) g h =
    let n = size-spelled s es sp in
    let x = g.0 in
    let y = g.1.0 in
    let i : IsPosition es p = (omega (arith, x), omega (arith, x, n)) in
    let j : IsPosition es q = (omega (arith, y), omega (arith, y, n)) in
    (i, earlier_before s es sp p q i j (record { less = h.0.0; apart = h.0.1 }), is_chain s es sp (q ∷ ps) g.1 h.1)

pub is_span : (s : Shape) (es : List Event) → Spells s es → IsSpan (tree s) es (span_of (tree s))
is_span s es sp = record {
  chain = longest (tree s) 1;
  is_chain = is_chain s es sp (longest (tree s) 1) (longest_lie (tree s) 1) (longest_step (tree s) 1);
  long = length-longest (tree s) 1;
  greatest = none_longer s es sp;
}

-- the pass finds it
walk : (t : Tree) (ns : List Node) → size t < 2 ^ 64 → spans_from (preorder t ++ ns) ≡ span_of t ∷ spans_from ns
walk (strand n) ns few = refl
walk (series a b) ns few =
    let p = span_size a in
    let q = span_size b in
    let e : spans_from (preorder a ++ (preorder b ++ ns)) ≡ span_of a ∷ span_of b ∷ spans_from ns =
    walk a (preorder b ++ ns) (omega (arith, few)) ∙ ap (λ (l : List ℕ). span_of a ∷ l) (walk b ns (omega (arith, few))) in
    let m : min (span_of a + span_of b) (2 ^ 64 - 1) ≡ span_of a + span_of b = omega (arith, p, q, few) in
    ap (λ (l : List Node). joined (nodes.Series (leaves a)) (spans_from l)) (append_assoc (preorder a) (preorder b) ns)
    ∙ (ap (joined (nodes.Series (leaves a))) e ∙ ap (λ (k : ℕ). k ∷ spans_from ns) m)
walk (parallel a b) ns few =
    let e : spans_from (preorder a ++ (preorder b ++ ns)) ≡ span_of a ∷ span_of b ∷ spans_from ns =
    walk a (preorder b ++ ns) (omega (arith, few)) ∙ ap (λ (l : List ℕ). span_of a ∷ l) (walk b ns (omega (arith, few))) in
    ap (λ (l : List Node). joined (nodes.Parallel (leaves a) (leaves b)) (spans_from l)) (append_assoc (preorder a) (preorder b) ns)
    ∙ ap (joined (nodes.Parallel (leaves a) (leaves b))) e

-- The state of the pass over a tree's nodes, n nodes before the last.
abbrev pub At : List Node → ℕ → List ℕ → Type 0
At ns place spans = (place ≤ length ns) × (spans ≡ spans_from (drop place ns))

pub at_first : (ns slice : List Node) (spans : List ℕ) → slice ≡ ns → spans ≡ [] → At ns (length slice) spans
at_first ns slice spans e h = rw e (omega arith, rw (drop-length ns) h)

pub at_next : (ns slice : List Node) (place : ℕ) (d : Node) (spans spans' : List ℕ) → slice ≡ ns → At ns place spans → 0 < place → spans' ≡ joined (get_or slice (place - 1) d) spans → At ns (place - 1) spans'
at_next ns slice place d spans spans' e (le, h) p s =
    let lt : place - 1 < length ns = omega (arith, p, le) in
    let k : suc (place - 1) ≡ place = omega (arith, p) in
    let c : drop (place - 1) ns ≡ get_or ns (place - 1) d ∷ drop place ns =
    subst (λ (n : ℕ). drop (place - 1) ns ≡ get_or ns (place - 1) d ∷ drop n ns) k (drop-cons ns (place - 1) d lt) in
    let f : spans' ≡ joined (get_or ns (place - 1) d) spans = subst (λ (l : List Node). spans' ≡ joined (get_or l (place - 1) d) spans) e s in
    (omega (arith, lt), rw c (f ∙ ap (joined (get_or ns (place - 1) d)) h))

pub at_last : (ns : List Node) (place : ℕ) (spans : List ℕ) (s : Shape) (es : List Event) (n : ℕ) → At ns place spans → place ≤ 0 → length es ≤ 1000000 → Spells s es → ns ≡ preorder (tree s) → n ≡ min (top spans) (length es) → IsSpan (tree s) es n
at_last ns place spans s es n (le, h) z few sp e g =
    let o : place ≡ 0 = omega (arith, z) in
    let k = size-spelled s es sp in
    let w : spans_from (preorder (tree s)) ≡ span_of (tree s) ∷ [] =
    subst (λ (l : List Node). spans_from l ≡ span_of (tree s) ∷ []) (append-nil (preorder (tree s))) (walk (tree s) [] (omega (arith, k, few))) in
    let v : spans ≡ span_of (tree s) ∷ [] = h ∙ (ap (λ (j : ℕ). spans_from (drop j ns)) o ∙ (ap spans_from e ∙ w)) in
    let x = ap top v in
    let y : n ≡ span_of (tree s) = let l = span_size (tree s) in omega (arith, g, x, l, k) in
    subst (IsSpan (tree s) es) (sym y) (is_span s es sp)
