-- The burdened span is the sum of the parts' at S nodes, the greater of them and a burden at P nodes.
use Rattle.std.proofs.Common.{◌≡◌, ℕ, suc, ◌+◌, ◌*◌, ◌-◌, ◌^◌, ◌<◌, ◌≤◌, min, max, List, [], ◌∷◌, ◌++◌, length, drop, get_or, refl, sym, ◌∙◌, ap, subst, arith, inl, inr}
use Rattle.std.proofs.lemmas.Bool.{cases_lt}
use Rattle.std.proofs.lemmas.List.{append_assoc, append-nil, length-append}
use Rattle.std.proofs.Math.Seq.{drop-cons, drop-length}
use Rattle.cilk_types.specs.declared.event.Event.{Event}
use Rattle.cilk_tree.specs.Shape.{Shape, Spells}
use Rattle.cilk_tree.specs.Tree.{Tree, strand, series, parallel, tree, leaves, preorder}
use Rattle.cilk_tree.specs.Spans.{top}
use Rattle.cilk_tree.specs.declared.tree.Node.{Node}
use Rattle.cilk_tree.specs.declared.tree.Node.TheVariants as nodes
use Rattle.cilk_tree.proofs.Places.{size, size-spelled}
use Rattle.cilk_profile.specs.Burdened.{IsPath, IsBurdenedSpan, joined}

abbrev pub weight : ℕ → Tree → ℕ
weight b (strand n) = n
weight b (series l r) = weight b l + weight b r
weight b (parallel l r) = max (weight b l) (weight b r) + b

is_path : (b : ℕ) (t : Tree) → IsPath b t (weight b t)
is_path b (strand n) = refl
is_path b (series l r) = (weight b l, weight b r, is_path b l, is_path b r, refl)
is_path b (parallel l r) =
    elim (cases_lt (weight b l) (weight b r)) [
      | inl less ↦ (weight b r, inr (is_path b r), omega (arith, less))
      | inr more ↦ (weight b l, inl (is_path b l), omega (arith, more))
    ]

none_heavier : (b : ℕ) (t : Tree) (w : ℕ) → IsPath b t w → w ≤ weight b t
none_heavier b (strand n) w h = omega (arith, h)
none_heavier b (series l r) w (m, n, p, q, e) = let x = none_heavier b l m p in let y = none_heavier b r n q in omega (arith, x, y, e)
none_heavier b (parallel l r) w (n, p, e) =
    elim p [
      | inl h ↦ (let x = none_heavier b l n h in omega (arith, x, e))
      | inr h ↦ (let x = none_heavier b r n h in omega (arith, x, e))
    ]

is_burdened : (b : ℕ) (t : Tree) → IsBurdenedSpan b t (weight b t)
is_burdened b t = record { path = is_path b t; heaviest = none_heavier b t }

-- no weight is past 64 bits
has_leaf : (t : Tree) → 1 ≤ leaves t
has_leaf (strand n) = omega arith
has_leaf (series l r) = let x = has_leaf l in omega (arith, x)
has_leaf (parallel l r) = let x = has_leaf l in omega (arith, x)

light : (b : ℕ) (t : Tree) → b ≤ 16384 → weight b t ≤ size t + 16384 * leaves t
light b (strand n) few = omega arith
light b (series l r) few = let x = light b l few in let y = light b r few in omega (arith, x, y)
light b (parallel l r) few =
    let x = light b l few in
    let y = light b r few in
    let z = has_leaf l in
    let z' = has_leaf r in
    omega (arith, x, y, z, z', few)

few_leaves : (t : Tree) → leaves t ≤ length (preorder t)
few_leaves (strand n) = omega arith
few_leaves (series l r) = let x = few_leaves l in let y = few_leaves r in let k = length-append (preorder l) (preorder r) in omega (arith, x, y, k)
few_leaves (parallel l r) = let x = few_leaves l in let y = few_leaves r in let k = length-append (preorder l) (preorder r) in omega (arith, x, y, k)

-- the pass finds it
abbrev pub weights_from : ℕ → List Node → List ℕ
weights_from b [] = []
weights_from b (n ∷ ns) = joined b n (weights_from b ns)

walk : (b : ℕ) (t : Tree) (ns : List Node) → b ≤ 16384 → size t + 16384 * leaves t < 2 ^ 64 → weights_from b (preorder t ++ ns) ≡ weight b t ∷ weights_from b ns
walk b (strand n) ns low few = refl
walk b (series l r) ns low few =
    let p = light b l low in
    let q = light b r low in
    let e : weights_from b (preorder l ++ (preorder r ++ ns)) ≡ weight b l ∷ weight b r ∷ weights_from b ns =
    walk b l (preorder r ++ ns) low (omega (arith, few)) ∙ ap (λ (k : List ℕ). weight b l ∷ k) (walk b r ns low (omega (arith, few))) in
    let m : min (weight b l + weight b r) (2 ^ 64 - 1) ≡ weight b l + weight b r = omega (arith, p, q, few) in
    ap (λ (k : List Node). joined b (nodes.Series (leaves l)) (weights_from b k)) (append_assoc (preorder l) (preorder r) ns)
    ∙ (ap (joined b (nodes.Series (leaves l))) e ∙ ap (λ (k : ℕ). k ∷ weights_from b ns) m)
walk b (parallel l r) ns low few =
    let p = light b (parallel l r) low in
    let e : weights_from b (preorder l ++ (preorder r ++ ns)) ≡ weight b l ∷ weight b r ∷ weights_from b ns =
    walk b l (preorder r ++ ns) low (omega (arith, few)) ∙ ap (λ (k : List ℕ). weight b l ∷ k) (walk b r ns low (omega (arith, few))) in
    let m : min (max (weight b l) (weight b r) + b) (2 ^ 64 - 1) ≡ max (weight b l) (weight b r) + b = omega (arith, p, few) in
    ap (λ (k : List Node). joined b (nodes.Parallel (leaves l) (leaves r)) (weights_from b k)) (append_assoc (preorder l) (preorder r) ns)
    ∙ (ap (joined b (nodes.Parallel (leaves l) (leaves r))) e ∙ ap (λ (k : ℕ). k ∷ weights_from b ns) m)

-- the state of the pass, `place` nodes before the last
abbrev pub At : ℕ → List Node → ℕ → List ℕ → Type 0
At b ns place spans = (place ≤ length ns) × (spans ≡ weights_from b (drop place ns))

pub at_first : (b : ℕ) (ns slice : List Node) (spans : List ℕ) → slice ≡ ns → spans ≡ [] → At b ns (length slice) spans
at_first b ns slice spans e h = rw e (omega arith, rw (drop-length ns) h)

pub at_next : (b : ℕ) (ns slice : List Node) (place : ℕ) (d : Node) (spans spans' : List ℕ) → slice ≡ ns → At b ns place spans → 0 < place
    → spans' ≡ joined b (get_or slice (place - 1) d) spans → At b ns (place - 1) spans'
at_next b ns slice place d spans spans' e (le, h) p s =
    let lt : place - 1 < length ns = omega (arith, p, le) in
    let k : suc (place - 1) ≡ place = omega (arith, p) in
    let c : drop (place - 1) ns ≡ get_or ns (place - 1) d ∷ drop place ns =
    subst (λ (n : ℕ). drop (place - 1) ns ≡ get_or ns (place - 1) d ∷ drop n ns) k (drop-cons ns (place - 1) d lt) in
    let f : spans' ≡ joined b (get_or ns (place - 1) d) spans = subst (λ (l : List Node). spans' ≡ joined b (get_or l (place - 1) d) spans) e s in
    (omega (arith, lt), rw c (f ∙ ap (joined b (get_or ns (place - 1) d)) h))

pub at_last : (b : ℕ) (ns : List Node) (place : ℕ) (spans : List ℕ) (s : Shape) (es : List Event) (n : ℕ) → b ≤ 16384 → At b ns place spans → place ≤ 0
    → length ns < 2 ^ 32 → Spells s es → length es ≤ 1000000 → ns ≡ preorder (tree s) → n ≡ top spans → IsBurdenedSpan b (tree s) n
at_last b ns place spans s es n low (le, h) z few sp short e g =
    let o : place ≡ 0 = omega (arith, z) in
    let k = size-spelled s es sp in
    let j = few_leaves (tree s) in
    let m : length (preorder (tree s)) < 2 ^ 32 = subst (λ (l : List Node). length l < 2 ^ 32) e few in
    let w : weights_from b (preorder (tree s)) ≡ weight b (tree s) ∷ [] =
    subst (λ (l : List Node). weights_from b l ≡ weight b (tree s) ∷ []) (append-nil (preorder (tree s)))
    (walk b (tree s) [] low (omega (arith, k, short, j, m))) in
    let v : spans ≡ weight b (tree s) ∷ [] = h ∙ (ap (λ (i : ℕ). weights_from b (drop i ns)) o ∙ (ap (weights_from b) e ∙ w)) in
    let y : n ≡ weight b (tree s) = g ∙ ap top v in
    subst (IsBurdenedSpan b (tree s)) (sym y) (is_burdened b (tree s))
