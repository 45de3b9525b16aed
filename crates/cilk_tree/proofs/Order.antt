-- Two strands are parallel exactly where the serial order and the Hebrew order disagree.
use Rattle.std.proofs.Common.{◌≡◌, ℕ, ◌+◌, ◌-◌, ◌<◌, ◌≤◌, List, [], ◌∷◌, ◌++◌, length, get_or, refl, ◌∙◌, ap, arith, ◌⊎◌, inl, inr, ◌↔◌}
use Rattle.std.proofs.lemmas.List.{length-append, get_or-append_right}
use Rattle.std.proofs.Math.ListN.{get_or-append}
use Rattle.std.proofs.lemmas.Bool.{cases_lt}
use Rattle.cilk_tree.specs.Tree.{Tree, strand, series, parallel, leaves}
use Rattle.cilk_tree.specs.Parallel.{Holds, Parallel}
use Rattle.cilk_tree.specs.Hebrew.{hebrews, hebrew}

pub length-hebrews : (t : Tree) (h : ℕ) → length (hebrews t h) ≡ leaves t
length-hebrews (strand n) h = refl
length-hebrews (series a b) h = let p = length-hebrews a h in let q = length-hebrews b (h + leaves a) in let l = length-append (hebrews a h) (hebrews b (h + leaves a)) in omega (arith, p, q, l)
length-hebrews (parallel a b) h = let p = length-hebrews a (h + leaves b) in let q = length-hebrews b h in let l = length-append (hebrews a (h + leaves b)) (hebrews b h) in omega (arith, p, q, l)

-- the number of leaf u, where leaves are counted from o
abbrev pub at : List ℕ → ℕ → ℕ → ℕ
at xs o u = get_or xs (u - o) 0

pub at_left : (xs ys : List ℕ) (o u : ℕ) → o ≤ u → u < o + length xs → at (xs ++ ys) o u ≡ at xs o u
at_left xs ys o u p q = get_or-append xs ys 0 (u - o) (omega arith)

pub at_right : (xs ys : List ℕ) (o n u : ℕ) → length xs ≡ n → o + n ≤ u → at (xs ++ ys) o u ≡ at ys (o + n) u
at_right xs ys o n u l p =
    let e : u - o - n ≡ u - (o + n) = omega arith in
    get_or-append_right xs ys n (u - o) 0 l (omega arith) ∙ ap (λ (k : ℕ). get_or ys k 0) e

-- the part that holds a leaf
pub held_in : (a b : Tree) (o u : ℕ) → o ≤ u → u < o + (leaves a + leaves b) → Holds a o u ⊎ Holds b (o + leaves a) u
held_in a b o u p q =
    elim (cases_lt u (o + leaves a)) [ inl l ↦ inl (p, l) | inr l ↦ inr (l, omega arith) ]

-- the numbers of a tree are a range without gaps
pub bounds : (t : Tree) (h o u : ℕ) → Holds t o u → (h ≤ at (hebrews t h) o u) × (at (hebrews t h) o u < h + leaves t)
bounds (strand n) h o u (p, q) =
    let z : u - o ≡ 0 = omega arith in
    let e : at (h ∷ []) o u ≡ h = ap (λ (k : ℕ). get_or (h ∷ []) k 0) z in
    (omega (arith, e), omega (arith, e))
bounds (series a b) h o u (p, q) =
    elim (held_in a b o u p q) [
      | inl l ↦ (let e = at_left (hebrews a h) (hebrews b (h + leaves a)) o u l.0 (let n = length-hebrews a h in let k = l.1 in omega (arith, n, k)) in
          let i = bounds a h o u l in let x = i.0 in let y = i.1 in (omega (arith, e, x), omega (arith, e, y)))
      | inr l ↦ (let e = at_right (hebrews a h) (hebrews b (h + leaves a)) o (leaves a) u (length-hebrews a h) l.0 in
          let i = bounds b (h + leaves a) (o + leaves a) u l in let x = i.0 in let y = i.1 in (omega (arith, e, x), omega (arith, e, y)))
    ]
bounds (parallel a b) h o u (p, q) =
    elim (held_in a b o u p q) [
      | inl l ↦ (let e = at_left (hebrews a (h + leaves b)) (hebrews b h) o u l.0 (let n = length-hebrews a (h + leaves b) in let k = l.1 in omega (arith, n, k)) in
          let i = bounds a (h + leaves b) o u l in let x = i.0 in let y = i.1 in (omega (arith, e, x), omega (arith, e, y)))
      | inr l ↦ (let e = at_right (hebrews a (h + leaves b)) (hebrews b h) o (leaves a) u (length-hebrews a (h + leaves b)) l.0 in
          let i = bounds b h (o + leaves a) u l in let x = i.0 in let y = i.1 in (omega (arith, e, x), omega (arith, e, y)))
    ]

-- parallel strands are in the tree
pub holds_both : (t : Tree) (o u v : ℕ) → Parallel t o u v → Holds t o u × Holds t o v
holds_both (strand n) o u v h = absurd h
holds_both (series a b) o u v (inl h) = let k = holds_both a o u v h in let p = k.0 in let q = k.1 in ((omega (arith, p), omega (arith, p)), (omega (arith, q), omega (arith, q)))
holds_both (series a b) o u v (inr h) = let k = holds_both b (o + leaves a) u v h in let p = k.0 in let q = k.1 in ((omega (arith, p), omega (arith, p)), (omega (arith, q), omega (arith, q)))
holds_both (parallel a b) o u v (inl h) = let k = holds_both a o u v h in let p = k.0 in let q = k.1 in ((omega (arith, p), omega (arith, p)), (omega (arith, q), omega (arith, q)))
holds_both (parallel a b) o u v (inr (inl h)) = let k = holds_both b (o + leaves a) u v h in let p = k.0 in let q = k.1 in ((omega (arith, p), omega (arith, p)), (omega (arith, q), omega (arith, q)))
holds_both (parallel a b) o u v (inr (inr (inl h))) = let p = h.0 in let q = h.1 in ((omega (arith, p), omega (arith, p)), (omega (arith, q), omega (arith, q)))
holds_both (parallel a b) o u v (inr (inr (inr h))) = let p = h.1 in let q = h.0 in ((omega (arith, p), omega (arith, p)), (omega (arith, q), omega (arith, q)))

pub parallel_sym : (t : Tree) (o u v : ℕ) → Parallel t o u v → Parallel t o v u
parallel_sym (strand n) o u v h = absurd h
parallel_sym (series a b) o u v (inl h) = inl (parallel_sym a o u v h)
parallel_sym (series a b) o u v (inr h) = inr (parallel_sym b (o + leaves a) u v h)
parallel_sym (parallel a b) o u v (inl h) = inl (parallel_sym a o u v h)
parallel_sym (parallel a b) o u v (inr (inl h)) = inr (inl (parallel_sym b (o + leaves a) u v h))
parallel_sym (parallel a b) o u v (inr (inr (inl h))) = inr (inr (inr h))
parallel_sym (parallel a b) o u v (inr (inr (inr h))) = inr (inr (inl h))

pub not_to_itself : (t : Tree) (o u : ℕ) → Parallel t o u u → ⊥
not_to_itself (strand n) o u h = h
not_to_itself (series a b) o u (inl h) = not_to_itself a o u h
not_to_itself (series a b) o u (inr h) = not_to_itself b (o + leaves a) u h
not_to_itself (parallel a b) o u (inl h) = not_to_itself a o u h
not_to_itself (parallel a b) o u (inr (inl h)) = not_to_itself b (o + leaves a) u h
not_to_itself (parallel a b) o u (inr (inr (inl h))) = let p = h.0 in let q = h.1 in omega (arith, p, q)
not_to_itself (parallel a b) o u (inr (inr (inr h))) = let p = h.0 in let q = h.1 in omega (arith, p, q)

-- no leaf is in both parts
pub apart : (a b : Tree) (o u : ℕ) → Holds a o u → Holds b (o + leaves a) u → ⊥
apart a b o u p q = omega (arith, p, q)

abbrev pub Tells : Tree → ℕ → ℕ → ℕ → ℕ → Type 0
Tells t h o u v = (Parallel t o u v × (at (hebrews t h) o v < at (hebrews t h) o u)) ⊎ ((Parallel t o u v → ⊥) × (at (hebrews t h) o u < at (hebrews t h) o v))

-- the same two leaves, with numbers that are known to be equal
tells_along : (A B : Type 0) (x y x' y' : ℕ) → x ≡ x' → y ≡ y' → (A → B) → (B → A) → (A × (y' < x')) ⊎ ((A → ⊥) × (x' < y')) → (B × (y < x)) ⊎ ((B → ⊥) × (x < y))
tells_along A B x y x' y' e f to from (inl (p, l)) = inl (to p, omega (arith, e, f, l))
tells_along A B x y x' y' e f to from (inr (p, l)) = inr ((λ b. p (from b)), omega (arith, e, f, l))

pub series_left : (a b : Tree) (o u v : ℕ) → Holds a o u → Parallel (series a b) o u v → Parallel a o u v
series_left a b o u v p (inl h) = h
series_left a b o u v p (inr h) = absurd (apart a b o u p (holds_both b (o + leaves a) u v h).0)

pub series_right : (a b : Tree) (o u v : ℕ) → Holds b (o + leaves a) u → Parallel (series a b) o u v → Parallel b (o + leaves a) u v
series_right a b o u v p (inl h) = absurd (apart a b o u (holds_both a o u v h).0 p)
series_right a b o u v p (inr h) = h

pub series_across : (a b : Tree) (o u v : ℕ) → Holds a o u → Holds b (o + leaves a) v → Parallel (series a b) o u v → ⊥
series_across a b o u v p q (inl h) = apart a b o v (holds_both a o u v h).1 q
series_across a b o u v p q (inr h) = apart a b o u p (holds_both b (o + leaves a) u v h).0

pub parallel_left : (a b : Tree) (o u v : ℕ) → Holds a o u → Holds a o v → Parallel (parallel a b) o u v → Parallel a o u v
parallel_left a b o u v p q (inl h) = h
parallel_left a b o u v p q (inr (inl h)) = absurd (apart a b o u p (holds_both b (o + leaves a) u v h).0)
parallel_left a b o u v p q (inr (inr (inl h))) = absurd (apart a b o v q h.1)
parallel_left a b o u v p q (inr (inr (inr h))) = absurd (apart a b o u p h.1)

pub parallel_right : (a b : Tree) (o u v : ℕ) → Holds b (o + leaves a) u → Holds b (o + leaves a) v → Parallel (parallel a b) o u v → Parallel b (o + leaves a) u v
parallel_right a b o u v p q (inl h) = absurd (apart a b o u (holds_both a o u v h).0 p)
parallel_right a b o u v p q (inr (inl h)) = h
parallel_right a b o u v p q (inr (inr (inl h))) = absurd (apart a b o u h.0 p)
parallel_right a b o u v p q (inr (inr (inr h))) = absurd (apart a b o v h.0 q)

-- of two leaves, the earlier one has the greater Hebrew number exactly where they are parallel
pub tells : (t : Tree) (h o u v : ℕ) → Holds t o u → Holds t o v → u < v → Tells t h o u v
tells (strand n) h o u v p q l = absurd (omega (arith, p, q))
tells (series a b) h o u v (p, p') (q, q') l =
    let xs = hebrews a h in
    let ys = hebrews b (h + leaves a) in
    let n = length-hebrews a h in
    elim (held_in a b o u p p') [
      | inl i ↦ elim (held_in a b o v q q') [
        | inl j ↦ tells_along (Parallel a o u v) (Parallel (series a b) o u v) _ _ _ _
            (at_left xs ys o u i.0 (let k = i.1 in omega (arith, n, k))) (at_left xs ys o v j.0 (let k = j.1 in omega (arith, n, k)))
            (λ g. inl g) (series_left a b o u v i) (tells a h o u v i j l)
        | inr j ↦ inr (
          series_across a b o u v i j,
          (let e = at_left xs ys o u i.0 (let k = i.1 in omega (arith, n, k)) in let f = at_right xs ys o (leaves a) v n j.0 in
              let x = (bounds a h o u i).1 in let y = (bounds b (h + leaves a) (o + leaves a) v j).0 in omega (arith, e, f, x, y)),
        )
      ]
      | inr i ↦ elim (held_in a b o v q q') [
        | inl j ↦ absurd (omega (arith, i, j, l))
        | inr j ↦ tells_along (Parallel b (o + leaves a) u v) (Parallel (series a b) o u v) _ _ _ _
            (at_right xs ys o (leaves a) u n i.0) (at_right xs ys o (leaves a) v n j.0)
            (λ g. inr g) (series_right a b o u v i) (tells b (h + leaves a) (o + leaves a) u v i j l)
      ]
    ]
tells (parallel a b) h o u v (p, p') (q, q') l =
    let xs = hebrews a (h + leaves b) in
    let ys = hebrews b h in
    let n = length-hebrews a (h + leaves b) in
    elim (held_in a b o u p p') [
      | inl i ↦ elim (held_in a b o v q q') [
        | inl j ↦ tells_along (Parallel a o u v) (Parallel (parallel a b) o u v) _ _ _ _
            (at_left xs ys o u i.0 (let k = i.1 in omega (arith, n, k))) (at_left xs ys o v j.0 (let k = j.1 in omega (arith, n, k)))
            (λ g. inl g) (parallel_left a b o u v i j) (tells a (h + leaves b) o u v i j l)
        | inr j ↦ inl (
          inr (inr (inl (i, j))),
          (let e = at_left xs ys o u i.0 (let k = i.1 in omega (arith, n, k)) in let f = at_right xs ys o (leaves a) v n j.0 in
              let x = (bounds a (h + leaves b) o u i).0 in let y = (bounds b h (o + leaves a) v j).1 in omega (arith, e, f, x, y)),
        )
      ]
      | inr i ↦ elim (held_in a b o v q q') [
        | inl j ↦ absurd (omega (arith, i, j, l))
        | inr j ↦ tells_along (Parallel b (o + leaves a) u v) (Parallel (parallel a b) o u v) _ _ _ _
            (at_right xs ys o (leaves a) u n i.0) (at_right xs ys o (leaves a) v n j.0)
            (λ g. inr (inl g)) (parallel_right a b o u v i j) (tells b h (o + leaves a) u v i j l)
      ]
    ]

-- for two strands in serial order
pub parallel_by_order : (t : Tree) (u v : ℕ) → Holds t 1 u → Holds t 1 v → u < v → (hebrew t v < hebrew t u) ↔ Parallel t 1 u v
parallel_by_order t u v p q l =
    elim (tells t 1 1 u v p q l) [
      | inl w ↦ ((λ _. w.0), λ _. w.1)
      | inr w ↦ ((λ k. absurd (let m = w.1 in omega (arith, k, m))), λ g. absurd (w.0 g))
    ]
