-- Two strands have the same peers exactly where they are of one class.
use Rattle.std.proofs.Common.{◌≡◌, ◌≢◌, ℕ, suc, ◌+◌, ◌-◌, ◌<◌, ◌≤◌, List, [], ◌∷◌, ◌++◌, length, get_or, Option, Some, None, refl, sym, ◌∙◌, ap, arith, ◌⊎◌, inl, inr, ◌↔◌}
use Rattle.std.proofs.lemmas.List.{length-append}
use Rattle.cilk_types.specs.declared.invocation.Invocation.{Invocation}
use Rattle.cilk_types.specs.declared.invocation.Invocation.TheVariants as invocations
use Rattle.cilk_tree.specs.Shape.{Shape, finish, act, sync, child}
use Rattle.cilk_tree.specs.Tree.{Tree, strand, series, parallel, then_later, beside, Rest, block, blocks, rest_of, tree, leaves}
use Rattle.cilk_tree.specs.Parallel.{Holds, Parallel}
use Rattle.cilk_tree.proofs.Backward.{has_leaf}
use Rattle.cilk_tree.proofs.Order.{at, at_left, at_right, held_in, holds_both, not_to_itself, apart, series_left, series_right, parallel_left, parallel_right}
use Rattle.cilk_peers.specs.Peers.{class_numbers, SamePeers}

pub length-class_numbers : (t : Tree) (c o : ℕ) → length (class_numbers t c o) ≡ leaves t
length-class_numbers (strand n) c o = refl
length-class_numbers (series a b) c o = let p = length-class_numbers a c o in let q = length-class_numbers b c (o + leaves a) in let l = length-append (class_numbers a c o) (class_numbers b c (o + leaves a)) in omega (arith, p, q, l)
length-class_numbers (parallel a b) c o = let p = length-class_numbers a o o in let q = length-class_numbers b (o + leaves a) (o + leaves a) in let l = length-append (class_numbers a o o) (class_numbers b (o + leaves a) (o + leaves a)) in omega (arith, p, q, l)

-- the first leaf is under no P node
abbrev pub Leads : Tree → Type 0
Leads (strand n) = Unit {0}
Leads (series a b) = Leads a
Leads (parallel a b) = ⊥

-- so it is in each child of a P node
abbrev Sound : Tree → Type 0
Sound (strand n) = Unit {0}
Sound (series a b) = Sound a × Sound b
Sound (parallel a b) = Leads a × Leads b × Sound a × Sound b

abbrev class_of : Tree → ℕ → ℕ → ℕ → ℕ
class_of t c o u = at (class_numbers t c o) o u

class_left : (a b : Tree) (c d o u : ℕ) → Holds a o u → at (class_numbers a c o ++ class_numbers b d (o + leaves a)) o u ≡ class_of a c o u
class_left a b c d o u (p, q) = at_left (class_numbers a c o) (class_numbers b d (o + leaves a)) o u p (let n = length-class_numbers a c o in omega (arith, n, q))

class_right : (a b : Tree) (c d o u : ℕ) → Holds b (o + leaves a) u → at (class_numbers a c o ++ class_numbers b d (o + leaves a)) o u ≡ class_of b d (o + leaves a) u
class_right a b c d o u (p, q) = at_right (class_numbers a c o) (class_numbers b d (o + leaves a)) o (leaves a) u (length-class_numbers a c o) p

-- a class is the one around the tree, or a leaf of the tree that isn't its first
abbrev Inner : Tree → ℕ → ℕ → Type 0
Inner t o k = (o ≤ k) × (k < o + leaves t) × (Leads t → o < k)

range : (t : Tree) (c o u : ℕ) → Sound t → Holds t o u → (class_of t c o u ≡ c) ⊎ Inner t o (class_of t c o u)
range (strand n) c o u s (p, q) = let z : u - o ≡ 0 = omega (arith, p, q) in inl (ap (λ (k : ℕ). get_or (c ∷ []) k 0) z)
range (series a b) c o u s (p, q) =
    elim (held_in a b o u p q) [
      | inl l ↦ (let e = class_left a b c c o u l in elim (range a c o u s.0 l) [
        | inl r ↦ inl (e ∙ r)
        | inr r ↦ inr (let x = r.0 in let y = r.1 in (omega (arith, e, x), omega (arith, e, y), λ d. (let z = r.2 d in omega (arith, e, z))))
      ])
      | inr l ↦ (let e = class_right a b c c o u l in let k = has_leaf a in elim (range b c (o + leaves a) u s.1 l) [
        | inl r ↦ inl (e ∙ r)
        | inr r ↦ inr (let x = r.0 in let y = r.1 in (omega (arith, e, x), omega (arith, e, y), λ d. omega (arith, e, x, k)))
      ])
    ]
range (parallel a b) c o u s (p, q) =
    elim (held_in a b o u p q) [
      | inl l ↦ (let e = class_left a b o (o + leaves a) o u l in let k = has_leaf a in elim (range a o o u s.2 l) [
        | inl r ↦ inr (omega (arith, e, r), omega (arith, e, r, k), λ d. absurd d)
        | inr r ↦ inr (let x = r.0 in let y = r.1 in (omega (arith, e, x), omega (arith, e, y), λ d. absurd d))
      ])
      | inr l ↦ (let e = class_right a b o (o + leaves a) o u l in let k = has_leaf b in elim (range b (o + leaves a) (o + leaves a) u s.3 l) [
        | inl r ↦ inr (omega (arith, e, r), omega (arith, e, r, k), λ d. absurd d)
        | inr r ↦ inr (let x = r.0 in let y = r.1 in (omega (arith, e, x), omega (arith, e, y), λ d. absurd d))
      ])
    ]

-- the class around the tree is none of its inner classes
abbrev Outside : Tree → ℕ → ℕ → Type 0
Outside t c o = (c < o) ⊎ ((c ≡ o) × Leads t)

-- a leaf with the class around the tree has no peer in the tree, any other has one
abbrev Alone : Tree → ℕ → ℕ → ℕ → Type 0
Alone t c o u =
    ((class_of t c o u ≡ c) × ((w : ℕ) → Parallel t o u w → ⊥))
    ⊎ (Inner t o (class_of t c o u) × (class_of t c o u ≢ c) × ((w : ℕ) × Parallel t o u w))

not_inner : (t : Tree) (c o k : ℕ) → Outside t c o → Inner t o k → k ≢ c
not_inner t c o k (inl l) (x, y, z) e = omega (arith, l, x, e)
not_inner t c o k (inr l) (x, y, z) e = let m = z l.1 in let n = l.0 in omega (arith, m, n, e)

outside_left : (a b : Tree) (c o : ℕ) → Outside (series a b) c o → Outside a c o
outside_left a b c o h = h

outside_right : (a b : Tree) (c o : ℕ) → Outside (series a b) c o → Outside b c (o + leaves a)
outside_right a b c o (inl l) = inl (omega (arith, l))
outside_right a b c o (inr l) = let k = has_leaf a in let n = l.0 in inl (omega (arith, n, k))

alone : (t : Tree) (c o u : ℕ) → Sound t → Outside t c o → Holds t o u → Alone t c o u
alone (strand n) c o u s out (p, q) = let z : u - o ≡ 0 = omega (arith, p, q) in inl (ap (λ (k : ℕ). get_or (c ∷ []) k 0) z, λ w h. h)
alone (series a b) c o u s out (p, q) =
    elim (held_in a b o u p q) [
      | inl l ↦ (let e = class_left a b c c o u l in elim (alone a c o u s.0 (outside_left a b c o out) l) [
        | inl r ↦ inl (e ∙ r.0, λ w h. r.1 w (series_left a b o u w l h))
        | inr r ↦ inr (
          (let i = r.0 in let x = i.0 in let y = i.1 in (omega (arith, e, x), omega (arith, e, y), λ d. (let z = i.2 d in omega (arith, e, z)))),
          (λ f. r.1 (sym e ∙ f)),
          (r.2.0, inl r.2.1),
        )
      ])
      | inr l ↦ (let e = class_right a b c c o u l in let k = has_leaf a in elim (alone b c (o + leaves a) u s.1 (outside_right a b c o out) l) [
        | inl r ↦ inl (e ∙ r.0, λ w h. r.1 w (series_right a b o u w l h))
        | inr r ↦ inr (
          (let i = r.0 in let x = i.0 in let y = i.1 in (omega (arith, e, x), omega (arith, e, y), λ d. omega (arith, e, x, k))),
          (λ f. r.1 (sym e ∙ f)),
          (r.2.0, inr r.2.1),
        )
      ])
    ]
alone (parallel a b) c o u s out (p, q) =
    let inner : Inner (parallel a b) o (class_of (parallel a b) c o u) =
    elim (range (parallel a b) o o u s (p, q)) [ inl r ↦ (let k = has_leaf a in (omega (arith, r), omega (arith, r, k), λ d. absurd d)) | inr r ↦ r ] in
    let ne = not_inner (parallel a b) c o (class_of (parallel a b) c o u) out inner in
    elim (held_in a b o u p q) [
      | inl l ↦ (let k = has_leaf b in inr (inner, ne, (o + leaves a, inr (inr (inl (l, (omega arith, omega (arith, k))))))))
      | inr l ↦ (let k = has_leaf a in inr (inner, ne, (o, inr (inr (inr ((omega arith, omega (arith, k)), l))))))
    ]

abbrev pub SameIn : Tree → ℕ → ℕ → ℕ → Type 0
SameIn t o u v = (w : ℕ) → Parallel t o u w ↔ Parallel t o v w

abbrev Told : Tree → ℕ → ℕ → ℕ → ℕ → Type 0
Told t c o u v =
    ((class_of t c o u ≡ class_of t c o v) × SameIn t o u v)
    ⊎ ((class_of t c o u ≢ class_of t c o v) × (SameIn t o u v → ⊥))

turned : (t : Tree) (c o u v : ℕ) → Told t c o u v → Told t c o v u
turned t c o u v (inl r) = inl (sym r.0, λ w. ((r.1 w).1, (r.1 w).0))
turned t c o u v (inr r) = inr ((λ e. r.0 (sym e)), λ g. r.1 (λ w. ((g w).1, (g w).0)))

along : (x y x' y' : ℕ) (A B : Type 0) → x ≡ x' → y ≡ y' → (A → B) → (B → A) → ((x' ≡ y') × A) ⊎ ((x' ≢ y') × (A → ⊥)) → ((x ≡ y) × B) ⊎ ((x ≢ y) × (B → ⊥))
along x y x' y' A B e f to from (inl r) = inl (e ∙ (r.0 ∙ sym f), to r.1)
along x y x' y' A B e f to from (inr r) = inr ((λ g. r.0 (sym e ∙ (g ∙ f))), λ b. r.1 (from b))

-- on the two sides of an S node
across : (a b : Tree) (c o u v : ℕ) → Sound (series a b) → Outside (series a b) c o → Holds a o u → Holds b (o + leaves a) v → Told (series a b) c o u v
across a b c o u v s out i j =
    let e = class_left a b c c o u i in
    let f = class_right a b c c o v j in
    elim (alone a c o u s.0 (outside_left a b c o out) i) [
      | inl x ↦ elim (alone b c (o + leaves a) v s.1 (outside_right a b c o out) j) [
        | inl y ↦ inl (
          e ∙ (x.0 ∙ (sym y.0 ∙ sym f)),
          λ w. ((λ h. absurd (x.1 w (series_left a b o u w i h))), λ h. absurd (y.1 w (series_right a b o v w j h))),
        )
        | inr y ↦ inr (
          (λ g. y.1 (sym f ∙ (sym g ∙ (e ∙ x.0)))),
          λ g. x.1 y.2.0 (series_left a b o u y.2.0 i ((g y.2.0).1 (inr y.2.1))),
        )
      ]
      | inr x ↦ inr (
        (λ g. elim (range b c (o + leaves a) v s.1 j) [
          | inl r ↦ x.1 (sym e ∙ (g ∙ (f ∙ r)))
          | inr r ↦ (let k = x.0.1 in let m = r.0 in omega (arith, e, f, g, k, m))
        ]),
        λ g. (let h = series_right a b o v x.2.0 j ((g x.2.0).0 (inl x.2.1)) in
            apart a b o x.2.0 (holds_both a o u x.2.0 x.2.1).1 (holds_both b (o + leaves a) v x.2.0 h).1),
      )
    ]

-- on the two sides of a P node
beside_each_other : (a b : Tree) (c o u v : ℕ) → Sound (parallel a b) → Holds a o u → Holds b (o + leaves a) v → Told (parallel a b) c o u v
beside_each_other a b c o u v s i j =
    let e = class_left a b o (o + leaves a) o u i in
    let f = class_right a b o (o + leaves a) o v j in
    let n = has_leaf a in
    let low : class_of a o o u < o + leaves a = elim (range a o o u s.2 i) [ inl r ↦ omega (arith, r, n) | inr r ↦ r.1 ] in
    let high : o + leaves a ≤ class_of b (o + leaves a) (o + leaves a) v = elim (range b (o + leaves a) (o + leaves a) v s.3 j) [ inl r ↦ omega (arith, r) | inr r ↦ r.0 ] in
    inr ((λ g. omega (arith, e, f, g, low, high)), λ g. not_to_itself (parallel a b) o v ((g v).0 (inr (inr (inl (i, j))))))

pub wide_left : (a b : Tree) (o u v : ℕ) → Holds a o u → Holds a o v → SameIn a o u v → (w : ℕ) → Parallel (parallel a b) o u w → Parallel (parallel a b) o v w
wide_left a b o u v i j g w (inl h) = inl ((g w).0 h)
wide_left a b o u v i j g w (inr (inl h)) = absurd (apart a b o u i (holds_both b (o + leaves a) u w h).0)
wide_left a b o u v i j g w (inr (inr (inl h))) = inr (inr (inl (j, h.1)))
wide_left a b o u v i j g w (inr (inr (inr h))) = absurd (apart a b o u i h.1)

pub wide_right : (a b : Tree) (o u v : ℕ) → Holds b (o + leaves a) u → Holds b (o + leaves a) v → SameIn b (o + leaves a) u v → (w : ℕ) → Parallel (parallel a b) o u w → Parallel (parallel a b) o v w
wide_right a b o u v i j g w (inl h) = absurd (apart a b o u (holds_both a o u w h).0 i)
wide_right a b o u v i j g w (inr (inl h)) = inr (inl ((g w).0 h))
wide_right a b o u v i j g w (inr (inr (inl h))) = absurd (apart a b o u h.0 i)
wide_right a b o u v i j g w (inr (inr (inr h))) = inr (inr (inr (h.0, j)))

pub back : (t : Tree) (o u v : ℕ) → SameIn t o u v → SameIn t o v u
back t o u v g w = ((g w).1, (g w).0)

told : (t : Tree) (c o u v : ℕ) → Sound t → Outside t c o → Holds t o u → Holds t o v → Told t c o u v
told (strand n) c o u v s out (p, q) (p', q') =
    let z : u - o ≡ v - o = omega (arith, p, q, p', q') in
    inl (ap (λ (k : ℕ). get_or (c ∷ []) k 0) z, λ w. ((λ h. h), λ h. h))
told (series a b) c o u v s out (p, q) (p', q') =
    elim (held_in a b o u p q) [
      | inl i ↦ elim (held_in a b o v p' q') [
        | inl j ↦ along _ _ _ _ (SameIn a o u v) (SameIn (series a b) o u v) (class_left a b c c o u i) (class_left a b c c o v j)
            (λ g w. ((λ h. inl ((g w).0 (series_left a b o u w i h))), λ h. inl ((g w).1 (series_left a b o v w j h))))
            (λ g w. ((λ h. series_left a b o v w j ((g w).0 (inl h))), λ h. series_left a b o u w i ((g w).1 (inl h))))
            (told a c o u v s.0 (outside_left a b c o out) i j)
        | inr j ↦ across a b c o u v s out i j
      ]
      | inr i ↦ elim (held_in a b o v p' q') [
        | inl j ↦ turned (series a b) c o v u (across a b c o v u s out j i)
        | inr j ↦ along _ _ _ _ (SameIn b (o + leaves a) u v) (SameIn (series a b) o u v) (class_right a b c c o u i) (class_right a b c c o v j)
            (λ g w. ((λ h. inr ((g w).0 (series_right a b o u w i h))), λ h. inr ((g w).1 (series_right a b o v w j h))))
            (λ g w. ((λ h. series_right a b o v w j ((g w).0 (inr h))), λ h. series_right a b o u w i ((g w).1 (inr h))))
            (told b c (o + leaves a) u v s.1 (outside_right a b c o out) i j)
      ]
    ]
told (parallel a b) c o u v s out (p, q) (p', q') =
    elim (held_in a b o u p q) [
      | inl i ↦ elim (held_in a b o v p' q') [
        | inl j ↦ along _ _ _ _ (SameIn a o u v) (SameIn (parallel a b) o u v) (class_left a b o (o + leaves a) o u i) (class_left a b o (o + leaves a) o v j)
            (λ g w. (wide_left a b o u v i j g w, wide_left a b o v u j i (back a o u v g) w))
            (λ g w. ((λ h. parallel_left a b o v w j (holds_both a o u w h).1 ((g w).0 (inl h))), λ h. parallel_left a b o u w i (holds_both a o v w h).1 ((g w).1 (inl h))))
            (told a o o u v s.2 (inr (refl, s.0)) i j)
        | inr j ↦ beside_each_other a b c o u v s i j
      ]
      | inr i ↦ elim (held_in a b o v p' q') [
        | inl j ↦ turned (parallel a b) c o v u (beside_each_other a b c o v u s j i)
        | inr j ↦ along _ _ _ _ (SameIn b (o + leaves a) u v) (SameIn (parallel a b) o u v) (class_right a b o (o + leaves a) o u i) (class_right a b o (o + leaves a) o v j)
            (λ g w. (wide_right a b o u v i j g w, wide_right a b o v u j i (back b (o + leaves a) u v g) w))
            (λ g w. ((λ h. parallel_right a b o v w j (holds_both b (o + leaves a) u w h).1 ((g w).0 (inr (inl h)))), λ h. parallel_right a b o u w i (holds_both b (o + leaves a) v w h).1 ((g w).1 (inr (inl h)))))
            (told b (o + leaves a) (o + leaves a) u v s.3 (inr (refl, s.1)) i j)
      ]
    ]

-- the trees of shapes are sound
abbrev SoundIf : Option Tree → Type 0
SoundIf None = Unit {0}
SoundIf (Some t) = Sound t

sound-then_later : (t : Tree) (o : Option Tree) → Sound t → SoundIf o → Sound (then_later t o)
sound-then_later t None s r = s
sound-then_later t (Some l) s r = (s, r)

leads-then_later : (t : Tree) (o : Option Tree) → Leads t → Leads (then_later t o)
leads-then_later t None h = h
leads-then_later t (Some l) h = h

leads-blocks : (x : Rest) → Leads (blocks x)
leads-blocks x = leads-then_later (block x) x.later (leads-then_later (strand (suc x.events)) x.after tt)

sound-block : (x : Rest) → SoundIf x.after → Sound (block x)
sound-block x a = sound-then_later (strand (suc x.events)) x.after tt a

sound-blocks : (x : Rest) → SoundIf x.after → SoundIf x.later → Sound (blocks x)
sound-blocks x a l = sound-then_later (block x) x.later (sound-block x a) l

sound-beside : (k : Invocation) (x y : Rest) → Sound (blocks x) → Sound (block y) → Sound (beside k (blocks x) (block y))
sound-beside invocations.Call x y s r = (s, r)
sound-beside invocations.Spawn x y s r = (leads-blocks x, leads-then_later (strand (suc y.events)) y.after tt, s, r)

sound_rest : (r : Shape) → SoundIf (rest_of r).after × SoundIf (rest_of r).later
sound_rest finish = (tt, tt)
sound_rest (act r) = sound_rest r
sound_rest (sync r) = (tt, sound-blocks (rest_of r) (sound_rest r).0 (sound_rest r).1)
sound_rest (child k u r) =
    (sound-beside k (rest_of u) (rest_of r) (sound-blocks (rest_of u) (sound_rest u).0 (sound_rest u).1) (sound-block (rest_of r) (sound_rest r).0), (sound_rest r).1)

-- one class is one set of peers
pub one_class : (s : Shape) (xs : List ℕ) (u v x y : ℕ) → xs ≡ class_numbers (tree s) 0 1 → 1 ≤ u → u ≤ length xs → 1 ≤ v → v ≤ length xs
    → x ≡ get_or xs (u - 1) 0 → y ≡ get_or xs (v - 1) 0 → (x ≡ y) ↔ SamePeers (tree s) u v
one_class s xs u v x y e p p' q q' f g =
    let n = length-class_numbers (tree s) 0 1 in
    let m = ap (λ (l : List ℕ). length l) e in
    let f' : x ≡ class_of (tree s) 0 1 u = f ∙ ap (λ (l : List ℕ). get_or l (u - 1) 0) e in
    let g' : y ≡ class_of (tree s) 0 1 v = g ∙ ap (λ (l : List ℕ). get_or l (v - 1) 0) e in
    elim (told (tree s) 0 1 u v (sound-blocks (rest_of s) (sound_rest s).0 (sound_rest s).1) (inl (omega arith)) (p, omega (arith, p', n, m)) (q, omega (arith, q', n, m))) [
      | inl r ↦ ((λ _. r.1), λ _. f' ∙ (r.0 ∙ sym g'))
      | inr r ↦ ((λ k. absurd (r.0 (sym f' ∙ (k ∙ g')))), λ h. absurd (r.1 h))
    ]
