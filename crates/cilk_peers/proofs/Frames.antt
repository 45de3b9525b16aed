-- A frame's first and last strands have the same peers.
use Rattle.std.proofs.Common.{◌≡◌, ℕ, suc, ◌+◌, ◌-◌, ◌<◌, length, get_or, replicate, Option, Some, None, refl, sym, ◌∙◌, subst, arith, ◌⊎◌, inl, inr}
use Rattle.std.proofs.lemmas.List.{get_or-replicate}
use Rattle.cilk_types.specs.declared.invocation.Invocation.{Invocation}
use Rattle.cilk_types.specs.declared.invocation.Invocation.TheVariants as invocations
use Rattle.cilk_tree.specs.Shape.{Shape, finish, act, sync, child, marks}
use Rattle.cilk_tree.specs.Tree.{Tree, strand, series, parallel, then_later, beside, Rest, block, blocks, rest_of, tree, leaves}
use Rattle.cilk_tree.specs.Parallel.{Holds, Parallel}
use Rattle.cilk_tree.specs.Reach.{HasSync, HasSyncIf, IsSynced}
use Rattle.cilk_tree.proofs.Backward.{has_leaf}
use Rattle.cilk_tree.proofs.Order.{holds_both, series_left, series_right}
use Rattle.cilk_tree.proofs.Lines.{long_marks}
use Rattle.cilk_tree.proofs.Places.{size, Lies, leaf, leaf_left, leaf_right, leaf_held, strand_leaf, size-spelled}
use Rattle.cilk_tree.proofs.Strands.{number, leaves-block, leaves-beside}
use Rattle.cilk_tree.proofs.Tied.{sizes, size-block, size-blocks, size-beside, measures}
use Rattle.cilk_peers.specs.Frames.{IsInner, IsFrame, FramesKeepPeers}
use Rattle.cilk_peers.proofs.Same.{SameIn, wide_left, wide_right, back}

-- ---- a tree whose first, and one whose last leaf has an event and is under no P node
abbrev Opens : Tree → Type 0
Opens (strand n) = 0 < n
Opens (series a b) = Opens a
Opens (parallel a b) = ⊥

abbrev Closes : Tree → Type 0
Closes (strand n) = 0 < n
Closes (series a b) = Closes b
Closes (parallel a b) = ⊥

abbrev ClosesIf : Option Tree → Type 0
ClosesIf None = Unit {0}
ClosesIf (Some t) = Closes t

opens_size : (t : Tree) → Opens t → 0 < size t
opens_size (strand n) h = h
opens_size (series a b) h = let k = opens_size a h in omega (arith, k)
opens_size (parallel a b) h = absurd h

closes_size : (t : Tree) → Closes t → 0 < size t
closes_size (strand n) h = h
closes_size (series a b) h = let k = closes_size b h in omega (arith, k)
closes_size (parallel a b) h = absurd h

first_leaf : (t : Tree) (o f : ℕ) → Opens t → leaf t o f f ≡ o
first_leaf (strand n) o f h = get_or-replicate n (f - f) o 0 (omega (arith, h))
first_leaf (series a b) o f h = let k = opens_size a h in leaf_left a b o f f (omega arith, omega (arith, k)) ∙ first_leaf a o f h
first_leaf (parallel a b) o f h = absurd h

last_leaf : (t : Tree) (o f e : ℕ) → Closes t → suc e ≡ f + size t → suc (leaf t o f e) ≡ o + leaves t
last_leaf (strand n) o f e h end =
    let x : get_or (replicate n o) (e - f) 0 ≡ o = get_or-replicate n (e - f) o 0 (omega (arith, h, end)) in
    omega (arith, x)
last_leaf (series a b) o f e h end =
    let k = closes_size b h in
    let x = leaf_right a b o f e (omega (arith, k, end), omega (arith, end)) in
    let y = last_leaf b (o + leaves a) (f + size a) e h (omega (arith, end)) in
    omega (arith, x, y)
last_leaf (parallel a b) o f e h end = absurd h

first_alone : (t : Tree) (o w : ℕ) → Opens t → Parallel t o o w → ⊥
first_alone (strand n) o w h g = absurd g
first_alone (series a b) o w h (inl g) = first_alone a o w h g
first_alone (series a b) o w h (inr g) = let k = (holds_both b (o + leaves a) o w g).0 in let l = has_leaf a in omega (arith, k, l)
first_alone (parallel a b) o w h g = absurd h

last_alone : (t : Tree) (o v w : ℕ) → Closes t → suc v ≡ o + leaves t → Parallel t o v w → ⊥
last_alone (strand n) o v w h end g = absurd g
last_alone (series a b) o v w h end (inl g) = let k = (holds_both a o v w g).0 in let l = has_leaf b in omega (arith, k, l, end)
last_alone (series a b) o v w h end (inr g) = last_alone b (o + leaves a) v w h (omega (arith, end)) g
last_alone (parallel a b) o v w h end g = absurd h

-- ---- two positions of a tree whose leaves have the same peers in it
record Alike (t : Tree) (o f b e : ℕ) : Type 0 where
  one : Lies f (size t) b
  other : Lies f (size t) e
  same : SameIn t o (leaf t o f b) (leaf t o f e)

abbrev AlikeIf : Option Tree → ℕ → ℕ → ℕ → ℕ → Type 0
AlikeIf None o f b e = ⊥
AlikeIf (Some t) o f b e = Alike t o f b e

ends_alike : (t : Tree) (o f e : ℕ) → Opens t → Closes t → suc e ≡ f + size t → Alike t o f f e
ends_alike t o f e h g end =
    let k = opens_size t h in
    let x = first_leaf t o f h in
    let y = last_leaf t o f e g end in
    record {
      one = (omega arith, omega (arith, k));
      other = (omega (arith, k, end), omega (arith, end));
      same = λ w. (
        (λ i. absurd (first_alone t o w h (subst (λ (u : ℕ). Parallel t o u w) x i))),
        (λ i. absurd (last_alone t o (leaf t o f e) w g y i)),
      );
    }

same_named : (t : Tree) (o u v u' v' : ℕ) → u ≡ u' → v ≡ v' → SameIn t o u v → SameIn t o u' v'
same_named t o u v u' v' x y h = subst (λ (k : ℕ). SameIn t o u' k) y (subst (λ (k : ℕ). SameIn t o k v) x h)

series_same_left : (a b : Tree) (o u v : ℕ) → Holds a o u → Holds a o v → SameIn a o u v → SameIn (series a b) o u v
series_same_left a b o u v i j g w = ((λ h. inl ((g w).0 (series_left a b o u w i h))), λ h. inl ((g w).1 (series_left a b o v w j h)))

series_same_right : (a b : Tree) (o u v : ℕ) → Holds b (o + leaves a) u → Holds b (o + leaves a) v → SameIn b (o + leaves a) u v → SameIn (series a b) o u v
series_same_right a b o u v i j g w = ((λ h. inr ((g w).0 (series_right a b o u w i h))), λ h. inr ((g w).1 (series_right a b o v w j h)))

series_alike_left : (a b : Tree) (o f p q : ℕ) → Alike a o f p q → Alike (series a b) o f p q
series_alike_left a b o f p q h =
    let x = h.one in
    let y = h.other in
    record {
      one = (x.0, omega (arith, x));
      other = (y.0, omega (arith, y));
      same = same_named (series a b) o _ _ _ _ (sym (leaf_left a b o f p x)) (sym (leaf_left a b o f q y)) (series_same_left a b o _ _ (leaf_held a o f p x) (leaf_held a o f q y) h.same);
    }

series_alike_right : (a b : Tree) (o f p q : ℕ) → Alike b (o + leaves a) (f + size a) p q → Alike (series a b) o f p q
series_alike_right a b o f p q h =
    let x = h.one in
    let y = h.other in
    record {
      one = (omega (arith, x), omega (arith, x));
      other = (omega (arith, y), omega (arith, y));
      same = same_named (series a b) o _ _ _ _ (sym (leaf_right a b o f p x)) (sym (leaf_right a b o f q y)) (series_same_right a b o _ _ (leaf_held b (o + leaves a) (f + size a) p x) (leaf_held b (o + leaves a) (f + size a) q y) h.same);
    }

parallel_alike_left : (a b : Tree) (o f p q : ℕ) → Alike a o f p q → Alike (parallel a b) o f p q
parallel_alike_left a b o f p q h =
    let x = h.one in
    let y = h.other in
    let i = leaf_held a o f p x in
    let j = leaf_held a o f q y in
    record {
      one = (x.0, omega (arith, x));
      other = (y.0, omega (arith, y));
      same = same_named (parallel a b) o _ _ _ _ (sym (leaf_left a b o f p x)) (sym (leaf_left a b o f q y))
          (λ w. (wide_left a b o _ _ i j h.same w, wide_left a b o _ _ j i (back a o _ _ h.same) w));
    }

parallel_alike_right : (a b : Tree) (o f p q : ℕ) → Alike b (o + leaves a) (f + size a) p q → Alike (parallel a b) o f p q
parallel_alike_right a b o f p q h =
    let x = h.one in
    let y = h.other in
    let i = leaf_held b (o + leaves a) (f + size a) p x in
    let j = leaf_held b (o + leaves a) (f + size a) q y in
    record {
      one = (omega (arith, x), omega (arith, x));
      other = (omega (arith, y), omega (arith, y));
      same = same_named (parallel a b) o _ _ _ _ (sym (leaf_right a b o f p x)) (sym (leaf_right a b o f q y))
          (λ w. (wide_right a b o _ _ i j h.same w, wide_right a b o _ _ j i (back b (o + leaves a) _ _ h.same) w));
    }

beside_alike_left : (k : Invocation) (a b : Tree) (o f p q : ℕ) → Alike a o f p q → Alike (beside k a b) o f p q
beside_alike_left invocations.Call a b o f p q h = series_alike_left a b o f p q h
beside_alike_left invocations.Spawn a b o f p q h = parallel_alike_left a b o f p q h

beside_alike_right : (k : Invocation) (a b : Tree) (o f p q : ℕ) → Alike b (o + leaves a) (f + size a) p q → Alike (beside k a b) o f p q
beside_alike_right invocations.Call a b o f p q h = series_alike_right a b o f p q h
beside_alike_right invocations.Spawn a b o f p q h = parallel_alike_right a b o f p q h

-- where the later blocks begin
moved : (t : Tree) (o o' f f' p q : ℕ) → o ≡ o' → f ≡ f' → Alike t o f p q → Alike t o' f' p q
moved t o o' f f' p q x y h = subst (λ (k : ℕ). Alike t k f' p q) x (subst (λ (k : ℕ). Alike t o k p q) y h)

later_alike : (t : Tree) (l : Option Tree) (o o' f f' p q : ℕ) → o' ≡ o + leaves t → f' ≡ f + size t → AlikeIf l o' f' p q → Alike (then_later t l) o f p q
later_alike t None o o' f f' p q x y h = absurd h
later_alike t (Some l) o o' f f' p q x y h = series_alike_right t l o f p q (moved l _ _ _ _ p q x y h)

first_alike : (t : Tree) (l : Option Tree) (o f p q : ℕ) → Alike t o f p q → Alike (then_later t l) o f p q
first_alike t None o f p q h = h
first_alike t (Some l) o f p q h = series_alike_left t l o f p q h

-- a block, and blocks, whose first strand is leaf o and begins at position f
block_alike : (x : Rest) (o o' f f' p q : ℕ) → o' ≡ suc o → f' ≡ f + suc x.events → AlikeIf x.after o' f' p q → Alike (block x) o f p q
block_alike x o o' f f' p q i j h = later_alike (strand (suc x.events)) x.after o o' f f' p q (omega (arith, i)) j h

blocks_alike : (x : Rest) (o f p q : ℕ) → AlikeIf x.after (suc o) (f + suc x.events) p q ⊎ AlikeIf x.later (suc o + number x.after) (f + suc x.events + sizes x.after) p q → Alike (blocks x) o f p q
blocks_alike x o f p q (inl h) = first_alike (block x) x.later o f p q (block_alike x o (suc o) f (f + suc x.events) p q refl refl h)
blocks_alike x o f p q (inr h) =
    let i = leaves-block x in
    let j = size-block x in
    later_alike (block x) x.later o (suc o + number x.after) f (f + suc x.events + sizes x.after) p q (omega (arith, i)) (omega (arith, j)) h

-- ---- frames open and close
opens-then_later : (t : Tree) (l : Option Tree) → Opens t → Opens (then_later t l)
opens-then_later t None h = h
opens-then_later t (Some l) h = h

opens_blocks : (x : Rest) → Opens (blocks x)
opens_blocks x = opens-then_later (block x) x.later (opens-then_later (strand (suc x.events)) x.after (omega arith))

closes_block : (x : Rest) → ClosesIf x.after → Closes (block x)
closes_block x h = by x.after h
  where
    by : (l : Option Tree) → ClosesIf l → Closes (then_later (strand (suc x.events)) l)
    by None h = omega arith
    by (Some l) h = h

-- with no later blocks this is the frame's last block
abbrev ClosesRest : Option Tree → Option Tree → Type 0
ClosesRest after None = ClosesIf after
ClosesRest after (Some l) = Closes l

closes_blocks : (x : Rest) → ClosesRest x.after x.later → Closes (blocks x)
closes_blocks x h = by x.later h
  where
    by : (l : Option Tree) → ClosesRest x.after l → Closes (then_later (block x) l)
    by None h = closes_block x h
    by (Some l) h = h

abbrev IsThere : Option Tree → Type 0
IsThere None = ⊥
IsThere (Some t) = Unit {0}

later_there : (r : Shape) → HasSync r → IsThere (rest_of r).later
later_there finish h = absurd h
later_there (act r) h = later_there r h
later_there (sync r) h = tt
later_there (child k u r) h = later_there r h

closes_more : (k : Invocation) (a : Tree) (y : Rest) → (k ≡ invocations.Spawn → IsThere y.later) → ClosesRest y.after y.later → ClosesRest (Some (beside k a (block y))) y.later
closes_more k a y there h = by k y.later there h
  where
    by : (k : Invocation) (l : Option Tree) → (k ≡ invocations.Spawn → IsThere l) → ClosesRest y.after l → ClosesRest (Some (beside k a (block y))) l
    by invocations.Call None there h = closes_block y h
    by invocations.Spawn None there h = absurd (there refl)
    by k (Some l) there h = h

there_if : (k : Invocation) (r : Shape) → HasSyncIf k r → k ≡ invocations.Spawn → IsThere (rest_of r).later
there_if invocations.Call r h e = absurd (cc e)
there_if invocations.Spawn r h e = later_there r h

closes_rest : (r : Shape) → IsSynced r → ClosesRest (rest_of r).after (rest_of r).later
closes_rest finish h = tt
closes_rest (act r) h = closes_rest r h
closes_rest (sync r) h = closes_blocks (rest_of r) (closes_rest r h)
closes_rest (child k u r) (h, g, i) = closes_more k (blocks (rest_of u)) (rest_of r) (there_if k r h) (closes_rest r i)

frame_alike : (u : Shape) (o f e : ℕ) → IsSynced u → e ≡ f + length (marks u) → Alike (tree u) o f f e
frame_alike u o f e h g =
    let a = (measures u).1 in
    let b = size-blocks (rest_of u) in
    let c = long_marks u in
    ends_alike (tree u) o f e (opens_blocks (rest_of u)) (closes_blocks (rest_of u) (closes_rest u h)) (omega (arith, a, b, c, g))

-- The rest of a frame from position k, whose current strand is leaf n; its block continues at j,
-- and the later blocks are at l.
inner_alike : (r : Shape) (n k j l b e : ℕ) → IsSynced r → j ≡ k + (rest_of r).events → l ≡ j + sizes (rest_of r).after → IsInner r k b e
    → AlikeIf (rest_of r).after (suc n) j b e ⊎ AlikeIf (rest_of r).later (suc n + number (rest_of r).after) l b e
inner_alike finish n k j l b e s f g h = absurd h
inner_alike (act r) n k j l b e s f g h = inner_alike r n (suc k) j l b e s (omega (arith, f)) g h
inner_alike (sync r) n k j l b e s f g h =
    let y = rest_of r in
    let i : Alike (blocks y) (suc n) k b e = blocks_alike y (suc n) k b e (inner_alike r (suc n) (suc k) (k + suc y.events) (k + suc y.events + sizes y.after) b e s (omega arith) refl h) in
    inr (moved (blocks y) _ _ _ _ b e (omega arith) (omega (arith, f, g)) i)
inner_alike (child c u r) n k j l b e (s, s', s'') f g h =
    let x = rest_of u in
    let y = rest_of r in
    let m = size-beside c (blocks x) (block y) in
    let d = leaves-beside c (blocks x) (block y) in
    let z = size-block y in
    let v = leaves-block y in
    let w = size-blocks x in
    let a = (measures u).1 in
    let i = long_marks u in
    let o : suc k ≡ j = omega (arith, f) in
    elim h [
      | inl (p, q) ↦ (let t : Alike (blocks x) (suc n) (suc k) (suc k) e = frame_alike u (suc n) (suc k) e s' q in
          let t' : Alike (blocks x) (suc n) (suc k) b e = subst (λ (p : ℕ). Alike (blocks x) (suc n) (suc k) p e) (sym p) t in
          inl (beside_alike_left c (blocks x) (block y) (suc n) j b e (moved (blocks x) _ _ _ _ b e refl o t')))
      | inr (inl t) ↦ inl (beside_alike_left c (blocks x) (block y) (suc n) j b e
          (moved (blocks x) _ _ _ _ b e refl o (blocks_alike x (suc n) (suc k) b e (inner_alike u (suc n) (suc (suc k)) (suc k + suc x.events) (suc k + suc x.events + sizes x.after) b e s' (omega arith) refl t))))
      | inr (inr t) ↦ (let O = suc n + leaves (blocks x) in
          let F = j + size (blocks x) in
          elim (inner_alike r O (suc (suc (suc k + length (marks u)))) (F + suc y.events) (F + suc y.events + sizes y.after) b e s'' (omega (arith, o, w, a, i)) refl t) [
            | inl t' ↦ inl (beside_alike_right c (blocks x) (block y) (suc n) j b e (block_alike y O (suc O) F (F + suc y.events) b e refl refl t'))
            | inr t' ↦ inr (later_moved y.later _ _ _ _ b e (omega (arith, d, v)) (omega (arith, g, m, z)) t')
          ])
    ]
  where
    later_moved : (t : Option Tree) (o o' f f' p q : ℕ) → o ≡ o' → f ≡ f' → AlikeIf t o f p q → AlikeIf t o' f' p q
    later_moved None o o' f f' p q x y h = h
    later_moved (Some t) o o' f f' p q x y h = moved t o o' f f' p q x y h

frame_in_tree : (s : Shape) (b e : ℕ) → IsSynced s → IsFrame s b e → Alike (tree s) 1 1 b e
frame_in_tree s b e h (inl (p, q)) =
    subst (λ (k : ℕ). Alike (tree s) 1 1 k e) (sym p) (frame_alike s 1 1 e h (omega (arith, q)))
frame_in_tree s b e h (inr g) =
    let x = rest_of s in
    blocks_alike x 1 1 b e (inner_alike s 1 2 (1 + suc x.events) (1 + suc x.events + sizes x.after) b e h (omega arith) refl g)

pub frames_keep_peers : FramesKeepPeers
frames_keep_peers s es sp h b e g =
    let t = frame_in_tree s b e h g in
    let x = t.one in
    let y = t.other in
    let n = size-spelled s es sp in
    same_named (tree s) 1 _ _ _ _ (sym (strand_leaf s es sp b (x.0, omega (arith, x, n)))) (sym (strand_leaf s es sp e (y.0, omega (arith, y, n)))) t.same
