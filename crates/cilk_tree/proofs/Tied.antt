-- A line's events lie beside each other where they do in the tree of its shape, so before is
-- reachability.
use Rattle.std.proofs.Common.{◌≡◌, ℕ, suc, ◌+◌, ◌<◌, List, [], length, Option, Some, None, refl, sym, subst, arith, ◌⊎◌, inl, inr}
use Rattle.std.proofs.lemmas.Bool.{cases_lt}
use Rattle.cilk_types.specs.declared.event.Event.{Event}
use Rattle.cilk_types.specs.declared.invocation.Invocation.{Invocation}
use Rattle.cilk_types.specs.declared.invocation.Invocation.TheVariants as invocations
use Rattle.cilk_tree.specs.Shape.{Shape, finish, act, sync, child, Spells}
use Rattle.cilk_tree.specs.Tree.{Tree, strand, then_later, beside, Rest, block as block_of, blocks, rest_of, tree}
use Rattle.cilk_tree.specs.Reach.{Among, preceding, ReachesOnlyLater, IsReachability}
use Rattle.cilk_tree.proofs.Places.{size, Beside, before_earlier, earlier_before, size-spelled}
use Rattle.cilk_tree.proofs.Lines.{Line, plain, line_of, long, block, whole, laid_whole, none_past, closed_line}
use Rattle.cilk_tree.proofs.Reaches.{among_none, Across, Par, low_none, lower, reaches_less, reaches_apart, reaches}

abbrev pub sizes : Option Tree → ℕ
sizes None = 0
sizes (Some t) = size t

abbrev BesideIf : Option Tree → ℕ → ℕ → ℕ → Type 0
BesideIf None e p q = ⊥
BesideIf (Some t) e p q = Beside t e p q

size-then_later : (t : Tree) (l : Option Tree) → size (then_later t l) ≡ size t + sizes l
size-then_later t None = omega arith
size-then_later t (Some l) = refl

pub size-block : (x : Rest) → size (block_of x) ≡ suc x.events + sizes x.after
size-block x = size-then_later (strand (suc x.events)) x.after

pub size-blocks : (x : Rest) → size (blocks x) ≡ suc x.events + sizes x.after + sizes x.later
size-blocks x = let h = size-then_later (block_of x) x.later in let g = size-block x in omega (arith, h, g)

pub size-beside : (k : Invocation) (a b : Tree) → size (beside k a b) ≡ size a + size b
size-beside invocations.Call a b = refl
size-beside invocations.Spawn a b = refl

-- the numbers of events of the current block and of all blocks
pub measures : (r : Shape) → (block (line_of r) ≡ (rest_of r).events + sizes (rest_of r).after) × (long (line_of r) ≡ (rest_of r).events + sizes (rest_of r).after + sizes (rest_of r).later)
measures finish = (refl, refl)
measures (act r) = let h = measures r in let a = h.0 in let b = h.1 in (omega (arith, a), omega (arith, b))
measures (sync r) = let h = (measures r).1 in let g = size-blocks (rest_of r) in (refl, omega (arith, h, g))
measures (child k u r) =
    let a = (measures u).1 in
    let b = (measures r).0 in
    let c = (measures r).1 in
    let d = size-blocks (rest_of u) in
    let e = size-block (rest_of r) in
    let g = size-beside k (blocks (rest_of u)) (block_of (rest_of r)) in
    (omega (arith, a, b, d, e, g), omega (arith, a, c, d, e, g))

join : (t : Tree) (l : Option Tree) (e j p q : ℕ) → j ≡ e + size t → Beside t e p q ⊎ BesideIf l j p q → Beside (then_later t l) e p q
join t None e j p q is (inl h) = h
join t None e j p q is (inr h) = absurd h
join t (Some l) e j p q is (inl h) = inl h
join t (Some l) e j p q is (inr h) = inr (subst (λ (z : ℕ). Beside l z p q) is h)

part : (t : Tree) (l : Option Tree) (e j p q : ℕ) → j ≡ e + size t → Beside (then_later t l) e p q → Beside t e p q ⊎ BesideIf l j p q
part t None e j p q is h = inl h
part t (Some l) e j p q is (inl h) = inl h
part t (Some l) e j p q is (inr h) = inr (subst (λ (z : ℕ). Beside l z p q) (sym is) h)

join_blocks : (x : Rest) (e j l p q : ℕ) → j ≡ e + suc x.events → l ≡ j + sizes x.after → BesideIf x.after j p q ⊎ BesideIf x.later l p q → Beside (blocks x) e p q
join_blocks x e j l p q f g (inl h) = join (block_of x) x.later e l p q (let s = size-block x in omega (arith, f, g, s)) (inl (join (strand (suc x.events)) x.after e j p q f (inr h)))
join_blocks x e j l p q f g (inr h) = join (block_of x) x.later e l p q (let s = size-block x in omega (arith, f, g, s)) (inr h)

no_strand : (x : Rest) (j p q : ℕ) → ⊥ ⊎ BesideIf x.after j p q → BesideIf x.after j p q
no_strand x j p q (inl h) = absurd h
no_strand x j p q (inr h) = h

part_block : (x : Rest) (e j p q : ℕ) → j ≡ e + suc x.events → Beside (block_of x) e p q → BesideIf x.after j p q
part_block x e j p q f h = no_strand x j p q (part (strand (suc x.events)) x.after e j p q f h)

part_blocks : (x : Rest) (e j l p q : ℕ) → j ≡ e + suc x.events → l ≡ j + sizes x.after → Beside (blocks x) e p q → BesideIf x.after j p q ⊎ BesideIf x.later l p q
part_blocks x e j l p q f g h =
    elim (part (block_of x) x.later e l p q (let s = size-block x in omega (arith, f, g, s)) h) [
      | inl k ↦ inl (part_block x e j p q f k)
      | inr k ↦ inr k
    ]

join_child : (k : Invocation) (a b : Tree) (e n m p q : ℕ) → n ≡ size a → m ≡ size b → Beside a e p q ⊎ Beside b (e + n) p q ⊎ Across k e n m p q → Beside (beside k a b) e p q
join_child invocations.Call a b e n m p q f g (inl h) = inl h
join_child invocations.Call a b e n m p q f g (inr (inl h)) = inr (subst (λ (z : ℕ). Beside b (e + z) p q) f h)
join_child invocations.Call a b e n m p q f g (inr (inr h)) = absurd h
join_child invocations.Spawn a b e n m p q f g (inl h) = inl h
join_child invocations.Spawn a b e n m p q f g (inr (inl h)) = inr (inl (subst (λ (z : ℕ). Beside b (e + z) p q) f h))
join_child invocations.Spawn a b e n m p q f g (inr (inr (x, y))) = inr (inr ((omega (arith, x), omega (arith, x, f)), (omega (arith, y, f), omega (arith, y, f, g))))

part_child : (k : Invocation) (a b : Tree) (e n m p q : ℕ) → n ≡ size a → m ≡ size b → Beside (beside k a b) e p q → Beside a e p q ⊎ Beside b (e + n) p q ⊎ Across k e n m p q
part_child invocations.Call a b e n m p q f g (inl h) = inl h
part_child invocations.Call a b e n m p q f g (inr h) = inr (inl (subst (λ (z : ℕ). Beside b (e + z) p q) (sym f) h))
part_child invocations.Spawn a b e n m p q f g (inl h) = inl h
part_child invocations.Spawn a b e n m p q f g (inr (inl h)) = inr (inl (subst (λ (z : ℕ). Beside b (e + z) p q) (sym f) h))
part_child invocations.Spawn a b e n m p q f g (inr (inr (x, y))) = inr (inr ((omega (arith, x), omega (arith, x, f)), (omega (arith, y, f), omega (arith, y, f, g))))

-- The rest of a frame from position k: its block continues at j, and the later blocks are at l.
to_tree : (r : Shape) (k j l p q : ℕ) → j ≡ k + (rest_of r).events → l ≡ j + sizes (rest_of r).after → Par (line_of r) k p q → BesideIf (rest_of r).after j p q ⊎ BesideIf (rest_of r).later l p q
to_tree finish k j l p q f g h = absurd h
to_tree (act r) k j l p q f g h = to_tree r (suc k) j l p q (omega (arith, f)) g h
to_tree (sync r) k j l p q f g h =
    let y = rest_of r in
    let i : Beside (blocks y) k p q = join_blocks y k (k + suc y.events) (k + suc y.events + sizes y.after) p q refl refl (to_tree r (suc k) (k + suc y.events) (k + suc y.events + sizes y.after) p q (omega arith) refl h) in
    let z : k ≡ l = omega (arith, f, g) in
    inr (subst (λ (x : ℕ). Beside (blocks y) x p q) z i)
to_tree (child c u r) k j l p q f g h =
    let x = rest_of u in
    let y = rest_of r in
    let U : Line = plain (line_of u) in
    let n : long U ≡ size (blocks x) = let a = (measures u).1 in let b = size-blocks x in omega (arith, a, b) in
    let m : suc (block (line_of r)) ≡ size (block_of y) = let a = (measures r).0 in let b = size-block y in omega (arith, a, b) in
    let o : j ≡ suc k = omega (arith, f) in
    let w = size-beside c (blocks x) (block_of y) in
    let whole_child : Beside (blocks x) j p q ⊎ Beside (block_of y) (j + long U) p q ⊎ Across c j (long U) (suc (block (line_of r))) p q → Beside (beside c (blocks x) (block_of y)) j p q =
    join_child c (blocks x) (block_of y) j (long U) (suc (block (line_of r))) p q n m in
    elim h [
      | inl i ↦ inl (whole_child (inl (join_blocks x j (j + suc x.events) (j + suc x.events + sizes x.after) p q refl refl
          (to_tree u (suc (suc k)) (j + suc x.events) (j + suc x.events + sizes x.after) p q (omega (arith, o)) refl i))))
      | inr (inl i) ↦ elim (to_tree r (suc (suc (k + long U))) (j + long U + suc y.events) l p q (omega (arith, o)) (let b = size-block y in omega (arith, g, w, n, b)) i) [
        | inl v ↦ inl (whole_child (inr (inl (join (strand (suc y.events)) y.after (j + long U) (j + long U + suc y.events) p q refl (inr v)))))
        | inr v ↦ inr v
      ]
      | inr (inr i) ↦ inl (whole_child (inr (inr (subst (λ (z : ℕ). Across c z (long U) (suc (block (line_of r))) p q) (sym o) i))))
    ]

from_tree : (r : Shape) (k j l p q : ℕ) → j ≡ k + (rest_of r).events → l ≡ j + sizes (rest_of r).after → BesideIf (rest_of r).after j p q ⊎ BesideIf (rest_of r).later l p q → Par (line_of r) k p q
from_tree finish k j l p q f g (inl h) = absurd h
from_tree finish k j l p q f g (inr h) = absurd h
from_tree (act r) k j l p q f g h = from_tree r (suc k) j l p q (omega (arith, f)) g h
from_tree (sync r) k j l p q f g (inl h) = absurd h
from_tree (sync r) k j l p q f g (inr h) =
    let y = rest_of r in
    let z : l ≡ k = omega (arith, f, g) in
    from_tree r (suc k) (k + suc y.events) (k + suc y.events + sizes y.after) p q (omega arith) refl
    (part_blocks y k (k + suc y.events) (k + suc y.events + sizes y.after) p q refl refl (subst (λ (x : ℕ). Beside (blocks y) x p q) z h))
from_tree (child c u r) k j l p q f g (inl h) =
    let x = rest_of u in
    let y = rest_of r in
    let U : Line = plain (line_of u) in
    let n : long U ≡ size (blocks x) = let a = (measures u).1 in let b = size-blocks x in omega (arith, a, b) in
    let m : suc (block (line_of r)) ≡ size (block_of y) = let a = (measures r).0 in let b = size-block y in omega (arith, a, b) in
    let o : j ≡ suc k = omega (arith, f) in
    elim (part_child c (blocks x) (block_of y) j (long U) (suc (block (line_of r))) p q n m h) [
      | inl i ↦ inl (from_tree u (suc (suc k)) (j + suc x.events) (j + suc x.events + sizes x.after) p q (omega (arith, o)) refl
          (part_blocks x j (j + suc x.events) (j + suc x.events + sizes x.after) p q refl refl i))
      | inr (inl i) ↦ inr (inl (from_tree r (suc (suc (k + long U))) (j + long U + suc y.events) (j + long U + suc y.events + sizes y.after) p q (omega (arith, o)) refl
          (inl (part_block y (j + long U) (j + long U + suc y.events) p q refl i))))
      | inr (inr i) ↦ inr (inr (subst (λ (z : ℕ). Across c z (long U) (suc (block (line_of r))) p q) o i))
    ]
from_tree (child c u r) k j l p q f g (inr h) =
    let x = rest_of u in
    let y = rest_of r in
    let U : Line = plain (line_of u) in
    let n : long U ≡ size (blocks x) = let a = (measures u).1 in let b = size-blocks x in omega (arith, a, b) in
    let o : j ≡ suc k = omega (arith, f) in
    let w = size-beside c (blocks x) (block_of y) in
    inr (inl (from_tree r (suc (suc (k + long U))) (j + long U + suc y.events) l p q (omega (arith, o)) (let b = size-block y in omega (arith, g, w, n, b)) (inr h)))

pub par_beside : (s : Shape) (p q : ℕ) → Par (whole s) 1 p q → Beside (tree s) 1 p q
par_beside s p q h =
    let x = rest_of s in
    join_blocks x 1 (1 + suc x.events) (1 + suc x.events + sizes x.after) p q refl refl (to_tree s 2 (1 + suc x.events) (1 + suc x.events + sizes x.after) p q (omega arith) refl h)

pub beside_par : (s : Shape) (p q : ℕ) → Beside (tree s) 1 p q → Par (whole s) 1 p q
beside_par s p q h =
    let x = rest_of s in
    from_tree s 2 (1 + suc x.events) (1 + suc x.events + sizes x.after) p q (omega arith) refl (part_blocks x 1 (1 + suc x.events) (1 + suc x.events + sizes x.after) p q refl refl h)

pub long_whole : (s : Shape) (es : List Event) → Spells s es → long (whole s) ≡ length es
long_whole s es sp = let a = (measures s).1 in let b = size-blocks (rest_of s) in let c = size-spelled s es sp in omega (arith, a, b, c)

-- immediate predecessors come earlier
pub earlier : (s : Shape) (p e : ℕ) → Among e (preceding s p) → e < p
earlier s p e a =
    elim (cases_lt p (suc (long (whole s)))) [
      | inl l ↦ elim (cases_lt 0 p) [
        | inl m ↦ lower (preceding s) (whole s) 1 [] [] (laid_whole s) (low_none 1) (low_none 1) p e (omega (arith, m)) (omega (arith, l)) a
        | inr m ↦ (let z : p ≡ 0 = omega (arith, m) in absurd (among_none (subst (λ (x : ℕ). Among e (preceding s x)) z a)))
      ]
      | inr l ↦ absurd (among_none (subst (Among e) (none_past s p l) a))
    ]

pub reached_is_before : ReachesOnlyLater
reached_is_before s es sp p q i j h =
    earlier_before s es sp p q i j
    (record {
      less = reaches_less (preceding s) (whole s) 1 (laid_whole s) (earlier s) h;
      apart = λ b. reaches_apart (preceding s) (whole s) 1 (laid_whole s) (earlier s) h (beside_par s p q b);
    })

pub before_is_reached : IsReachability
before_is_reached s es sp synced p q i j = (
  λ b.
      let k = before_earlier s es sp p q i j b in
      let n = long_whole s es sp in
      let x = i.0 in
      let y = j.1 in
      reaches (preceding s) (whole s) 1 [] [] (laid_whole s) (closed_line s synced) p q (omega (arith, x)) k.less (omega (arith, y, n)) (λ h. k.apart (par_beside s p q h)),
  λ h. reached_is_before s es sp p q i j h,
)
