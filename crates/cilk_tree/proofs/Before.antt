-- Of two strands the earlier is either before the other or parallel to it.
use Rattle.std.proofs.Common.{ℕ, ◌+◌, ◌<◌, arith, ◌⊎◌, inl, inr}
use Rattle.cilk_tree.specs.Tree.{Tree, strand, series, parallel, leaves}
use Rattle.cilk_tree.specs.Parallel.{Holds, Parallel, Before}
use Rattle.cilk_tree.proofs.Order.{held_in, holds_both, apart}

-- the relations of a strand to a later one
pub record Ordered (t : Tree) (o u v : ℕ) : Type 0 where
  pub one : Holds t o u
  pub other : Holds t o v
  pub less : u < v

pub ordered : (t : Tree) (o u v : ℕ) → Before t o u v → Ordered t o u v
ordered (strand n) o u v h = absurd h
ordered (series a b) o u v (inl h) =
    let k = ordered a o u v h in let p = k.one in let q = k.other in
    record { one = (omega (arith, p), omega (arith, p)); other = (omega (arith, q), omega (arith, q)); less = k.less }
ordered (series a b) o u v (inr (inl h)) =
    let k = ordered b (o + leaves a) u v h in let p = k.one in let q = k.other in
    record { one = (omega (arith, p), omega (arith, p)); other = (omega (arith, q), omega (arith, q)); less = k.less }
ordered (series a b) o u v (inr (inr h)) =
    let p = h.0 in let q = h.1 in
    record { one = (omega (arith, p), omega (arith, p)); other = (omega (arith, q), omega (arith, q)); less = omega (arith, p, q) }
ordered (parallel a b) o u v (inl h) =
    let k = ordered a o u v h in let p = k.one in let q = k.other in
    record { one = (omega (arith, p), omega (arith, p)); other = (omega (arith, q), omega (arith, q)); less = k.less }
ordered (parallel a b) o u v (inr h) =
    let k = ordered b (o + leaves a) u v h in let p = k.one in let q = k.other in
    record { one = (omega (arith, p), omega (arith, p)); other = (omega (arith, q), omega (arith, q)); less = k.less }

pub not_both : (t : Tree) (o u v : ℕ) → Before t o u v → Parallel t o u v → ⊥
not_both (strand n) o u v h g = absurd h
not_both (series a b) o u v (inl h) (inl g) = not_both a o u v h g
not_both (series a b) o u v (inl h) (inr g) = apart a b o u (ordered a o u v h).one (holds_both b (o + leaves a) u v g).0
not_both (series a b) o u v (inr (inl h)) (inl g) = apart a b o u (holds_both a o u v g).0 (ordered b (o + leaves a) u v h).one
not_both (series a b) o u v (inr (inl h)) (inr g) = not_both b (o + leaves a) u v h g
not_both (series a b) o u v (inr (inr h)) (inl g) = apart a b o v (holds_both a o u v g).1 h.1
not_both (series a b) o u v (inr (inr h)) (inr g) = apart a b o u h.0 (holds_both b (o + leaves a) u v g).0
not_both (parallel a b) o u v (inl h) (inl g) = not_both a o u v h g
not_both (parallel a b) o u v (inl h) (inr (inl g)) = apart a b o u (ordered a o u v h).one (holds_both b (o + leaves a) u v g).0
not_both (parallel a b) o u v (inl h) (inr (inr (inl g))) = apart a b o v (ordered a o u v h).other g.1
not_both (parallel a b) o u v (inl h) (inr (inr (inr g))) = apart a b o u (ordered a o u v h).one g.1
not_both (parallel a b) o u v (inr h) (inl g) = apart a b o u (holds_both a o u v g).0 (ordered b (o + leaves a) u v h).one
not_both (parallel a b) o u v (inr h) (inr (inl g)) = not_both b (o + leaves a) u v h g
not_both (parallel a b) o u v (inr h) (inr (inr (inl g))) = apart a b o u g.0 (ordered b (o + leaves a) u v h).one
not_both (parallel a b) o u v (inr h) (inr (inr (inr g))) = apart a b o v g.0 (ordered b (o + leaves a) u v h).other

pub before_or_parallel : (t : Tree) (o u v : ℕ) → Holds t o u → Holds t o v → u < v → Before t o u v ⊎ Parallel t o u v
before_or_parallel (strand n) o u v (p, p') (q, q') l = absurd (omega (arith, p, p', q, q', l))
before_or_parallel (series a b) o u v (p, p') (q, q') l =
    elim (held_in a b o u p p') [
      | inl i ↦ elim (held_in a b o v q q') [
        | inl j ↦ elim (before_or_parallel a o u v i j l) [ inl k ↦ inl (inl k) | inr k ↦ inr (inl k) ]
        | inr j ↦ inl (inr (inr (i, j)))
      ]
      | inr i ↦ elim (held_in a b o v q q') [
        | inl j ↦ absurd (omega (arith, i, j, l))
        | inr j ↦ elim (before_or_parallel b (o + leaves a) u v i j l) [ inl k ↦ inl (inr (inl k)) | inr k ↦ inr (inr k) ]
      ]
    ]
before_or_parallel (parallel a b) o u v (p, p') (q, q') l =
    elim (held_in a b o u p p') [
      | inl i ↦ elim (held_in a b o v q q') [
        | inl j ↦ elim (before_or_parallel a o u v i j l) [ inl k ↦ inl (inl k) | inr k ↦ inr (inl k) ]
        | inr j ↦ inr (inr (inr (inl (i, j))))
      ]
      | inr i ↦ elim (held_in a b o v q q') [
        | inl j ↦ absurd (omega (arith, i, j, l))
        | inr j ↦ elim (before_or_parallel b (o + leaves a) u v i j l) [ inl k ↦ inl (inr k) | inr k ↦ inr (inr (inl k)) ]
      ]
    ]
