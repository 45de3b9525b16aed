-- The rest of a frame as a part of the tree of a run, and what the earlier strands are to it: `begins` for the root, `synced` after a sync,
-- `started` for a child.
use Rattle.std.proofs.Common.{◌≡◌, ℕ, ◌+◌, ◌<◌, ◌≤◌, Option, Some, None, sym, subst, arith, inl, inr, ◌↔◌}
use Rattle.std.proofs.lemmas.Bool.{cases_lt}
use Rattle.cilk_types.specs.declared.invocation.Invocation.{Invocation}
use Rattle.cilk_types.specs.declared.invocation.Invocation.TheVariants as invocations
use Rattle.cilk_tree.specs.Tree.{Tree, strand, series, then_later, beside, leaves}
use Rattle.cilk_tree.specs.Parallel.{Holds, Parallel}
use Rattle.cilk_tree.proofs.Order.{parallel_sym, not_to_itself, holds_both, series_left, series_right, series_across, parallel_left, parallel_right}
use Rattle.cilk_tree.proofs.Strands.{leaves-beside}

abbrev pub Par : Tree → ℕ → ℕ → Type 0
Par t u v = Parallel t 1 u v

pub via : (A B C : Type 0) → A ↔ C → B ↔ C → A ↔ B
via A B C f g = ((λ a. g.1 (f.0 a)), λ b. f.1 (g.0 b))

pub neither : (A B : Type 0) → (A → ⊥) → (B → ⊥) → A ↔ B
neither A B f g = ((λ a. absurd (f a)), λ b. absurd (g b))

-- a part of the tree, whose leaves are counted from o
pub record Within (t a : Tree) (o : ℕ) : Type 0 where
  pub out : (u v : ℕ) → Holds a o u → Holds a o v → Par t u v → Parallel a o u v
  pub into : (u v : ℕ) → Parallel a o u v → Par t u v

held_first : (a b : Tree) (o u : ℕ) → Holds a o u → Holds (series a b) o u
held_first a b o u p = (p.0, omega (arith, p))

held_second : (a b : Tree) (o u : ℕ) → Holds b (o + leaves a) u → Holds (series a b) o u
held_second a b o u p = (omega (arith, p), omega (arith, p))

within_first : (t a b : Tree) (o : ℕ) → Within t (series a b) o → Within t a o
within_first t a b o w = record {
  out = λ u v p q h. series_left a b o u v p (w.out u v (held_first a b o u p) (held_first a b o v q) h);
  into = λ u v h. w.into u v (inl h);
}

within_second : (t a b : Tree) (o : ℕ) → Within t (series a b) o → Within t b (o + leaves a)
within_second t a b o w = record {
  out = λ u v p q h. series_right a b o u v p (w.out u v (held_second a b o u p) (held_second a b o v q) h);
  into = λ u v h. w.into u v (inr h);
}

abbrev pub IsSpawned : Invocation → Type 0
IsSpawned invocations.Call = ⊥
IsSpawned invocations.Spawn = Unit {0}

beside_first : (t : Tree) (k : Invocation) (a b : Tree) (o : ℕ) → Within t (beside k a b) o → Within t a o
beside_first t invocations.Call a b o w = within_first t a b o w
beside_first t invocations.Spawn a b o w = record {
  out = λ u v p q h. parallel_left a b o u v p q (w.out u v (held_first a b o u p) (held_first a b o v q) h);
  into = λ u v h. w.into u v (inl h);
}

beside_second : (t : Tree) (k : Invocation) (a b : Tree) (o : ℕ) → Within t (beside k a b) o → Within t b (o + leaves a)
beside_second t invocations.Call a b o w = within_second t a b o w
beside_second t invocations.Spawn a b o w = record {
  out = λ u v p q h. parallel_right a b o u v p q (w.out u v (held_second a b o u p) (held_second a b o v q) h);
  into = λ u v h. w.into u v (inr (inl h));
}

between : (t : Tree) (k : Invocation) (a b : Tree) (o : ℕ) → Within t (beside k a b) o → (u v : ℕ) → Holds a o u → Holds b (o + leaves a) v → Par t u v ↔ IsSpawned k
between t invocations.Call a b o w u v p q =
    neither (Par t u v) ⊥ (λ h. series_across a b o u v p q (w.out u v (held_first a b o u p) (held_second a b o v q) h)) (λ h. h)
between t invocations.Spawn a b o w u v p q = ((λ h. tt), λ h. w.into u v (inr (inr (inl (p, q)))))

abbrev pub HoldsIn : Option Tree → ℕ → ℕ → Type 0
HoldsIn None o u = ⊥
HoldsIn (Some l) o u = Holds l o u

abbrev pub WithinIn : Tree → Option Tree → ℕ → Type 0
WithinIn t None o = Unit {0}
WithinIn t (Some l) o = Within t l o

held_block : (a : Tree) (l : Option Tree) (o u : ℕ) → Holds a o u → Holds (then_later a l) o u
held_block a None o u p = p
held_block a (Some l) o u p = held_first a l o u p

held_later : (a : Tree) (l : Option Tree) (o u : ℕ) → HoldsIn l (o + leaves a) u → Holds (then_later a l) o u
held_later a None o u p = absurd p
held_later a (Some l) o u p = held_second a l o u p

-- a block and what is later than it
pub record Parts (t a : Tree) (l : Option Tree) (o : ℕ) : Type 0 where
  pub block : Within t a o
  pub later : WithinIn t l (o + leaves a)
  pub across : (u v : ℕ) → Holds a o u → HoldsIn l (o + leaves a) v → Par t u v → ⊥

parted : (t a : Tree) (l : Option Tree) (o : ℕ) → Within t (then_later a l) o → Parts t a l o
parted t a None o w = record { block = w; later = tt; across = λ u v p q h. absurd q }
parted t a (Some l) o w = record {
  block = within_first t a l o w;
  later = within_second t a l o w;
  across = λ u v p q h. series_across a l o u v p q (w.out u v (held_first a l o u p) (held_second a l o v q) h);
}

-- The rest of a frame's block, which begins in strand c, and its later blocks. The frame's first strand is f.
pub record IsRest (t a : Tree) (l : Option Tree) (c f : ℕ) : Type 0 where
  pub parts : Parts t a l c
  pub first : f ≤ c
  pub past : (p v : ℕ) → p < c → Holds a c v → Par t p v ↔ Par t p c
  pub past_later : (p v : ℕ) → p < c → HoldsIn l (c + leaves a) v → Par t p v ↔ Par t p f
  pub alone : Par t c f → ⊥

pub along : (t : Tree) (p c v : ℕ) → p ≡ c → Par t p v → Par t c v
along t p c v e h = subst (λ (x : ℕ). Par t x v) e h

-- after a sync
pub synced : (t b : Tree) (l : Option Tree) (n c f : ℕ) → 1 ≤ leaves b → IsRest t (strand n) (Some (then_later b l)) c f
    → IsRest t b l (c + 1) f × ((p : ℕ) → p ≤ c → Par t p (c + 1) ↔ Par t p f)
synced t b l n c f pos s =
    let ps = parted t b l (c + 1) s.parts.later in
    let now : Holds b (c + 1) (c + 1) = (omega arith, omega (arith, pos)) in
    let start : Holds (then_later b l) (c + 1) (c + 1) = held_block b l (c + 1) (c + 1) now in
    let mine : Holds (strand n) c c = (omega arith, omega arith) in
    let fresh : (p v : ℕ) → p ≤ c → Holds (then_later b l) (c + 1) v → Par t p v ↔ Par t p f = λ p v m h. elim (cases_lt p c) [
      | inl k ↦ s.past_later p v k h
      | inr k ↦ (let e : p ≡ c = omega (arith, m, k) in
          neither (Par t p v) (Par t p f) (λ g. s.parts.across c v mine h (along t p c v e g)) (λ g. s.alone (along t p c f e g)))
    ] in (
      record {
        parts = ps;
        first = (let q = s.first in omega (arith, q));
        past = λ p v m h. via (Par t p v) (Par t p (c + 1)) (Par t p f) (fresh p v (omega (arith, m)) (held_block b l (c + 1) v h)) (fresh p (c + 1) (omega (arith, m)) start);
        past_later = λ p v m h. fresh p v (omega (arith, m)) (held_later b l (c + 1) v h);
        alone = λ h. not_to_itself t 1 f ((fresh f (c + 1) s.first start).0 (parallel_sym t 1 (c + 1) f h));
      },
      λ p m. fresh p (c + 1) m start,
    )

-- a child, from the strand c before it to the strand d after it
pub record Started (t : Tree) (k : Invocation) (inner : Tree) (after : Option Tree) (b : Tree) (l : Option Tree) (c d f : ℕ) : Type 0 where
  pub inside : IsRest t inner after (c + 1) (c + 1)
  pub enter : (p : ℕ) → p ≤ c → Par t p (c + 1) ↔ Par t p c
  pub continues : IsRest t b l d f
  pub back : (p : ℕ) → p ≤ c → Par t p d ↔ Par t p c
  pub beyond : (p : ℕ) → c < p → p < d → Par t p d ↔ IsSpawned k
  pub quiet : (p : ℕ) → c ≤ p → p < d → (Par t p c → ⊥) × (Par t p f → ⊥)

pub started : (t : Tree) (k : Invocation) (a : Tree) (m : Option Tree) (b : Tree) (l : Option Tree) (n c f : ℕ) → 1 ≤ leaves b
    → IsRest t (series (strand n) (beside k (then_later a m) b)) l c f → Started t k a m b l c (c + 1 + leaves (then_later a m)) f
started t k a m b l n c f pos s =
    let u : Tree = then_later a m in
    let d : ℕ = c + 1 + leaves u in
    let y : Tree = beside k u b in
    let whole : Tree = series (strand n) y in
    let size = leaves-beside k u b in
    let block = s.parts.block in
    let rest : Within t y (c + 1) = within_second t (strand n) y c block in
    let held : (v : ℕ) → c ≤ v → v < d + leaves b → Holds whole c v = λ v lo hi. (lo, omega (arith, hi, size)) in
    let silent : (v : ℕ) → c ≤ v → v < d + leaves b → Par t c v → ⊥ = λ v lo hi h. elim (cases_lt c v) [
      | inl q ↦ series_across (strand n) y c c v (omega arith, omega arith) (omega (arith, q), omega (arith, hi, size)) (block.out c v (held c (omega arith) (omega (arith, lo, hi))) (held v lo hi) h)
      | inr q ↦ (let e : v ≡ c = omega (arith, lo, q) in not_to_itself t 1 c (subst (λ (x : ℕ). Par t c x) e h))
    ] in
    let settled : (v : ℕ) → c ≤ v → v < d + leaves b → Par t v f → ⊥ = λ v lo hi h. elim (cases_lt f c) [
      | inl q ↦ s.alone (parallel_sym t 1 f c ((s.past f v q (held v lo hi)).0 (parallel_sym t 1 v f h)))
      | inr q ↦ (let z = s.first in let e : f ≡ c = omega (arith, z, q) in silent v lo hi (along t f c v e (parallel_sym t 1 v f h)))
    ] in
    let same : (p v : ℕ) → p ≤ c → c ≤ v → v < d + leaves b → Par t p v ↔ Par t p c = λ p v q lo hi. elim (cases_lt p c) [
      | inl w ↦ s.past p v w (held v lo hi)
      | inr w ↦ (let e : p ≡ c = omega (arith, q, w) in
          neither (Par t p v) (Par t p c) (λ g. silent v lo hi (along t p c v e g)) (λ g. not_to_itself t 1 c (along t p c c e g)))
    ] in
    let apart : (p v : ℕ) → c < p → p < d → Holds b d v → Par t p v ↔ IsSpawned k = λ p v lo hi h. between t k u b (c + 1) rest p v (omega (arith, lo), hi) h in
    let two : (p v w : ℕ) → p ≤ c → c ≤ v → v < d + leaves b → c ≤ w → w < d + leaves b → Par t p v ↔ Par t p w =
    λ p v w q lo hi lo' hi'. via (Par t p v) (Par t p w) (Par t p c) (same p v q lo hi) (same p w q lo' hi') in
    let end : c + leaves whole ≡ d + leaves b = omega (arith, size) in
    let now : Holds b d d = (omega arith, omega (arith, pos)) in
    record {
      inside = record {
        parts = parted t a m (c + 1) (beside_first t k u b (c + 1) rest);
        first = omega arith;
        past = λ p v q h. (let g = held_block a m (c + 1) v h in
            two p v (c + 1) (omega (arith, q)) (omega (arith, g)) (omega (arith, g)) (omega arith) (omega (arith, pos)));
        past_later = λ p v q h. (let g = held_later a m (c + 1) v h in
            two p v (c + 1) (omega (arith, q)) (omega (arith, g)) (omega (arith, g)) (omega arith) (omega (arith, pos)));
        alone = not_to_itself t 1 (c + 1);
      };
      enter = λ p q. same p (c + 1) q (omega arith) (omega (arith, pos));
      continues = record {
        parts = record {
          block = beside_second t k u b (c + 1) rest;
          later = subst (λ (o : ℕ). WithinIn t l o) end s.parts.later;
          across = λ p v q h g. s.parts.across p v (held p (let z = q.0 in omega (arith, z)) (let z = q.1 in z)) (subst (λ (o : ℕ). HoldsIn l o v) (sym end) h) g;
        };
        first = (let z = s.first in omega (arith, z));
        past = λ p v q h. elim (cases_lt c p) [
          | inl w ↦ via (Par t p v) (Par t p d) (IsSpawned k) (apart p v w q h) (apart p d w q now)
          | inr w ↦ two p v d w (omega (arith, h)) (let z = h.1 in z) (omega arith) (omega (arith, pos))
        ];
        past_later = λ p v q h. (let h' = subst (λ (o : ℕ). HoldsIn l o v) (sym end) h in elim (cases_lt p c) [
          | inl w ↦ s.past_later p v w h'
          | inr w ↦ neither (Par t p v) (Par t p f) (s.parts.across p v (held p w (omega (arith, q))) h') (settled p w (omega (arith, q)))
        ]);
        alone = settled d (omega arith) (omega (arith, pos));
      };
      back = λ p q. same p d q (omega arith) (omega (arith, pos));
      beyond = λ p lo hi. apart p d lo hi now;
      quiet = λ p lo hi. ((λ h. silent p lo (omega (arith, hi)) (parallel_sym t 1 p c h)), settled p lo (omega (arith, hi)));
    }

-- the whole tree, in its first strand
pub begins : (a : Tree) (l : Option Tree) → IsRest (then_later a l) a l 1 1
begins a l = record {
  parts = parted (then_later a l) a l 1 (record { out = λ u v p q h. h; into = λ u v h. h });
  first = omega arith;
  past = λ p v m h. neither (Par (then_later a l) p v) (Par (then_later a l) p 1) (outside (then_later a l) p v (omega (arith, m))) (outside (then_later a l) p 1 (omega (arith, m)));
  past_later = λ p v m h. neither (Par (then_later a l) p v) (Par (then_later a l) p 1) (outside (then_later a l) p v (omega (arith, m))) (outside (then_later a l) p 1 (omega (arith, m)));
  alone = not_to_itself (then_later a l) 1 1;
}
  where
    outside : (t : Tree) (p v : ℕ) → p ≡ 0 → Par t p v → ⊥
    outside t p v z h = (let q = (holds_both t 1 p v h).0 in omega (arith, q, z))
