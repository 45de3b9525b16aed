-- A binary search for the first child that ends at or after a line: `searched_first`, `searched_left` and `searched_right` go on with it, `found_at` and `found_past`
-- end it.
use Rattle.std.proofs.Common.{◌≡◌, ℕ, zero, suc, ◌+◌, ◌<◌, ◌≤◌, List, [], ◌∷◌, length, Bool, true, false, nat_lt, refl, sym, ◌∙◌, ap, arith, inl, inr, ◌↔◌, slice_index_or}
use Rattle.std.proofs.lemmas.Bool.{cases_lt, lt-ltb, ltb-true}
use Rattle.cilk_trace.specs.declared.intervals.Child.{Child}
use Rattle.cilk_trace.specs.IntervalStacks.{child_at, is_among, IsAscending}
use Rattle.cilk_trace.proofs.Ascending.{IsAmong, among_told}

pub record Searched (cs : List Child) (n low high : ℕ) : Type 0 where
  pub within : high ≤ length cs
  pub ordered : low ≤ high
  pub earlier : (k : ℕ) → k < low → (child_at cs k).spawned < n
  pub later : (k : ℕ) → high ≤ k → k < length cs → n ≤ (child_at cs k).spawned

any_default : (cs : List Child) (i : ℕ) (c d : Child) → i < length cs → slice_index_or cs i c ≡ slice_index_or cs i d
any_default [] i c d m = absurd (omega (arith, m))
any_default (k ∷ ks) zero c d m = refl
any_default (k ∷ ks) (suc i) c d m = any_default ks i c d (omega (arith, m))

-- a child that was read
pub child_read : (cs : List Child) (i : ℕ) (c : Child) → i < length cs → c ≡ slice_index_or cs i c → c ≡ child_at cs i
child_read cs i c m e = e ∙ any_default cs i c (record { enter = 0; spawned = 0 }) m

pub searched_first : (cs : List Child) (n high : ℕ) → high ≡ length cs → Searched cs n 0 high
searched_first cs n high e = record {
  within = omega (arith, e);
  ordered = omega arith;
  earlier = λ k m. absurd (omega (arith, m));
  later = λ k a b. absurd (omega (arith, a, b, e));
}

pub searched_left : (cs : List Child) (n low high i : ℕ) (c : Child) → IsAscending cs → Searched cs n low high → low ≤ i → i < high → c ≡ child_at cs i → n ≤ c.spawned → Searched cs n low i
searched_left cs n low high i c r s lo hi is le =
    let w = s.within in
    let here = ap (λ (x : Child). x.spawned) is in
    record {
      within = omega (arith, w, hi);
      ordered = lo;
      earlier = s.earlier;
      later = λ k a b. elim (cases_lt i k) [
        | inl m ↦ (let p = r.apart i k m b in let q = r.each k b in omega (arith, p, q, le, here))
        | inr m ↦ (let e : i ≡ k = omega (arith, a, m) in let f = ap (λ (x : ℕ). (child_at cs x).spawned) e in omega (arith, f, le, here))
      ];
    }

pub searched_right : (cs : List Child) (n low high i : ℕ) (c : Child) → IsAscending cs → Searched cs n low high → low ≤ i → i < high → c ≡ child_at cs i → c.spawned < n → Searched cs n (i + 1) high
searched_right cs n low high i c r s lo hi is less =
    let w = s.within in
    let here = ap (λ (x : Child). x.spawned) is in
    record {
      within = w;
      ordered = omega (arith, hi);
      earlier = λ k m. elim (cases_lt k i) [
        | inl q ↦ (let b : i < length cs = omega (arith, hi, w) in let p = r.apart k i q b in let e = r.each i b in omega (arith, p, e, less, here))
        | inr q ↦ (let e : i ≡ k = omega (arith, m, q) in let f = ap (λ (x : ℕ). (child_at cs x).spawned) e in omega (arith, f, less, here))
      ];
      later = s.later;
    }

-- the search has ended at a child
at_child : (cs : List Child) (n low high : ℕ) (c : Child) → IsAscending cs → Searched cs n low high → high ≤ low → low < length cs → c ≡ child_at cs low → (nat_lt c.enter n ≡ true) ↔ IsAmong cs n
at_child cs n low high c r s end m is =
    let here = ap (λ (x : Child). x.enter) is in
    let most = s.later low end m in (
      λ t. (let less = ltb-true c.enter n t in (low, m, omega (arith, less, here), most)),
      λ a. lt-ltb c.enter n (elim (cases_lt a.0 low) [
        | inl k ↦ (let p = s.earlier a.0 k in let q = a.3 in absurd (omega (arith, p, q)))
        | inr k ↦ elim (cases_lt low a.0) [
          | inl j ↦ (let p = r.apart low a.0 j a.1 in let q = a.2 in absurd (omega (arith, p, q, most)))
          | inr j ↦ (let e : low ≡ a.0 = omega (arith, k, j) in let f = ap (λ (x : ℕ). (child_at cs x).enter) e in let q = a.2 in omega (arith, f, q, here))
        ]
      ]),
    )

-- the search has ended past all children
past_all : (cs : List Child) (n low high size : ℕ) → size ≡ length cs → Searched cs n low high → size ≤ low → (nat_lt low size ≡ true) ↔ IsAmong cs n
past_all cs n low high size e s past =
    ((λ t. let less = ltb-true low size t in absurd (omega (arith, less, past))), λ a. (let m = a.1 in let p = s.earlier a.0 (omega (arith, m, past, e)) in let q = a.3 in absurd (omega (arith, p, q))))

same_tests : (a b : Bool) (A : Type 0) → (a ≡ true) ↔ A → (b ≡ true) ↔ A → a ≡ b
same_tests true true A f g = refl
same_tests false false A f g = refl
same_tests true false A f g = sym (g.1 (f.0 refl))
same_tests false true A f g = f.1 (g.0 refl)

pub found_at : (cs : List Child) (n low high : ℕ) (c : Child) → IsAscending cs → Searched cs n low high → high ≤ low → low < length cs → c ≡ child_at cs low → nat_lt c.enter n ≡ is_among cs n
found_at cs n low high c r s end m is = same_tests (nat_lt c.enter n) (is_among cs n) (IsAmong cs n) (at_child cs n low high c r s end m is) (among_told cs n)

pub found_past : (cs : List Child) (n low high size : ℕ) → size ≡ length cs → Searched cs n low high → size ≤ low → nat_lt low size ≡ is_among cs n
found_past cs n low high size e s past = same_tests (nat_lt low size) (is_among cs n) (IsAmong cs n) (past_all cs n low high size e s past) (among_told cs n)
