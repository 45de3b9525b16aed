-- The kept access is the greatest, so the first pair that the pass finds is the first race.
use Rattle.std.proofs.Common.{◌≡◌, ℕ, ◌+◌, ◌-◌, ◌<◌, ◌≤◌, Bool, cond, nat_lt, Some, None, refl, sym, ◌∙◌, ap, subst, arith, ◌⊎◌, inl, inr}
use Rattle.std.proofs.lemmas.Bool.{cases_lt, lt-ltb, le-ltb}
use Rattle.cilk_cells.specs.declared.histories.Access.{Access}
use Rattle.cilk_cells.specs.Keeping.{greater_of, no_access, racing_with}

-- An access of one of the first i indices, which has P and this number by H. A position is an index
-- plus one.
pub record IsOne (P : ℕ → Type 0) (H : ℕ → ℕ) (i : ℕ) (a : Access) : Type 0 where
  pub first : 1 ≤ a.at
  pub earlier : a.at ≤ i
  pub has : P (a.at - 1)
  pub number : a.hebrew ≡ H (a.at - 1)

-- The index below i that has P and the greatest number by H; at equal numbers the earliest. Number 0
-- is that of no access.
pub record IsGreatest (P : ℕ → Type 0) (H : ℕ → ℕ) (i : ℕ) (a : Access) : Type 0 where
  pub one : 1 ≤ a.hebrew → IsOne P H i a
  pub greatest : (k : ℕ) → k < i → P k → (H k < a.hebrew) ⊎ ((H k ≡ a.hebrew) × (1 ≤ a.hebrew → a.at ≤ k + 1))

pub greatest_nothing : (P : ℕ → Type 0) (H : ℕ → ℕ) → IsGreatest P H 0 no_access
greatest_nothing P H = record { one = λ l. absurd (let z : 1 ≤ 0 = l in omega (arith, z)); greatest = λ k l p. absurd (omega (arith, l)) }

later : (P : ℕ → Type 0) (H : ℕ → ℕ) (i : ℕ) (a : Access) → IsOne P H i a → IsOne P H (i + 1) a
later P H i a o = record { first = o.first; earlier = let e = o.earlier in omega (arith, e); has = o.has; number = o.number }

pub skipped : (P : ℕ → Type 0) (H : ℕ → ℕ) (i : ℕ) (a : Access) → IsGreatest P H i a → (P i → ⊥) → IsGreatest P H (i + 1) a
skipped P H i a g n = record {
  one = λ l. later P H i a (g.one l);
  greatest = λ k l p. elim (cases_lt k i) [ inl m ↦ g.greatest k m p | inr m ↦ (let e : k ≡ i = omega (arith, l, m) in absurd (n (subst P e p))) ];
}

replaced : (P : ℕ → Type 0) (H : ℕ → ℕ) (i : ℕ) (a : Access) → a.at ≡ i + 1 → a.hebrew ≡ H i → P i
    → ((k : ℕ) → k < i → P k → H k < a.hebrew) → IsGreatest P H (i + 1) a
replaced P H i a e f p g =
    let z : i ≡ a.at - 1 = omega (arith, e) in
    record {
      one = λ _. record { first = omega (arith, e); earlier = omega (arith, e); has = subst P z p; number = f ∙ ap H z };
      greatest = λ k l q. elim (cases_lt k i) [
        | inl m ↦ inl (g k m q)
        | inr m ↦ (let y : k ≡ i = omega (arith, l, m) in inr (ap H y ∙ sym f, λ _. omega (arith, e, y)))
      ];
    }

remains : (P : ℕ → Type 0) (H : ℕ → ℕ) (i : ℕ) (b a : Access) → IsGreatest P H i b → a.hebrew ≡ H i → a.hebrew ≤ b.hebrew → IsGreatest P H (i + 1) b
remains P H i b a g f m = record {
  one = λ l. later P H i b (g.one l);
  greatest = λ k l q. elim (cases_lt k i) [
    | inl n ↦ g.greatest k n q
    | inr n ↦ (let j : k ≡ i = omega (arith, l, n) in let h = ap H j in
        elim (cases_lt (H k) b.hebrew) [ inl u ↦ inl u | inr u ↦ inr (omega (arith, u, h, f, m), λ o. let e = (g.one o).earlier in omega (arith, e, n)) ])
  ];
}

pub joined : (P : ℕ → Type 0) (H : ℕ → ℕ) (i : ℕ) (b a : Access) → IsGreatest P H i b → a.at ≡ i + 1 → a.hebrew ≡ H i → P i
    → IsGreatest P H (i + 1) (greater_of b a)
joined P H i b a g e f p =
    elim (cases_lt b.hebrew a.hebrew) [
      | inl m ↦ (let r = replaced P H i a e f p (λ k l q. elim (g.greatest k l q) [ inl u ↦ omega (arith, u, m) | inr u ↦ (let v = u.0 in omega (arith, v, m)) ]) in
          subst (λ (s : Bool). IsGreatest P H (i + 1) (cond s a b)) (sym (lt-ltb b.hebrew a.hebrew m)) r)
      | inr m ↦ subst (λ (s : Bool). IsGreatest P H (i + 1) (cond s a b)) (sym (le-ltb b.hebrew a.hebrew m)) (remains P H i b a g f m)
    ]

-- the kept access races with a later one of number h, or none does
pub answered : (P : ℕ → Type 0) (H : ℕ → ℕ) (i : ℕ) (a : Access) (h : ℕ) → IsGreatest P H i a → racing_with a h ≡ None → (k : ℕ) → k < i → P k → h < H k → ⊥
answered P H i a h g e k l p q =
    elim (cases_lt h a.hebrew) [
      | inl m ↦ (let t : cond (nat_lt h a.hebrew) (Some a.at) None ≡ Some a.at = rw (lt-ltb h a.hebrew m) refl in
          let c : Some a.at ≡ None = sym t ∙ e in absurd (cc c))
      | inr m ↦ elim (g.greatest k l p) [ inl u ↦ omega (arith, u, m, q) | inr u ↦ (let v = u.0 in omega (arith, v, m, q)) ]
    ]

-- the meaning of an answer
pub record IsRacing (P : ℕ → Type 0) (H : ℕ → ℕ) (i h p : ℕ) : Type 0 where
  pub first : 1 ≤ p
  pub earlier : p ≤ i
  pub has : P (p - 1)
  pub greater : h < H (p - 1)
  pub greatest : (k : ℕ) → k < i → P k → (H k < H (p - 1)) ⊎ ((H k ≡ H (p - 1)) × (p ≤ k + 1))

pub found : (P : ℕ → Type 0) (H : ℕ → ℕ) (i : ℕ) (a : Access) (h p : ℕ) → IsGreatest P H i a → racing_with a h ≡ Some p → IsRacing P H i h p
found P H i a h p g e =
    elim (cases_lt h a.hebrew) [
      | inl m ↦ (let t : cond (nat_lt h a.hebrew) (Some a.at) None ≡ Some a.at = rw (lt-ltb h a.hebrew m) refl in
          let c : Some a.at ≡ Some p = sym t ∙ e in let q : a.at ≡ p = cc c in
          let some : 1 ≤ a.hebrew = omega (arith, m) in
          let o = g.one some in
          let x = o.first in
          let y = o.earlier in
          let f : a.hebrew ≡ H (p - 1) = o.number ∙ ap (λ (n : ℕ). H (n - 1)) q in
          record {
            first = omega (arith, x, q);
            earlier = omega (arith, y, q);
            has = subst (λ (n : ℕ). P (n - 1)) q o.has;
            greater = omega (arith, f, m);
            greatest = λ k l r. elim (g.greatest k l r) [ inl u ↦ inl (omega (arith, u, f)) | inr u ↦ inr (u.0 ∙ f, (let v = u.1 some in omega (arith, v, q))) ];
          })
      | inr m ↦ (let t : cond (nat_lt h a.hebrew) (Some a.at) None ≡ None = rw (le-ltb h a.hebrew m) refl in
          let c : None ≡ Some p = sym t ∙ e in absurd (cc c))
    ]
