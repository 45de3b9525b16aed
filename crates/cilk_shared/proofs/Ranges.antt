-- The events of reducers in ranges of positions.
--
-- - `spanned_both`, `spanned_left`, `spanned_right`: the range of two ranges;
-- - `none_over`, `over_on`, `over_both`, `over_spanned`: of no position, of one more, of two ranges
--   that adjoin;
-- - `words_both`: numbers are words;
-- - `mention_in`, `reset_in`: where in a range an event of a reducer, or one that resets it, is.
use Rattle.std.proofs.Common.{◌≡◌, ◌⊎◌, ⊎_elim, ℕ, zero, suc, ◌+◌, ◌-◌, ◌<◌, ◌≤◌, List, [], ◌∷◌, ◌++◌, inl, inr, sym, ap, ◌∙◌, arith, append_assoc, append-nil, cond, ltb}
use Rattle.std.proofs.lemmas.Bool.{lt-ltb, le-ltb}
use mathlib.Core.Logic.{dite}
use native.Mathlib.Decide.{dec_lt}
use Rattle.cilk_types.specs.declared.event.Instance.{Instance}
use Rattle.cilk_monoid.specs.Ranges.{ReducerEvent, HaveWords, Mentions, Resets}
use Rattle.cilk_shared.specs.Rows.{spanned}
use Rattle.cilk_tree.specs.declared.event_order.EventOrder.{EventOrder}
use Rattle.cilk_shared.specs.declared.reducers.Reducers.{Reducers}
use Rattle.cilk_shared.specs.Reducers.{events_at, events_from, events_over}

pub words_both : (l m : List ReducerEvent) → HaveWords l → HaveWords m → HaveWords (l ++ m)
words_both [] m h k = k
words_both (e ∷ es) m h k = (h.0, words_both es m h.1 k)

mentions_parts : (i : Instance) (l m : List ReducerEvent) → Mentions i (l ++ m) → Mentions i l ⊎ Mentions i m
mentions_parts i [] m h = inr h
mentions_parts i (e ∷ es) m (inl h) = inl (inl h)
mentions_parts i (e ∷ es) m (inr h) = ⊎_elim (λ (a : Mentions i es). inl (inr a)) (λ (b : Mentions i m). inr b) (mentions_parts i es m h)

resets_parts : (i : Instance) (l m : List ReducerEvent) → Resets i (l ++ m) → Resets i l ⊎ Resets i m
resets_parts i [] m h = inr h
resets_parts i (e ∷ es) m (inl h) = inl (inl h)
resets_parts i (e ∷ es) m (inr h) = ⊎_elim (λ (a : Resets i es). inl (inr a)) (λ (b : Resets i m). inr b) (resets_parts i es m h)

pub spanned_both : (a b c d : ℕ) → a < b → c < d → spanned a b c d ≡ (a, d)
spanned_both a b c d ab cd = ap (λ k. cond k (cond (ltb c d) (a, d) (a, b)) (c, d)) (lt-ltb a b ab) ∙ ap (λ k. cond k (a, d) (a, b)) (lt-ltb c d cd)

pub spanned_left : (a b c d : ℕ) → a < b → d ≤ c → spanned a b c d ≡ (a, b)
spanned_left a b c d ab dc = ap (λ k. cond k (cond (ltb c d) (a, d) (a, b)) (c, d)) (lt-ltb a b ab) ∙ ap (λ k. cond k (a, d) (a, b)) (le-ltb c d dc)

pub spanned_right : (a b c d : ℕ) → b ≤ a → spanned a b c d ≡ (c, d)
spanned_right a b c d ba = ap (λ k. cond k (cond (ltb c d) (a, d) (a, b)) (c, d)) (le-ltb a b ba)

module _ (s : EventOrder) (r : Reducers) where
  pub none_over : (a b : ℕ) → b ≤ a → events_over s r a b ≡ []
  unfolding events_from
  none_over a b le = let none : b - a ≡ 0 = omega arith in ap (λ n. events_from s r a n) none

  from_suc : (a n m : ℕ) → m ≡ n + 1 → events_from s r a m ≡ events_from s r a n ++ events_at s r (a + n)
  unfolding events_from
  from_suc a n m is = let e : m ≡ suc n = omega arith in ap (λ k. events_from s r a k) e

  pub over_on : (a b : ℕ) → a ≤ b → events_over s r a (b + 1) ≡ events_over s r a b ++ events_at s r b
  over_on a b le =
      let e : a + (b - a) ≡ b = omega arith in
      from_suc a (b - a) (b + 1 - a) (omega arith) ∙ ap (λ p. events_from s r a (b - a) ++ events_at s r p) e

  from_both : (a m n : ℕ) → events_from s r a (m + n) ≡ events_from s r a m ++ events_from s r (a + m) n
  unfolding events_from
  from_both a m zero = let e : m + 0 ≡ m = omega arith in ap (λ k. events_from s r a k) e ∙ sym (append-nil (events_from s r a m))
  from_both a m (suc n) =
      let e : a + (m + n) ≡ (a + m) + n = omega arith in
      from_suc a (m + n) (m + suc n) (omega arith)
      ∙ ap (λ xs. xs ++ events_at s r (a + (m + n))) (from_both a m n)
      ∙ append_assoc (events_from s r a m) (events_from s r (a + m) n) (events_at s r (a + (m + n)))
      ∙ ap (λ p. events_from s r a m ++ (events_from s r (a + m) n ++ events_at s r p)) e

  pub over_both : (a b c : ℕ) → a ≤ b → b ≤ c → events_over s r a c ≡ events_over s r a b ++ events_over s r b c
  over_both a b c le le' =
      let e : c - a ≡ (b - a) + (c - b) = omega arith in
      let at : a + (b - a) ≡ b = omega arith in
      ap (λ n. events_from s r a n) e ∙ from_both a (b - a) (c - b) ∙ ap (λ p. events_from s r a (b - a) ++ events_from s r p (c - b)) at

  pub over_spanned : (a b c d : ℕ) → (b ≤ a) ⊎ (d ≤ c) ⊎ ((a < b) × (c < d) × (b ≡ c)) → events_over s r (spanned a b c d).0 (spanned a b c d).1 ≡ events_over s r a b ++ events_over s r c d
  over_spanned a b c d near = dite (dec_lt a b)
      (λ (ab : a < b). dite (dec_lt c d)
      (λ (cd : c < d).
      let meet : b ≡ c = elim near as (λ _. b ≡ c) [ inl e ↦ omega arith | inr (inl e) ↦ omega arith | inr (inr q) ↦ q.2 ] in
      ap (λ p. events_over s r p.0 p.1) (spanned_both a b c d ab cd) ∙ over_both a b d (omega arith) (omega arith) ∙ ap (λ p. events_over s r a b ++ events_over s r p d) meet)
      (λ no. ap (λ p. events_over s r p.0 p.1) (spanned_left a b c d ab (omega arith)) ∙ sym (append-nil (events_over s r a b)) ∙ ap (λ xs. events_over s r a b ++ xs) (sym (none_over c d (omega arith)))))
      (λ no. ap (λ p. events_over s r p.0 p.1) (spanned_right a b c d (omega arith)) ∙ ap (λ xs. xs ++ events_over s r c d) (sym (none_over a b (omega arith))))

  -- some event of the n from a on
  pub mention_in : (i : Instance) (a n : ℕ) → Mentions i (events_from s r a n) → (p : ℕ) × (a ≤ p) × (p < a + n) × Mentions i (events_at s r p)
  unfolding events_from
  mention_in i a zero h = absurd h
  mention_in i a (suc n) h = ⊎_elim
      (λ (l : Mentions i (events_from s r a n)). let q = mention_in i a n l in (q.0, q.1, (let t = q.2 in omega (arith, t)), q.3))
      (λ (here : Mentions i (events_at s r (a + n))). (a + n, omega arith, omega arith, here))
      (mentions_parts i (events_from s r a n) (events_at s r (a + n)) h)

  pub reset_in : (i : Instance) (a n : ℕ) → Resets i (events_from s r a n) → (p : ℕ) × (a ≤ p) × (p < a + n) × Resets i (events_at s r p)
  unfolding events_from
  reset_in i a zero h = absurd h
  reset_in i a (suc n) h = ⊎_elim
      (λ (l : Resets i (events_from s r a n)). let q = reset_in i a n l in (q.0, q.1, (let t = q.2 in omega (arith, t)), q.3))
      (λ (here : Resets i (events_at s r (a + n))). (a + n, omega arith, omega arith, here))
      (resets_parts i (events_from s r a n) (events_at s r (a + n)) h)
