-- The rest of a list from which one element is removed.
--
-- - `without`, `all_without`: the others, where one is removed;
-- - `one_of`: the one that came out;
-- - `all_behind`: one more at the end.
use Rattle.std.proofs.Common.{◌≡◌, ◌<◌, ◌+◌, ℕ, zero, suc, List, [], ◌∷◌, ◌++◌, length, take, drop, slice_index_or, sym, ◌∙◌, subst, arith}
use Rattle.std.specs.Prelude.{All}
use Rattle.std.proofs.lemmas.List.Elements.{All-append}

module _ {A : Type 0} (P : A → Type 0) where
  tail : (x : A) (xs : List A) → All P (x ∷ xs) → All P xs
  tail x xs h k d lt = h (suc k) d (omega (arith, lt))

  cons : (x : A) (xs : List A) → P x → All P xs → All P (x ∷ xs)
  cons x xs one h zero d lt = one
  cons x xs one h (suc k) d lt = h k d (omega (arith, lt))

  pub without : (xs : List A) (i : ℕ) → All P xs → All P (take i xs ++ drop (suc i) xs)
  without [] zero h = h
  without [] (suc i) h = h
  without (x ∷ xs) zero h = tail x xs h
  without (x ∷ xs) (suc i) h = cons x (take i xs ++ drop (suc i) xs) (h zero x (omega arith)) (without xs i (tail x xs h))

  pub all_without : (xs ys : List A) (i : ℕ) → ys ≡ take i xs ++ drop (i + 1) xs → All P xs → All P ys
  all_without xs ys i is h = let on : i + 1 ≡ suc i = omega arith in subst (λ (zs : List A). All P zs) (sym is) (subst (λ (n : ℕ). All P (take i xs ++ drop n xs)) (sym on) (without xs i h))

  pub one_of : (xs : List A) (i : ℕ) (x : A) → i < length xs → x ≡ slice_index_or xs i x → All P xs → P x
  one_of xs i x lt is h = subst P (sym is) (h i x lt)

  pub all_behind : (xs ys : List A) (x : A) → ys ≡ xs ++ x ∷ [] → All P xs → P x → All P ys
  all_behind xs ys x is all one = subst (λ (zs : List A). All P zs) (sym is) (All-append P xs (x ∷ []) all (cons x [] one none))
    where
      none : All P []
      none k d lt = absurd (omega (arith, lt))

-- there is one element at a place
pub same_at : {A : Type 0} (xs : List A) (i : ℕ) → i < length xs → (x y : A) → x ≡ slice_index_or xs i x → y ≡ slice_index_or xs i y → x ≡ y
same_at [] i lt x y there there' = absurd (omega (arith, lt))
same_at (z ∷ xs) zero lt x y there there' = there ∙ sym there'
same_at (z ∷ xs) (suc i) lt x y there there' = same_at xs i (omega (arith, lt)) x y there there'
