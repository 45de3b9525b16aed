-- Places of lists that are put together: `nth_left`, `nth_right`.
use Rattle.std.proofs.Common.{◌≡◌, ℕ, zero, suc, ◌+◌, ◌<◌, List, [], ◌∷◌, ◌++◌, length, slice_get, refl, ap, ◌∙◌, arith}

module _ {A : Type 0} where
  pub nth_left : (xs ys : List A) (k : ℕ) → k < length xs → slice_get (xs ++ ys) k ≡ slice_get xs k
  nth_left [] ys k less = absurd (omega (arith, less))
  nth_left (x ∷ xs) ys zero less = refl
  nth_left (x ∷ xs) ys (suc k) less = nth_left xs ys k (omega (arith, less))

  pub nth_right : (xs ys : List A) (k : ℕ) → slice_get (xs ++ ys) (length xs + k) ≡ slice_get ys k
  nth_right [] ys k = let e : 0 + k ≡ k = omega arith in ap (slice_get ys) e
  nth_right (x ∷ xs) ys k = let e : suc (length xs) + k ≡ suc (length xs + k) = omega arith in ap (slice_get (x ∷ xs ++ ys)) e ∙ nth_right xs ys k
