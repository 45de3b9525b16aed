-- The continuations that a worker offers.
use Rattle.std.specs.Prelude.{◌≡◌, ℕ, Bool, true, false, List, slice_get, remove, Some}

-- the indices of the frames whose continuations it offers, oldest first
pub record OfferList : Type 0 where
  pub items : List ℕ

-- one occurrence of this number is removed from a list, if there is one
abbrev pub Withdraws : List ℕ → ℕ → Bool → List ℕ → Type 0
Withdraws old k true new = (at : ℕ) × (slice_get old at ≡ Some k) × (new ≡ remove old at)
Withdraws old k false new = ((at : ℕ) → slice_get old at ≡ Some k → ⊥) × (new ≡ old)
