-- One frame of a list is changed.
--
-- - `changed_at`: by a write at its place;
-- - `changed_here`, `changed_off`, `changed_length`: the list after it;
-- - `changed_twice`, `changed_known`: two changes at one place, and one that is known there.
use Rattle.std.proofs.Common.{◌≡◌, ◌<◌, ℕ, zero, suc, List, [], ◌∷◌, length, slice_get, slice_index_or, slice_set, Some, None, refl, ap, subst, arith}
use Rattle.cilk_frames.specs.declared.activation.Activation.{Activation}
use Rattle.cilk_scheduler.specs.FrameStates.{changed}

module _ {C : Type 0} (f : C → C) where
  pub changed_at : (list : List (Activation C)) (k : ℕ) (a : Activation C) → a ≡ slice_index_or list k a → k < length list → slice_set list k (record a { cursor = f a.cursor }) ≡ changed f list k
  changed_at [] k a e h = absurd (omega (arith, h))
  changed_at (x ∷ list) zero a e h = ap (λ (b : Activation C). record b { cursor = f b.cursor } ∷ list) e
  changed_at (x ∷ list) (suc k) a e h = ap (λ l. x ∷ l) (changed_at list k a e (omega (arith, h)))

  pub changed_length : (list : List (Activation C)) (k : ℕ) → length (changed f list k) ≡ length list
  changed_length [] k = refl
  changed_length (x ∷ list) zero = refl
  changed_length (x ∷ list) (suc k) = ap suc (changed_length list k)

  pub changed_here : (list : List (Activation C)) (k : ℕ) (a : Activation C) → slice_get list k ≡ Some a → slice_get (changed f list k) k ≡ Some (record a { cursor = f a.cursor })
  changed_here [] k a h = let no : None ≡ Some a = h in cc
  changed_here (x ∷ list) zero a h = let e : x ≡ a = cc in ap (λ (b : Activation C). Some (record b { cursor = f b.cursor })) e
  changed_here (x ∷ list) (suc k) a h = changed_here list k a h

  pub changed_off : (list : List (Activation C)) (k j : ℕ) → (k ≡ j → ⊥) → slice_get (changed f list k) j ≡ slice_get list j
  changed_off [] k j h = refl
  changed_off (x ∷ list) zero zero h = absurd (h refl)
  changed_off (x ∷ list) zero (suc j) h = refl
  changed_off (x ∷ list) (suc k) zero h = refl
  changed_off (x ∷ list) (suc k) (suc j) h = changed_off list k j (λ e. h (ap suc e))

-- two changes at one place are one
pub changed_twice : {C : Type 0} (f g : C → C) (list : List (Activation C)) (k : ℕ) → changed f (changed g list k) k ≡ changed (λ x. f (g x)) list k
changed_twice f g [] k = refl
changed_twice f g (a ∷ list) zero = refl
changed_twice f g (a ∷ list) (suc k) = ap (λ l. a ∷ l) (changed_twice f g list k)

-- a change is known by what it makes of what is kept there
pub changed_known : {C : Type 0} (f g : C → C) (list : List (Activation C)) (k : ℕ) (a : Activation C) → slice_get list k ≡ Some a → f a.cursor ≡ g a.cursor → changed f list k ≡ changed g list k
changed_known f g [] k a h e = refl
changed_known {C} f g (x ∷ list) zero a h e =
    let same : a ≡ x = (let q : Some x ≡ Some a = h in cc) in
    let made : C → List (Activation C) = (λ y. record x { cursor = y } ∷ list) in
    ap made (subst (λ (z : Activation C). f z.cursor ≡ g z.cursor) same e)
changed_known f g (x ∷ list) (suc k) a h e = ap (λ l. x ∷ l) (changed_known f g list k a h e)
