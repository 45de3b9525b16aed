-- Items that are right at their places.
--
-- - `each_none`, `each_more`: a list that grows by one item;
-- - `nowhere_wrong`: where each item is right and none is missing, no place is wrong.
use Rattle.std.proofs.Common.{◌≡◌, ℕ, zero, suc, ◌-◌, ◌<◌, List, [], ◌∷◌, ◌++◌, length, Option, Some, None, slice_get, refl, sym, ap, subst, ◌∙◌, arith, inl, inr, length-append}
use Rattle.std.proofs.lemmas.Bool.{cases_lt}
use Rattle.std.proofs.lemmas.Option.{same_Some, slice_get_within, slice_get_cases}
use Rattle.std.specs.List.{AllByRecursion}
use Rattle.cilk_cert_maker.specs.Right.{is_wrong, IsWrongAt, IsNowhere, EachAt}

pub get_front : {A : Type 0} (given : List A) (x : A) (k : ℕ) → k < length given → slice_get (given ++ x ∷ []) k ≡ slice_get given k
get_front [] x k h = absurd (omega (arith, h))
get_front (y ∷ given) x zero h = refl
get_front (y ∷ given) x (suc k) h = get_front given x k (omega (arith, h))

pub get_last : {A : Type 0} (given : List A) (x : A) → slice_get (given ++ x ∷ []) (length given) ≡ Some x
get_last [] x = refl
get_last (y ∷ given) x = get_last given x

pub each_none : {A : Type 0} (P : ℕ → A → Type 0) → EachAt P []
each_none {A = A} P k x e = absurd (let q : ◌≡◌ {A = Option A} None (Some x) = e in cc)

pub each_more : {A : Type 0} (P : ℕ → A → Type 0) (given : List A) (x : A) → EachAt P given → P (length given) x → EachAt P (given ++ x ∷ [])
each_more {A = A} P given x h p k y e =
    let within : k < length (given ++ x ∷ []) = slice_get_within (given ++ x ∷ []) k y e in
    let long = length-append given (x ∷ []) in
    elim (cases_lt k (length given)) [
      | inl less ↦ h k y (sym (get_front given x k less) ∙ e)
      | inr more ↦ (let at : k ≡ length given = omega (arith, more, within, long) in
          let here : x ≡ y = same_Some x y (sym (get_last given x) ∙ ap (slice_get (given ++ x ∷ [])) (sym at) ∙ e) in
          subst (λ (z : A). P k z) here (subst (λ (m : ℕ). P m x) (sym at) p))
    ]

pub nowhere_wrong : {A : Type 0} (P : ℕ → A → Type 0) (given : List A) (count : ℕ) → EachAt P given → length given ≡ count → IsNowhere (IsWrongAt P given count)
nowhere_wrong {A = A} P given count h many k w =
    elim (slice_get_cases given (k - 1)).1 [
      | inl s ↦ (let bad : ¬ (P (k - 1) s.0) = subst (λ (o : Option A). is_wrong P o (k - 1) count) s.2 w.1 in bad (h (k - 1) s.0 s.2))
      | inr s ↦ (let far = s.0 in let missing : k - 1 < count = subst (λ (o : Option A). is_wrong P o (k - 1) count) s.1 w.1 in absurd (omega (arith, far, missing, many)))
    ]

-- P of both lists' items is P of the items of the two together
pub all_both : {A : Type 0} (P : A → Type 0) (xs ys : List A) → AllByRecursion P xs → AllByRecursion P ys → AllByRecursion P (xs ++ ys)
all_both P [] ys h g = g
all_both P (x ∷ xs) ys h g = (h.0, all_both P xs ys h.1 g)
