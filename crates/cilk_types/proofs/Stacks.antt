-- Stacks whose top comes first.
use Rattle.std.proofs.Common.{◌≡◌, ℕ, zero, suc, ◌<◌, nat_eq, if◌then◌else◌, List, [], ◌∷◌, ◌++◌, length, reverse, slice_get, Some, None, refl, sym, ap, ◌∙◌, subst, arith, eq-eqb, inl, inr}
use Rattle.std.proofs.lemmas.Bool.{ne_eqb}
use Rattle.std.proofs.lemmas.Bool.Decides.{eqb_tells}
use Rattle.std.proofs.lemmas.List.{length-reverse, reverse-reverse}
use Rattle.std.proofs.lemmas.Grind.{reverse_onto}
use Rattle.std.proofs.lemmas.Option.{slice_get_within}
use Rattle.cilk_types.specs.Stacks.{from_bottom}

eqb_suc : (n k : ℕ) → nat_eq (suc n) (suc k) ≡ nat_eq n k
eqb_suc n k = elim (eqb_tells n k) [
  | inl same ↦ eq-eqb (suc n) (suc k) (ap suc same.1) ∙ sym same.0
  | inr other ↦ ne_eqb (suc n) (suc k) (λ e. other.1 (omega (arith, e))) ∙ sym other.0
]

at_seam : {A : Type 0} (xs : List A) (x : A) (n : ℕ) → slice_get (xs ++ x ∷ []) n ≡ (if nat_eq n (length xs) then Some x else slice_get xs n)
at_seam [] x zero = refl
at_seam [] x (suc n) = ap (λ b. if b then Some x else None) (sym (ne_eqb (suc n) 0 (λ e. omega arith)))
at_seam (y ∷ xs) x zero = ap (λ b. if b then Some x else Some y) (sym (ne_eqb 0 (suc (length xs)) (λ e. omega arith)))
at_seam (y ∷ xs) x (suc n) = at_seam xs x n ∙ ap (λ b. if b then Some x else slice_get xs n) (sym (eqb_suc n (length xs)))

pub bottom_up : {A : Type 0} (xs : List A) (n : ℕ) → slice_get (reverse xs) n ≡ from_bottom xs n
bottom_up [] n = refl
bottom_up (x ∷ xs) n =
    ap (λ l. slice_get l n) (reverse_onto xs x [])
    ∙ at_seam (reverse xs) x n
    ∙ ap (λ l. if nat_eq n l then Some x else slice_get (reverse xs) n) (length-reverse xs)
    ∙ ap (λ o. if nat_eq n (length xs) then Some x else o) (bottom_up xs n)

-- the same, from the items that the stack reverses
pub from_items : {A : Type 0} (items stack : List A) (n : ℕ) → stack ≡ reverse items → from_bottom stack n ≡ slice_get items n
from_items items stack n e = sym (bottom_up stack n) ∙ ap (λ l. slice_get (reverse l) n) e ∙ ap (λ l. slice_get l n) (reverse-reverse items)

pub within : {A : Type 0} (xs : List A) (n : ℕ) (x : A) → from_bottom xs n ≡ Some x → n < length xs
within xs n x e = subst (λ l. n < l) (length-reverse xs) (slice_get_within (reverse xs) n x (bottom_up xs n ∙ e))

-- pushing an item keeps the items below it
pub below_top : {A : Type 0} (xs : List A) (n : ℕ) (x y : A) → from_bottom xs n ≡ Some x → from_bottom (y ∷ xs) n ≡ Some x
below_top xs n x y e =
    let low = within xs n x e in
    ap (λ b. if b then Some y else from_bottom xs n) (ne_eqb n (length xs) (λ same. omega (arith, low, same))) ∙ e

pub on_top : {A : Type 0} (xs : List A) (x : A) → from_bottom (x ∷ xs) (length xs) ≡ Some x
on_top xs x = ap (λ b. if b then Some x else from_bottom xs (length xs)) (eq-eqb (length xs) (length xs) refl)
