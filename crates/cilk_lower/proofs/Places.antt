-- Items at a place of a list: instructions in the code, call sites in their table.
use Rattle.std.proofs.Common.{◌≡◌, ◌⊎◌, inl, inr, ℕ, zero, suc, ◌+◌, List, [], ◌∷◌, ◌++◌, length, Some, refl, subst, arith, append_assoc, length-append}
use Rattle.std.specs.Prelude.{slice_get}
use Rattle.cilk_lower.specs.Bodies.{HasAt}

pub has_front : {A : Type 0} (list : List A) (pc : ℕ) (a b : List A) → HasAt list pc (a ++ b) → HasAt list pc a
has_front list pc [] b h = tt
has_front list pc (i ∷ a) b h = (h.0, has_front list (pc + 1) a b h.1)

pub has_back : {A : Type 0} (list : List A) (pc : ℕ) (a b : List A) → HasAt list pc (a ++ b) → HasAt list (pc + length a) b
has_back list pc [] b h = let e : pc ≡ pc + 0 = omega arith in subst (λ n. HasAt list n b) e h
has_back list pc (i ∷ a) b h =
    let e : pc + 1 + length a ≡ pc + length (i ∷ a) = omega arith in
    subst (λ n. HasAt list n b) e (has_back list (pc + 1) a b h.1)

pub get_seam : {A : Type 0} (front : List A) (i : A) (rest : List A) → slice_get (front ++ i ∷ rest) (length front) ≡ Some i
get_seam [] i rest = refl
get_seam (x ∷ front) i rest = get_seam front i rest

pub has_rest : {A : Type 0} (front rest : List A) → HasAt (front ++ rest) (length front) rest
has_rest front [] = tt
has_rest front (i ∷ rest) =
    let same = append_assoc front (i ∷ []) rest in
    let len : length (front ++ i ∷ []) ≡ length front + 1 = omega (arith, length-append front (i ∷ [])) in
    (get_seam front i rest, subst (λ c. HasAt c (length front + 1) rest) same (subst (λ n. HasAt ((front ++ i ∷ []) ++ rest) n rest) len (has_rest (front ++ i ∷ []) rest)))

-- an item of a list is still there after an append
pub get_more : {A : Type 0} (list more : List A) (n : ℕ) (i : A) → slice_get list n ≡ Some i → slice_get (list ++ more) n ≡ Some i
get_more [] more n i e = cc
get_more (x ∷ list) more zero i e = e
get_more (x ∷ list) more (suc n) i e = get_more list more n i e

pub has_more : {A : Type 0} (list more : List A) (pc : ℕ) (is : List A) → HasAt list pc is → HasAt (list ++ more) pc is
has_more list more pc [] h = tt
has_more list more pc (i ∷ is) h = (get_more list more pc i h.0, has_more list more (pc + 1) is h.1)

-- an item of an appended list is in one of the two parts
pub get_split : {A : Type 0} (list more : List A) (n : ℕ) (i : A) → slice_get (list ++ more) n ≡ Some i → (slice_get list n ≡ Some i) ⊎ ((k : ℕ) × (n ≡ length list + k) × (slice_get more k ≡ Some i))
get_split [] more n i e = inr (n, omega arith, e)
get_split (x ∷ list) more zero i e = inl e
get_split (x ∷ list) more (suc n) i e = elim (get_split list more n i e) [ inl h ↦ inl h | inr h ↦ inr (h.0, omega (arith, h.1), h.2) ]

pub has_all : {A : Type 0} (list : List A) → HasAt list 0 list
has_all list = has_rest [] list
