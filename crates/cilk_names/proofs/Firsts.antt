-- The first fault of a tree.
use Rattle.std.proofs.Common.{◌≡◌, ℕ, Bool, true, false, ◌||◌, ◌&&◌, if◌then◌else◌, List, [], ◌∷◌, length, Contains, Option, Some, None, refl, sym, ap, ◌∙◌, subst, inl, inr, arith, nat_lt, nat_eq}
use Rattle.std.proofs.lemmas.List.Elements.{All-cons, All-head, All-tail, Contains-append_right, Contains-append_left, Contains-append_cases, Contains-push}
use Rattle.std.proofs.lemmas.Bool.Decides.{nat_tests}
use Rattle.cilk_syntax.specs.declared.tree.Tree.{Tree}
use Rattle.cilk_syntax.specs.Trees.{program}
use Rattle.cilk_names.specs.declared.kind.NameErrorKind.TheVariants.{NoMain}
use Rattle.cilk_names.specs.declared.kind.Misnaming.{Misnaming}
use Rattle.cilk_names.specs.Globals.{start, main_of}
use Rattle.cilk_names.specs.Faults.{number_of, is_before, earliest}
use Rattle.cilk_names.specs.Misnamings.{IsFirst, items_faults, or_no_main, faults_of}

-- by place, then by number, as an order on numbers
abbrev lower : ℕ → ℕ → ℕ → ℕ → Bool
lower p n q m = nat_lt p q || (nat_eq p q && nat_lt n m)

lower_itself : (p n : ℕ) → lower p n p n ≡ false
lower_itself p n = grind (arith, nat_tests)

-- f ≤ g and g < h
lower_first : (fp fn gp gn hp hn : ℕ) → lower gp gn fp fn ≡ false → lower gp gn hp hn ≡ true → lower hp hn fp fn ≡ false
lower_first fp fn gp gn hp hn a b = grind (arith, nat_tests)

-- f ≤ h and h ≤ g
lower_second : (fp fn gp gn hp hn : ℕ) → lower hp hn fp fn ≡ false → lower gp gn hp hn ≡ false → lower gp gn fp fn ≡ false
lower_second fp fn gp gn hp hn a b = grind (arith, nat_tests)

contains_head : {A : Type 0} (x : A) (xs : List A) → Contains (x ∷ xs) x
contains_head x xs = Contains-append_left (x ∷ []) xs x (Contains-push [] x)

-- past the second item
contains_third : {A : Type 0} (x y z : A) (xs : List A) → Contains (x ∷ xs) z → Contains (x ∷ y ∷ xs) z
contains_third x y z xs h = elim (Contains-append_cases (x ∷ []) xs z h) [
  | inl k ↦ Contains-append_left (x ∷ []) (y ∷ xs) z k
  | inr k ↦ Contains-append_right (x ∷ y ∷ []) xs z k
]

first_of_two : (h f g : Misnaming) (fs : List Misnaming) (b : Bool) → is_before g h ≡ b
    → ((h : Misnaming) → earliest (Some h) fs ≡ Some f → IsFirst f (h ∷ fs))
    → earliest (if b then Some g else Some h) fs ≡ Some f → IsFirst f (h ∷ g ∷ fs)
first_of_two h f g fs true e ih k =
    let i : IsFirst f (g ∷ fs) = ih g k in (
      Contains-append_right (h ∷ []) (g ∷ fs) f i.0,
      All-cons (λ x. is_before x f ≡ false) h (g ∷ fs)
          (lower_first f.place (number_of f.number) g.place (number_of g.number) h.place (number_of h.number) (All-head (λ x. is_before x f ≡ false) g fs i.1) e) i.1,
    )
first_of_two h f g fs false e ih k =
    let i : IsFirst f (h ∷ fs) = ih h k in
    let hf : is_before h f ≡ false = All-head (λ x. is_before x f ≡ false) h fs i.1 in (
      contains_third h g f fs i.0,
      All-cons (λ x. is_before x f ≡ false) h (g ∷ fs) hf
          (All-cons (λ x. is_before x f ≡ false) g fs
          (lower_second f.place (number_of f.number) g.place (number_of g.number) h.place (number_of h.number) hf e)
          (All-tail (λ x. is_before x f ≡ false) h fs i.1)),
    )

first_from : (fs : List Misnaming) (f h : Misnaming) → earliest (Some h) fs ≡ Some f → IsFirst f (h ∷ fs)
first_from [] f h e =
    let same : h ≡ f = cc in
    subst (λ (x : Misnaming). IsFirst f (x ∷ [])) (sym same)
    (contains_head f [], All-cons (λ x. is_before x f ≡ false) f [] (lower_itself f.place (number_of f.number)) (λ k d lt. absurd (omega arith)))
first_from (g ∷ fs) f h e = first_of_two h f g fs (is_before g h) refl (first_from fs f) e

-- the earliest of a list is its first
pub earliest_first : (fs : List Misnaming) (f : Misnaming) → earliest None fs ≡ Some f → IsFirst f fs
earliest_first [] f e = absurd cc
earliest_first (g ∷ fs) f e = first_from fs f g e

stays : (b : Bool) (g h : Misnaming) (fs : List Misnaming) → ((h : Misnaming) → earliest (Some h) fs ≡ None → ⊥) → earliest (if b then Some g else Some h) fs ≡ None → ⊥
stays true g h fs k e = k g e
stays false g h fs k e = k h e

some_stays : (fs : List Misnaming) (h : Misnaming) → earliest (Some h) fs ≡ None → ⊥
some_stays [] h e = cc
some_stays (g ∷ fs) h e = stays (is_before g h) g h fs (some_stays fs) e

pub none_right : (fs : List Misnaming) → earliest None fs ≡ None → fs ≡ []
none_right [] e = refl
none_right (g ∷ fs) e = absurd (some_stays fs g e)

or_other : (main : Option ℕ) (n : ℕ) (fs : List Misnaming) (f : Misnaming) → earliest None fs ≡ Some f → or_no_main main n fs ≡ fs
or_other main n [] f e = absurd cc
or_other None n (g ∷ fs) f e = refl
or_other (Some m) n (g ∷ fs) f e = refl

-- the first fault that the pass finds is the tree's first fault
pub fault_is : (t : Tree) (first : Option Misnaming) (f : Misnaming) → first ≡ earliest None (items_faults (start t.text.items (program t)) (program t)) → first ≡ Some f → IsFirst f (faults_of t)
fault_is t first f e is =
    let fs = items_faults (start t.text.items (program t)) (program t) in
    let k : earliest None fs ≡ Some f = sym e ∙ is in
    subst (IsFirst f) (sym (or_other (main_of t.text.items 0 (program t)) (length t.text.items) fs f k)) (earliest_first fs f k)

-- if the pass finds no fault and there is no main function, that is the fault
pub no_main_is : (t : Tree) (first : Option Misnaming) (place : ℕ)
    → first ≡ earliest None (items_faults (start t.text.items (program t)) (program t)) → first ≡ None
    → main_of t.text.items 0 (program t) ≡ None → place ≡ length t.text.items
    → IsFirst (record { number = NoMain; place = place }) (faults_of t)
no_main_is t first place e is missing at =
    let all = items_faults (start t.text.items (program t)) (program t) in
    let right : all ≡ [] = none_right all (sym e ∙ is) in
    let f : Misnaming = record { number = NoMain; place = place } in
    let fs : faults_of t ≡ f ∷ [] =
    ap (λ m. or_no_main m (length t.text.items) all) missing
    ∙ ap (or_no_main None (length t.text.items)) right
    ∙ ap (λ (n : ℕ). let g : Misnaming = record { number = NoMain; place = n } in g ∷ []) (sym at) in
    subst (IsFirst f) (sym fs) (contains_head f [], All-cons (λ x. is_before x f ≡ false) f [] (lower_itself place 115) (λ k d lt. absurd (omega arith)))

-- if the pass finds no fault and there is a main function, the tree has no fault
pub right_is : (t : Tree) (first : Option Misnaming) (n : ℕ) → first ≡ earliest None (items_faults (start t.text.items (program t)) (program t)) → first ≡ None
    → main_of t.text.items 0 (program t) ≡ Some n → faults_of t ≡ []
right_is t first n e is m =
    let all = items_faults (start t.text.items (program t)) (program t) in
    let right : all ≡ [] = none_right all (sym e ∙ is) in
    ap (λ o. or_no_main o (length t.text.items) all) m ∙ ap (or_no_main (Some n) (length t.text.items)) right
