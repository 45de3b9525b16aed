-- The first wrong item of a list.
--
-- - `place_is`: the place that is found is the least wrong one; if none is found, no place is
--   wrong;
-- - `found_by`, `column_by`: the same in the form of a function's clause, also for the column of a
--   shape;
-- - `none_differs`: if no item is wrong, none was found that differs.
use Rattle.std.proofs.Common.{◌≡◌, ℕ, ◌+◌, ◌-◌, ◌<◌, Bool, true, false, List, length, Option, MatchOption, slice_get, refl, sym, ap, subst, ◌∙◌, arith, inl, inr}
use Rattle.std.specs.Prelude.{nat_lt}
use Rattle.std.proofs.lemmas.Bool.{cases_lt, ltb-true, ltb-false}
use Rattle.std.proofs.lemmas.Option.{slice_get_past, slice_get_cases}
use Rattle.cilk_checker.specs.declared.first.First.{First}
use Rattle.cilk_checker.specs.Firsts.{Agrees}
use Rattle.cilk_checker.specs.Columns.{place_of}
use Rattle.cilk_cert_maker.specs.Right.{is_wrong, IsWrongAt, IsLeast, IsNowhere, IsAt}

-- an item below `agreed` isn't wrong
not_below : {A : Type 0} (P : ℕ → A → Type 0) (given : List A) (count : ℕ) (f : First) → Agrees P given f → (n : ℕ) → n < f.agreed → is_wrong P (slice_get given n) n count → ⊥
not_below {A = A} P given count f a n l wrong =
    let w = a.within in
    elim (slice_get_cases given n).1 [
      | inl s ↦ (let bad : ¬ (P n s.0) = subst (λ (o : Option A). is_wrong P o n count) s.2 wrong in bad (a.right n s.0 l s.2))
      | inr s ↦ (let far = s.0 in absurd (omega (arith, l, w, far)))
    ]

least_at : {A : Type 0} (P : ℕ → A → Type 0) (given : List A) (count : ℕ) (f : First) → Agrees P given f → is_wrong P (slice_get given f.agreed) f.agreed count → IsLeast (IsWrongAt P given count) (f.agreed + 1)
least_at {A = A} P given count f a wrong =
    let back : f.agreed ≡ f.agreed + 1 - 1 = omega arith in
    record {
      holds = (omega arith, subst (λ (n : ℕ). is_wrong P (slice_get given n) n count) back wrong);
      least = λ j w. elim (cases_lt (j - 1) f.agreed) [
        | inl less ↦ absurd (not_below P given count f a (j - 1) less w.1)
        | inr more ↦ (let one = w.0 in omega (arith, more, one))
      ];
    }

place_at : {A : Type 0} (P : ℕ → A → Type 0) (given : List A) (count : ℕ) (f : First) (d b : Bool) → f.differs ≡ d → nat_lt f.agreed count ≡ b → Agrees P given f
    → MatchOption (place_of (record { agreed = f.agreed; differs = d }) count) (IsNowhere (IsWrongAt P given count)) (λ k. IsLeast (IsWrongAt P given count) k)
place_at {A = A} P given count f true b off e a =
    let s = a.apart off in
    least_at P given count f a (subst (λ (o : Option A). is_wrong P o f.agreed count) (sym s.1) s.2)
place_at {A = A} P given count f false true on e a =
    let all = a.all on in
    let more = ltb-true f.agreed count e in
    rw e (least_at P given count f a (subst (λ (o : Option A). is_wrong P o f.agreed count) (sym (slice_get_past given f.agreed (omega (arith, all)))) more))
place_at {A = A} P given count f false false on e a =
    let all = a.all on in
    let none = ltb-false f.agreed count e in
    rw e (λ k w. elim (cases_lt (k - 1) f.agreed) [
      | inl less ↦ not_below P given count f a (k - 1) less w.1
      | inr more ↦ (let missing : k - 1 < count = subst (λ (o : Option A). is_wrong P o (k - 1) count) (slice_get_past given (k - 1) (omega (arith, all, more))) w.1 in absurd (omega (arith, missing, none, more)))
    ])

-- the place as a statement about a column
pub place_is : {A : Type 0} (P : ℕ → A → Type 0) (given : List A) (count : ℕ) (f : First) → Agrees P given f
    → MatchOption (place_of f count) (IsNowhere (IsWrongAt P given count)) (λ k. IsLeast (IsWrongAt P given count) k)
place_is P given count f a = place_at P given count f f.differs (nat_lt f.agreed count) refl refl a

-- The same for a column, given the length of the right one, and the place.
pub found_by : {A : Type 0} (P : ℕ → A → Type 0) (given : List A) (count : ℕ) (f : First) → Agrees P given f → (n : ℕ) (o : Option ℕ) → o ≡ place_of f n → n ≡ count
    → MatchOption o (IsNowhere (IsWrongAt P given count)) (λ k. IsLeast (IsWrongAt P given count) k)
found_by P given count f a n o e m =
    subst (λ (q : Option ℕ). MatchOption q (IsNowhere (IsWrongAt P given count)) (λ k. IsLeast (IsWrongAt P given count) k)) (sym (e ∙ ap (place_of f) m)) (place_is P given count f a)

-- The same for the column of a run's shape.
pub column_by : {A B : Type 0} (view : A → B) (column right : List B) → column ≡ right → (given : List A) (f : First) → Agrees (λ k x. IsAt column k (view x)) given f
    → (n : ℕ) (o : Option ℕ) → o ≡ place_of f n → n ≡ length column
    → MatchOption o (IsNowhere (IsWrongAt (λ k x. IsAt right k (view x)) given (length right))) (λ k. IsLeast (IsWrongAt (λ k x. IsAt right k (view x)) given (length right)) k)
column_by {A = A} {B = B} view column right is given f a n o e m =
    subst (λ (l : List B). MatchOption o (IsNowhere (IsWrongAt (λ k x. IsAt l k (view x)) given (length l))) (λ k. IsLeast (IsWrongAt (λ k x. IsAt l k (view x)) given (length l)) k)) is
    (found_by (λ k x. IsAt column k (view x)) given (length column) f a n o e m)

-- if no event is wrong, none was found that differs
pub none_differs : {A : Type 0} (P : ℕ → A → Type 0) (given : List A) (count : ℕ) (f : First) → Agrees P given f → IsNowhere (IsWrongAt P given count) → f.differs ≡ false
none_differs {A = A} P given count f a nowhere = by f.differs refl where
  by : (d : Bool) → f.differs ≡ d → f.differs ≡ false
  by false on = on
  by true off =
      let s = a.apart off in
      let back : f.agreed ≡ f.agreed + 1 - 1 = omega arith in
      absurd (nowhere (f.agreed + 1) (omega arith, subst (λ (n : ℕ). is_wrong P (slice_get given n) n count) back (subst (λ (o : Option A). is_wrong P o f.agreed count) (sym s.1) s.2)))
