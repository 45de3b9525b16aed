-- The effect of one write on a map, seen as a function from instances.
use Rattle.std.proofs.Common.{◌≡◌, ℕ, ◌+◌, ◌≤◌, Bool, true, false, cond, Option, Some, None, Result, Ok, Err, OnOk, OnErr, List, ◌⊎◌, inl, inr, sym, ap, ◌∙◌, refl, subst, arith}
use Rattle.std.specs.Option.{option_map, unwrap_or}
use Rattle.std.specs.Map.{lookup}
use Rattle.std.proofs.lemmas.Bool.{cond-true, cond-false}
use Rattle.cilk_types.specs.declared.event.Instance.{Instance}
use Rattle.cilk_monoid.specs.Ranges.{same_instance}
use Rattle.cilk_monoid.specs.Values.{ViewValue}
use Rattle.cilk_monoid.proofs.RangeLaws.{same_from_true}
use Rattle.cilk_hypermap.proofs.Entries.{option_map-cond}

-- the consequences of an `Err`
pub on_err : {T E : Type 0} {P Q : Type 0} (r : Result T E) → (P → Q) → OnErr r P → OnErr r Q
on_err (Ok x) f h = tt
on_err (Err e) f h = f h

-- the consequences of an `Ok`
pub on_ok : {T E : Type 0} {P Q : Type 0} (r : Result T E) → (P → Q) → OnOk r P → OnOk r Q
on_ok (Ok x) f h = f h
on_ok (Err e) f h = tt

-- one of the two
pub either : {T E : Type 0} {P Q : Type 0} (r : Result T E) → OnOk r P → OnErr r Q → P ⊎ Q
either (Ok x) p q = inl p
either (Err e) p q = inr q

-- a write over entries that equal others is one over those
pub based_on : {X : Type 0} (i : Instance) (w : X) {es es' : List (Instance × X)} (new : List (Instance × X)) → es' ≡ es
    → ((q : Instance) → lookup (same_instance q) new ≡ cond (same_instance i q) (Some w) (lookup (same_instance q) es')) → (q : Instance) → lookup (same_instance q) new ≡ cond (same_instance i q) (Some w) (lookup (same_instance q) es)
based_on i w new e h q = h q ∙ ap (λ fs. cond (same_instance i q) (Some w) (lookup (same_instance q) fs)) e

-- w is written at i
module _ {X : Type 0} (f g : Instance → Option X) (i : Instance) (w : X) (write : (q : Instance) → g q ≡ cond (same_instance i q) (Some w) (f q)) where
  pub here : (j : Instance) → same_instance i j ≡ true → g j ≡ Some w
  here j p = write j ∙ cond-true (same_instance i j) (Some w) (f j) p

  pub there : (j : Instance) → same_instance i j ≡ false → g j ≡ f j
  there j p = write j ∙ cond-false (same_instance i j) (Some w) (f j) p

  -- the value there is that of w, and the others are unchanged
  pub changes : (value : X → ViewValue) (x : ViewValue) → value w ≡ x → (j : Instance) → option_map value (g j) ≡ cond (same_instance i j) (Some x) (option_map value (f j))
  changes value x e j = ap (option_map value) (write j) ∙ option_map-cond value (same_instance i j) (Some w) (f j) ∙ ap (λ v. cond (same_instance i j) (Some v) (option_map value (f j))) e

  -- over a view with the same value, it changes no value
  pub same_values : (value : X → ViewValue) (v : X) → f i ≡ Some v → value w ≡ value v → (j : Instance) → option_map value (g j) ≡ option_map value (f j)
  same_values value v at same j = by (same_instance i j) refl
    where
      by : (b : Bool) → same_instance i j ≡ b → option_map value (g j) ≡ option_map value (f j)
      by true p =
          let old : f j ≡ Some v = subst (λ (q : Instance). f q ≡ Some v) (same_from_true i j p) at in
          ap (option_map value) (here j p) ∙ ap Some same ∙ sym (ap (option_map value) old)
      by false p = ap (option_map value) (there j p)

  -- over a view with no more room, no room is lost
  pub more_room : (reserved : X → ℕ) (v : X) → f i ≡ Some v → reserved v ≤ reserved w → (j : Instance) → unwrap_or (option_map reserved (f j)) 0 ≤ unwrap_or (option_map reserved (g j)) 0
  more_room reserved v at more j = by (same_instance i j) refl
    where
      by : (b : Bool) → same_instance i j ≡ b → unwrap_or (option_map reserved (f j)) 0 ≤ unwrap_or (option_map reserved (g j)) 0
      by true p =
          let old : f j ≡ Some v = subst (λ (q : Instance). f q ≡ Some v) (same_from_true i j p) at in
          subst (λ (a : Option X). unwrap_or (option_map reserved a) 0 ≤ unwrap_or (option_map reserved (g j)) 0) (sym old)
          (subst (λ (b : Option X). reserved v ≤ unwrap_or (option_map reserved b) 0) (sym (here j p)) more)
      by false p = subst (λ (b : Option X). unwrap_or (option_map reserved (f j)) 0 ≤ unwrap_or (option_map reserved b) 0) (sym (there j p)) (omega arith)

  -- over a view with at most n more room, at most n is lost there, and nothing elsewhere
  pub less_room : (reserved : X → ℕ) (v : X) (n : ℕ) → f i ≡ Some v → reserved v ≤ reserved w + n → (j : Instance)
      → unwrap_or (option_map reserved (f j)) 0 ≤ unwrap_or (option_map reserved (g j)) 0 + cond (same_instance i j) n 0
  less_room reserved v n at less j = by (same_instance i j) refl
    where
      by : (b : Bool) → same_instance i j ≡ b → unwrap_or (option_map reserved (f j)) 0 ≤ unwrap_or (option_map reserved (g j)) 0 + cond (same_instance i j) n 0
      by true p =
          let old : f j ≡ Some v = subst (λ (q : Instance). f q ≡ Some v) (same_from_true i j p) at in
          let before : unwrap_or (option_map reserved (f j)) 0 ≡ reserved v = ap (λ o. unwrap_or (option_map reserved o) 0) old in
          let after : unwrap_or (option_map reserved (g j)) 0 ≡ reserved w = ap (λ o. unwrap_or (option_map reserved o) 0) (here j p) in
          omega (arith, before, after, cond-true (same_instance i j) n 0 p, less)
      by false p =
          let same : unwrap_or (option_map reserved (g j)) 0 ≡ unwrap_or (option_map reserved (f j)) 0 = ap (λ o. unwrap_or (option_map reserved o) 0) (there j p) in
          omega (arith, same)

  -- where there was none, i has the unit now and nothing else has changed
  pub fills_in : (value : X → ViewValue) (unit : ViewValue) → f i ≡ None → value w ≡ unit → (j : Instance)
      → (option_map value (g j) ≡ option_map value (f j)) ⊎ ((option_map value (f j) ≡ None) × (option_map value (g j) ≡ Some unit) × (i ≡ j))
  fills_in value unit at same j = by (same_instance i j) refl
    where
      by : (b : Bool) → same_instance i j ≡ b → (option_map value (g j) ≡ option_map value (f j)) ⊎ ((option_map value (f j) ≡ None) × (option_map value (g j) ≡ Some unit) × (i ≡ j))
      by true p =
          let e = same_from_true i j p in
          inr (ap (option_map value) (subst (λ (q : Instance). f q ≡ None) e at), ap (option_map value) (here j p) ∙ ap Some same, e)
      by false p = inl (ap (option_map value) (there j p))

  -- where there was none, no room is lost
  pub new_room : (reserved : X → ℕ) → f i ≡ None → (j : Instance) → unwrap_or (option_map reserved (f j)) 0 ≤ unwrap_or (option_map reserved (g j)) 0
  new_room reserved at j = by (same_instance i j) refl
    where
      by : (b : Bool) → same_instance i j ≡ b → unwrap_or (option_map reserved (f j)) 0 ≤ unwrap_or (option_map reserved (g j)) 0
      by true p =
          let old : f j ≡ None = subst (λ (q : Instance). f q ≡ None) (same_from_true i j p) at in
          subst (λ (a : Option X). unwrap_or (option_map reserved a) 0 ≤ unwrap_or (option_map reserved (g j)) 0) (sym old) (omega arith)
      by false p = subst (λ (b : Option X). unwrap_or (option_map reserved (f j)) 0 ≤ unwrap_or (option_map reserved b) 0) (sym (there j p)) (omega arith)
