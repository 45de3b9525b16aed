-- One step of a merge: a view is taken out of the right map and multiplied into the left one.
use Rattle.std.proofs.Common.{◌≡◌, ℕ, ◌+◌, ◌≤◌, Bool, true, false, cond, Option, Some, None, IsSome, is_some, sym, ap, ◌∙◌, refl, subst, true≢false, arith}
use Rattle.std.specs.Option.{option_map, unwrap_or}
use Rattle.std.proofs.lemmas.Bool.{cond-true, cond-false}
use Rattle.cilk_types.specs.declared.event.Instance.{Instance}
use Rattle.cilk_monoid.specs.Laws.{MonoidStructure}
use Rattle.cilk_monoid.specs.Ranges.{same_instance}
use Rattle.cilk_monoid.specs.Values.{ViewValue}
use Rattle.cilk_monoid.proofs.RangeLaws.{same_from_true}
use Rattle.cilk_hypermap.specs.Views.{merged, or_unit}

-- at the instance of that view
merged_step : (S : MonoidStructure ViewValue) (l l' r r' : Option ViewValue) (b : ViewValue) → IsSome l → r ≡ Some b → l' ≡ Some (S.combine (or_unit S l) b) → r' ≡ None → merged S l' r' ≡ merged S l r
merged_step S None l' r r' b h p q e = absurd (true≢false (sym h))
merged_step S (Some a) l' r r' b h p q e = (λ i. merged S (q i) (e i)) ∙ sym (ap (merged S (Some a)) p)

-- l and r are the maps before the step, l' and r' those after it, and b is the view at k on the
-- right
module _ {X : Type 0} (S : MonoidStructure ViewValue) (value : X → ViewValue) (reserved : X → ℕ) (l l' r r' : Instance → Option X) (k : Instance) (b : X)
    (taken : (q : Instance) → r' q ≡ cond (same_instance k q) None (r q)) (found : r k ≡ Some b)
    (multiplied : (j : Instance) → option_map value (l' j) ≡ cond (same_instance k j) (Some (S.combine (or_unit S (option_map value (l k))) (value b))) (option_map value (l j)))
    (used : (j : Instance) → unwrap_or (option_map reserved (l j)) 0 ≤ unwrap_or (option_map reserved (l' j)) 0 + cond (same_instance k j) (S.size (value b)) 0)
    (present : (j : Instance) → IsSome (option_map value (r j)) → IsSome (option_map value (l j))) where
  -- the size of a view, 0 where there is none
  abbrev size_of : Option X → ℕ
  size_of o = unwrap_or (option_map S.size (option_map value o)) 0

  abbrev room_of : Option X → ℕ
  room_of o = unwrap_or (option_map reserved o) 0

  pub found_value : option_map value (r k) ≡ Some (value b)
  found_value = ap (option_map value) found

  pub present_at : IsSome (option_map value (l k))
  present_at = present k (subst IsSome (sym found_value) refl)

  pub size_at_key : size_of (r k) ≡ S.size (value b)
  size_at_key = ap size_of found

  taken_here : (j : Instance) → same_instance k j ≡ true → r' j ≡ None
  taken_here j p = taken j ∙ cond-true (same_instance k j) None (r j) p

  kept_there : (j : Instance) → same_instance k j ≡ false → r' j ≡ r j
  kept_there j p = taken j ∙ cond-false (same_instance k j) None (r j) p

  there : (j : Instance) → same_instance k j ≡ false → option_map value (l' j) ≡ option_map value (l j)
  there j p = multiplied j ∙ cond-false (same_instance k j) (Some (S.combine (or_unit S (option_map value (l k))) (value b))) (option_map value (l j)) p

  here : same_instance k k ≡ true → option_map value (l' k) ≡ Some (S.combine (or_unit S (option_map value (l k))) (value b))
  here p = multiplied k ∙ cond-true (same_instance k k) (Some (S.combine (or_unit S (option_map value (l k))) (value b))) (option_map value (l k)) p

  pub present_after : (j : Instance) → IsSome (option_map value (r' j)) → IsSome (option_map value (l' j))
  present_after j h = by (same_instance k j) refl
    where
      by : (t : Bool) → same_instance k j ≡ t → IsSome (option_map value (l' j))
      by true p = absurd (true≢false (sym h ∙ ap (λ o. is_some (option_map value o)) (taken_here j p)))
      by false p = subst IsSome (sym (there j p)) (present j (subst (λ (o : Option X). IsSome (option_map value o)) (kept_there j p) h))

  pub room_after : ((j : Instance) → size_of (r j) ≤ room_of (l j)) → (j : Instance) → size_of (r' j) ≤ room_of (l' j)
  room_after room j = by (same_instance k j) refl
    where
      by : (t : Bool) → same_instance k j ≡ t → size_of (r' j) ≤ room_of (l' j)
      by true p = let e : size_of (r' j) ≡ 0 = ap size_of (taken_here j p) in omega (arith, e)
      by false p =
          let e : size_of (r' j) ≡ size_of (r j) = ap size_of (kept_there j p) in
          let u : room_of (l j) ≤ room_of (l' j) + 0 = subst (λ (t : Bool). room_of (l j) ≤ room_of (l' j) + cond t (S.size (value b)) 0) p (used j) in
          omega (arith, e, u, room j)

  pub views_after : (j : Instance) → merged S (option_map value (l' j)) (option_map value (r' j)) ≡ merged S (option_map value (l j)) (option_map value (r j))
  views_after j = by (same_instance k j) refl
    where
      by : (t : Bool) → same_instance k j ≡ t → merged S (option_map value (l' j)) (option_map value (r' j)) ≡ merged S (option_map value (l j)) (option_map value (r j))
      by true p =
          let e = same_from_true k j p in
          let self : same_instance k k ≡ true = subst (λ (q : Instance). same_instance k q ≡ true) (sym e) p in
          subst (λ (q : Instance). merged S (option_map value (l' q)) (option_map value (r' q)) ≡ merged S (option_map value (l q)) (option_map value (r q))) e
          (merged_step S (option_map value (l k)) (option_map value (l' k)) (option_map value (r k)) (option_map value (r' k)) (value b) present_at found_value (here self) (ap (option_map value) (taken_here k self)))
      by false p = (λ i. merged S (there j p i) (option_map value (kept_there j p i)))

  pub spent_after : (j : Instance) → room_of (l j) + size_of (r' j) ≤ room_of (l' j) + size_of (r j)
  spent_after j = by (same_instance k j) refl
    where
      by : (t : Bool) → same_instance k j ≡ t → room_of (l j) + size_of (r' j) ≤ room_of (l' j) + size_of (r j)
      by true p =
          let e : size_of (r' j) ≡ 0 = ap size_of (taken_here j p) in
          let s : size_of (r j) ≡ S.size (value b) = subst (λ (q : Instance). size_of (r q) ≡ S.size (value b)) (same_from_true k j p) size_at_key in
          let u : room_of (l j) ≤ room_of (l' j) + S.size (value b) = subst (λ (t : Bool). room_of (l j) ≤ room_of (l' j) + cond t (S.size (value b)) 0) p (used j) in
          omega (arith, e, s, u)
      by false p =
          let e : size_of (r' j) ≡ size_of (r j) = ap size_of (kept_there j p) in
          let u : room_of (l j) ≤ room_of (l' j) + 0 = subst (λ (t : Bool). room_of (l j) ≤ room_of (l' j) + cond t (S.size (value b)) 0) p (used j) in
          omega (arith, e, u)
