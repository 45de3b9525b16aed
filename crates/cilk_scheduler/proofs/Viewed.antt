-- The views of a hypermap, by numbers of reducers, and those of a piece, by names.
--
-- - `one_instance`, `one_number`: a number of a monoid belongs to one reducer, which has one
--   number;
-- - `changed_here`, `changed_off`: the views of a hypermap that was changed;
-- - `views_after`: after a reducer's event.
use Rattle.std.proofs.Common.{◌≡◌, ℕ, suc, Bool, true, false, cond, List, Some, refl, sym, ap, ap₂, ◌∙◌, subst, arith}
use Rattle.std.specs.Prelude.{◌&&◌}
use Rattle.std.proofs.lemmas.Bool.{and_parts, and_from}
use Rattle.cilk_types.specs.declared.event.Instance as numbered
use Rattle.cilk_monoid.specs.declared.kind.MonoidKind.{MonoidKind}
use Rattle.cilk_monoid.specs.Kinds.{structure_of, same_kind}
use Rattle.cilk_monoid.specs.Ranges as ranges
use Rattle.cilk_monoid.specs.Values.{ViewValue}
use Rattle.cilk_monoid.proofs.SameKinds.{kind_itself, same_kind-eq}
use Rattle.cilk_monoid.proofs.RangeLaws.{same_self, same_from_true}
use Rattle.cilk_hypermap.specs.Hypermap.{ChangesIn, view_in, value_in}
use Rattle.cilk_hypermap.specs.Views.{or_unit}
use Rattle.cilk_hypermap.specs.declared.hypermap.Hypermap.{Hypermap}
use Rattle.cilk_hypermap.proofs.Merges.{each_kind}
use Rattle.cilk_frames.specs.declared.activation.Activation.{Activation}
use Rattle.cilk_determinacy.specs.Runs.{Name, Instance, Output, Reducer, same_instance}
use Rattle.cilk_determinacy.proofs.Basics.{same_instance-refl, same_instance-eq}
use Rattle.cilk_determinacy.specs.Reducers.{View, kind_of}
use Rattle.cilk_determinacy.specs.FrameEnvViews.{IsViewOf}
use Rattle.cilk_program.specs.Syntax.{Source}
use Rattle.cilk_scheduler.specs.declared.frame_state.FrameState.{FrameState}
use Rattle.cilk_scheduler.specs.Numbered.{AreNamed, IsInstance}

module _ (p : Source) (frames : List (Activation FrameState)) (name : ℕ → Name) where
  -- a number of a kind belongs to one reducer
  pub one_instance : (i i' : Instance) (j : numbered.Instance) → IsInstance p frames name i j → IsInstance p frames name i' j → kind_of i ≡ kind_of i' → i ≡ i'
  one_instance Output Output j h h' e = refl
  one_instance Output (Reducer m q kind) j h h' e = let z : 0 ≡ suc h'.0 = sym h.0 ∙ h'.3 in absurd (omega (arith, z))
  one_instance (Reducer m q kind) Output j h h' e = let z : suc h.0 ≡ 0 = sym h.3 ∙ h'.0 in absurd (omega (arith, z))
  one_instance (Reducer m q kind) (Reducer m' q' kind') j h h' e =
      let z : suc h.0 ≡ suc h'.0 = sym h.3 ∙ h'.3 in
      let k : h.0 ≡ h'.0 = omega (arith, z) in
      let n : m ≡ m' = sym h.2 ∙ ap name k ∙ h'.2 in
      let y : suc q ≡ suc q' = sym h.4 ∙ h'.4 in
      let r : q ≡ q' = omega (arith, y) in
      ap (λ a. Reducer a q kind) n ∙ ap (λ b. Reducer m' b kind) r ∙ ap (λ c. Reducer m' q' c) e

  numbers_same : (j j' : numbered.Instance) → j.frame ≡ j'.frame → j.place ≡ j'.place → j ≡ j'
  numbers_same j j' e g = let R : ℕ → ℕ → numbered.Instance = λ f q. record { frame = f; place = q } in ap₂ R e g

  -- and a reducer has one number
  pub one_number : AreNamed frames name → (i : Instance) (j j' : numbered.Instance) → IsInstance p frames name i j → IsInstance p frames name i j' → j ≡ j'
  one_number named Output j j' h h' = numbers_same j j' (h.0 ∙ sym h'.0) (h.1 ∙ sym h'.1)
  one_number named (Reducer m q kind) j j' h h' =
      let k : h.0 ≡ h'.0 = named.apart h.0 h'.0 h.1 h'.1 (h.2 ∙ sym h'.2) in
      numbers_same j j' (h.3 ∙ ap suc k ∙ sym h'.3) (h.4 ∙ sym h'.4)

module _ (old new : Hypermap) (kind : MonoidKind) (j : numbered.Instance) (y : ViewValue) (h : ChangesIn old new kind j (Some y)) where
  view_is : (k : MonoidKind) (i : numbered.Instance) → view_in new k i ≡ cond (same_kind kind k && ranges.same_instance j i) (Some y) (view_in old k i)
  view_is k i = each_kind (λ k. (i : numbered.Instance) → view_in new k i ≡ cond (same_kind kind k && ranges.same_instance j i) (Some y) (view_in old k i)) h k i

  pub changed_here : value_in new kind j ≡ y
  changed_here = ap (or_unit (structure_of kind)) (view_is kind j ∙ ap (λ b. cond b (Some y) (view_in old kind j)) (and_from (same_kind kind kind) (ranges.same_instance j j) (kind_itself kind) (same_self j)))

  pub changed_off : (k : MonoidKind) (i : numbered.Instance) → (same_kind kind k && ranges.same_instance j i) ≡ false → value_in new k i ≡ value_in old k i
  changed_off k i e = ap (or_unit (structure_of k)) (view_is k i ∙ ap (λ b. cond b (Some y) (view_in old k i)) e)

-- A piece's views after an event of reducer i0 that changes its view to that of y and leaves the
-- others.
module _ (p : Source) (frames : List (Activation FrameState)) (name : ℕ → Name) (named : AreNamed frames name) (old new : Hypermap) (i0 : Instance) (j0 : numbered.Instance) (y : ViewValue) (v v' : Instance → View)
    (at : IsInstance p frames name i0 j0) (changes : ChangesIn old new (kind_of i0) j0 (Some y)) (hit : IsViewOf (kind_of i0) (v' i0) y) (miss : (i : Instance) → same_instance i0 i ≡ false → v' i ≡ v i)
    (before : (i : Instance) (j : numbered.Instance) → IsInstance p frames name i j → IsViewOf (kind_of i) (v i) (value_in old (kind_of i) j)) where
  pub views_after : (i : Instance) (j : numbered.Instance) → IsInstance p frames name i j → IsViewOf (kind_of i) (v' i) (value_in new (kind_of i) j)
  views_after i j is = by (same_instance i0 i) refl
    where
      other : same_instance i0 i ≡ false → (b : Bool) → (same_kind (kind_of i0) (kind_of i) && ranges.same_instance j0 j) ≡ b → (same_kind (kind_of i0) (kind_of i) && ranges.same_instance j0 j) ≡ false
      other q true e =
          let parts = and_parts (same_kind (kind_of i0) (kind_of i)) (ranges.same_instance j0 j) e in
          let n : j0 ≡ j = same_from_true j0 j parts.1 in
          let same : i0 ≡ i = one_instance p frames name i0 i j (subst (λ (x : numbered.Instance). IsInstance p frames name i0 x) n at) is (same_kind-eq (kind_of i0) (kind_of i) parts.0) in
          let z : true ≡ false = sym (subst (λ x. same_instance i0 x ≡ true) same (same_instance-refl i0)) ∙ q in cc
      other q false e = e

      by : (b : Bool) → same_instance i0 i ≡ b → IsViewOf (kind_of i) (v' i) (value_in new (kind_of i) j)
      by true q =
          let same : i0 ≡ i = same_instance-eq i0 i q in
          let n : j0 ≡ j = one_number p frames name named i0 j0 j at (subst (λ x. IsInstance p frames name x j) (sym same) is) in
          let value : value_in new (kind_of i0) j ≡ y = ap (value_in new (kind_of i0)) (sym n) ∙ changed_here old new (kind_of i0) j0 y changes in
          subst (λ x. IsViewOf (kind_of x) (v' x) (value_in new (kind_of x) j)) same (subst (λ z. IsViewOf (kind_of i0) (v' i0) z) (sym value) hit)
      by false q =
          let kept : value_in new (kind_of i) j ≡ value_in old (kind_of i) j = changed_off old new (kind_of i0) j0 y changes (kind_of i) j (other q (same_kind (kind_of i0) (kind_of i) && ranges.same_instance j0 j) refl) in
          subst (λ z. IsViewOf (kind_of i) (v' i) z) (sym kept) (subst (λ u. IsViewOf (kind_of i) u (value_in old (kind_of i) j)) (sym (miss i q)) (before i j is))
