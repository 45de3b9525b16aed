-- The views of a worker whose frame ends lose that frame's own reducers, as its piece does.
--
-- - `AreOwn`, `own_there`: the numbers of a frame's own reducers;
-- - `lost_value`, `lost_views`: the views that are left;
-- - `lost_bare`: they hold nothing of frames that haven't begun.
use Rattle.std.proofs.Common.{◌≡◌, ◌+◌, ℕ, suc, Bool, true, false, true≢false, cond, IsTrue, List, [], ◌∷◌, slice_get, Option, Some, None, refl, sym, ap, ◌∙◌, subst, arith}
use Rattle.std.specs.Prelude.{◌&&◌}
use Rattle.std.proofs.lemmas.Bool.{and_parts, and_from}
use Rattle.cilk_types.specs.declared.event.Instance as numbered
use Rattle.cilk_monoid.specs.declared.kind.MonoidKind.{MonoidKind}
use Rattle.cilk_monoid.specs.Kinds.{structure_of, same_kind}
use Rattle.cilk_monoid.specs.Ranges as ranges
use Rattle.cilk_monoid.specs.Values.{ViewValue}
use Rattle.cilk_monoid.proofs.SameKinds.{kind_itself, same_kind-eq}
use Rattle.cilk_monoid.proofs.RangeLaws.{same_self, same_from_true}
use Rattle.cilk_program.specs.declared.ask.Callee.{Callee}
use Rattle.cilk_program.specs.declared.ask.Callee.TheVariants as callees
use Rattle.cilk_program.specs.declared.syntax.ReducerPlace.TheVariants as places
use Rattle.cilk_program.specs.Inside.{body_of, is_whole}
use Rattle.cilk_program.specs.SerialRun.{own_reducers}
use Rattle.cilk_program.specs.Syntax.{Source}
use Rattle.cilk_program.specs.WellNamed.{is_kind, reducer_is_there}
use Rattle.cilk_hypermap.specs.Hypermap.{view_in, value_in}
use Rattle.cilk_hypermap.specs.Views.{or_unit}
use Rattle.cilk_hypermap.specs.declared.hypermap.Hypermap.{Hypermap}
use Rattle.cilk_frames.specs.declared.activation.Activation.{Activation}
use Rattle.cilk_determinacy.specs.Runs.{Name, Instance, has_instance, same_instance}
use Rattle.cilk_determinacy.proofs.Basics.{same_instance-refl, same_instance-eq}
use Rattle.cilk_determinacy.specs.FrameEnvMachine.{retired_from}
use Rattle.cilk_determinacy.specs.Reducers.{View, kind_of, monoid_of}
use Rattle.cilk_determinacy.specs.FrameEnvViews.{IsViewOf}
use Rattle.cilk_determinacy.specs.FrameEnvs.{Reducers}
use Rattle.cilk_determinacy.proofs.FrameEnvViews.{are_multiplied}
use Rattle.cilk_scheduler.specs.declared.frame_state.FrameState.{FrameState}
use Rattle.cilk_scheduler.specs.Schedulers.{IsBare}
use Rattle.cilk_scheduler.specs.Retired.{without_own}
use Rattle.cilk_scheduler.specs.Numbered.{AreNamed, IsInstance}
use Rattle.cilk_scheduler.proofs.Viewed.{one_instance, one_number}

-- the own reducers of a body exist
pub own_there : (p : Source) (callee : Callee) (n : ℕ) (k : MonoidKind) → slice_get (own_reducers p callee) n ≡ Some k → IsTrue (is_whole callee) × IsTrue (reducer_is_there p (body_of p callee) (places.Own 0 n) k)
own_there p callees.Root n k at = (refl, subst (λ o. IsTrue (is_kind o k)) (sym at) (kind_itself k))
own_there p (callees.Function c) n k at = (refl, subst (λ o. IsTrue (is_kind o k)) (sym at) (kind_itself k))
own_there p (callees.Loop l) n k at = let no : None ≡ Some k = at in let z : ⊥ = cc in absurd z

one_unit : (t : Bool) (u : ViewValue) → cond t u u ≡ u
one_unit true u = refl
one_unit false u = refl

module _ (p : Source) (frames : List (Activation FrameState)) (name : ℕ → Name) (own : ℕ → Reducers) (frame : ℕ) where
  abbrev number : ℕ → numbered.Instance
  number place = record { frame = frame; place = place }

  -- the reducers of these monoids, from one on, have the numbers from a place on
  abbrev pub AreOwn : ℕ → ℕ → List MonoidKind → Type 0
  AreOwn place n [] = Unit {0}
  AreOwn place n (k ∷ ks) = (kind_of (own n k) ≡ k) × IsInstance p frames name (own n k) (record { frame = frame; place = place }) × AreOwn (suc place) (suc n) ks

  pub are_own : (place n : ℕ) (ks : List MonoidKind) → ((q : ℕ) (k : MonoidKind) → slice_get ks q ≡ Some k → (kind_of (own (n + q) k) ≡ k) × IsInstance p frames name (own (n + q) k) (record { frame = frame; place = place + q })) → AreOwn place n ks
  are_own place n [] each = tt
  are_own place n (k ∷ ks) each =
      let one = each 0 k refl in
      let e : n + 0 ≡ n = omega arith in
      let f : place + 0 ≡ place = omega arith in (
        ap (λ z. kind_of (own z k)) (sym e) ∙ one.0,
        subst (λ z. IsInstance p frames name (own n k) (number z)) f (subst (λ z. IsInstance p frames name (own z k) (number (place + 0))) e one.1),
        are_own (suc place) (suc n) ks (λ q j at.
            let it = each (suc q) j at in
            let g : n + suc q ≡ suc n + q = omega arith in
            let h : place + suc q ≡ suc place + q = omega arith in
            (ap (λ z. kind_of (own z j)) (sym g) ∙ it.0, subst (λ z. IsInstance p frames name (own (suc n + q) j) (number z)) h (subst (λ z. IsInstance p frames name (own z j) (number (place + suc q))) g it.1))),
      )

  module _ (named : AreNamed frames name) (i : Instance) (j : numbered.Instance) (is : IsInstance p frames name i j) where
    abbrev value : Option ViewValue → ViewValue
    value v = or_unit (structure_of (kind_of i)) v

    -- it is this reducer by its number exactly where it is by its name
    is_hit : (n place : ℕ) (k : MonoidKind) → kind_of (own n k) ≡ k → IsInstance p frames name (own n k) (number place) → (t : Bool) → same_instance (own n k) i ≡ t → (same_kind k (kind_of i) && ranges.same_instance (number place) j) ≡ t
    is_hit n place k kind at true e =
        let same : own n k ≡ i = same_instance-eq (own n k) i e in
        let kinds : k ≡ kind_of i = sym kind ∙ ap kind_of same in
        let numbers : number place ≡ j = one_number p frames name named i (number place) j (subst (λ x. IsInstance p frames name x (number place)) same at) is in
        and_from (same_kind k (kind_of i)) (ranges.same_instance (number place) j) (subst (λ z. same_kind k z ≡ true) kinds (kind_itself k)) (subst (λ z. ranges.same_instance (number place) z ≡ true) numbers (same_self (number place)))
    is_hit n place k kind at false e = by (same_kind k (kind_of i) && ranges.same_instance (number place) j) refl
      where
        by : (t : Bool) → (same_kind k (kind_of i) && ranges.same_instance (number place) j) ≡ t → (same_kind k (kind_of i) && ranges.same_instance (number place) j) ≡ false
        by true q =
            let parts = and_parts (same_kind k (kind_of i)) (ranges.same_instance (number place) j) q in
            let numbers : number place ≡ j = same_from_true (number place) j parts.1 in
            let kinds : kind_of (own n k) ≡ kind_of i = kind ∙ same_kind-eq k (kind_of i) parts.0 in
            let same : own n k ≡ i = one_instance p frames name (own n k) i j (subst (λ z. IsInstance p frames name (own n k) z) numbers at) is kinds in
            absurd (true≢false (sym (subst (λ x. same_instance (own n k) x ≡ true) same (same_instance-refl (own n k))) ∙ e))
        by false q = q

    lost_value : (place n : ℕ) (ks : List MonoidKind) → AreOwn place n ks → (v : Option ViewValue)
        → value (without_own frame place ks (kind_of i) j v) ≡ cond (has_instance (retired_from own n ks) i) ((structure_of (kind_of i)).unit) (value v)
    lost_value place n [] own_is v = refl
    lost_value place n (k ∷ ks) own_is v = by (same_instance (own n k) i) refl (λ x. lost_value (suc place) (suc n) ks own_is.2 x)
      where
        by : (t : Bool) → same_instance (own n k) i ≡ t
            → ((x : Option ViewValue) → value (without_own frame (suc place) ks (kind_of i) j x) ≡ cond (has_instance (retired_from own (suc n) ks) i) ((structure_of (kind_of i)).unit) (value x))
            → value (without_own frame (suc place) ks (kind_of i) j (cond (same_kind k (kind_of i) && ranges.same_instance (number place) j) None v)) ≡ cond (cond (same_instance (own n k) i) true (has_instance (retired_from own (suc n) ks) i)) ((structure_of (kind_of i)).unit) (value v)
        by true e next =
            ap (λ t. value (without_own frame (suc place) ks (kind_of i) j (cond t None v))) (is_hit n place k own_is.0 own_is.1 true e)
            ∙ next None ∙ one_unit (has_instance (retired_from own (suc n) ks) i) ((structure_of (kind_of i)).unit)
            ∙ sym (ap (λ t. cond (cond t true (has_instance (retired_from own (suc n) ks) i)) ((structure_of (kind_of i)).unit) (value v)) e)
        by false e next =
            ap (λ t. value (without_own frame (suc place) ks (kind_of i) j (cond t None v))) (is_hit n place k own_is.0 own_is.1 false e)
            ∙ next v
            ∙ sym (ap (λ t. cond (cond t true (has_instance (retired_from own (suc n) ks) i)) ((structure_of (kind_of i)).unit) (value v)) e)

    -- the views of what isn't retired stay, and retired ones are units
    pub lost_views : (place n : ℕ) (ks : List MonoidKind) → AreOwn place n ks → (old new : Hypermap) → view_in new (kind_of i) j ≡ without_own frame place ks (kind_of i) j (view_in old (kind_of i) j) → (v : View) → IsViewOf (kind_of i) v (value_in old (kind_of i) j)
        → IsViewOf (kind_of i) (cond (has_instance (retired_from own n ks) i) ((monoid_of i).unit) v) (value_in new (kind_of i) j)
    lost_views place n ks own_is old new lost v before =
        subst (λ x. IsViewOf (kind_of i) (cond (has_instance (retired_from own n ks) i) ((monoid_of i).unit) v) x) (sym (ap value lost ∙ lost_value place n ks own_is (view_in old (kind_of i) j)))
        (by (has_instance (retired_from own n ks) i))
      where
        by : (t : Bool) → IsViewOf (kind_of i) (cond t ((monoid_of i).unit) v) (cond t ((structure_of (kind_of i)).unit) (value_in old (kind_of i) j))
        by true = let m = are_multiplied in m.unit (kind_of i)
        by false = before

-- a unit stays a unit
lost_unit : (frame place : ℕ) (ks : List MonoidKind) (k : MonoidKind) (j : numbered.Instance) (v : Option ViewValue) → or_unit (structure_of k) v ≡ (structure_of k).unit → or_unit (structure_of k) (without_own frame place ks k j v) ≡ (structure_of k).unit
lost_unit frame place [] k j v h = h
lost_unit frame place (own ∷ ks) k j v h = lost_unit frame (suc place) ks k j (cond (same_kind own k && ranges.same_instance (record { frame = frame; place = place }) j) None v) (by (same_kind own k && ranges.same_instance (record { frame = frame; place = place }) j))
  where
    by : (t : Bool) → or_unit (structure_of k) (cond t None v) ≡ (structure_of k).unit
    by true = refl
    by false = h

pub lost_bare : (frames frame place : ℕ) (ks : List MonoidKind) (old new : Hypermap) → ((k : MonoidKind) (j : numbered.Instance) → view_in new k j ≡ without_own frame place ks k j (view_in old k j)) → IsBare frames (value_in old) → IsBare frames (value_in new)
lost_bare frames frame place ks old new lost bare k j lt = ap (or_unit (structure_of k)) (lost k j) ∙ lost_unit frame place ks k j (view_in old k j) (bare k j lt)
