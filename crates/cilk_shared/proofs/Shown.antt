-- Views of a range with one event more.
--
-- - `shows_none`: without events there are no views; `shows_kept`, `shows_same`: views or values as
--   before;
-- - `shows_change`: one event of a reducer; `shows_read`: its value is read; `shows_ends`: a
--   frame's reducers end.
use Rattle.std.proofs.Common.{◌≡◌, Bool, true, false, cond, ◌&&◌, List, [], ◌∷◌, ◌++◌, ⊎_elim, Some, None, refl, sym, ap, ◌∙◌}
use Rattle.cilk_types.specs.declared.event.Instance.{Instance}
use Rattle.cilk_monoid.specs.declared.kind.MonoidKind.{MonoidKind}
use Rattle.cilk_monoid.specs.Kinds.{structure_of, same_kind}
use Rattle.cilk_monoid.specs.Ranges.{ReducerEvent, same_instance, after_event, view_after, view_of, instance_of}
use Rattle.cilk_monoid.specs.Values.{ViewValue}
use Rattle.cilk_monoid.proofs.RangeLaws.{same_from_true, different_from_false, view_after-append, view_after-unmentioned, view_of-push}
use Rattle.cilk_monoid.proofs.SameKinds.{kind_itself}
use Rattle.cilk_hypermap.specs.declared.hypermap.Hypermap.{Hypermap}
use Rattle.cilk_hypermap.specs.Hypermap.{EachKind, view_in, value_in, ChangesIn, KeepsAll, KeepsAllValues}
use Rattle.cilk_hypermap.specs.Ranges.{ShowsRange}
use Rattle.cilk_hypermap.specs.Views.{or_unit}
use Rattle.cilk_hypermap.proofs.Merges.{each_kind}

module _ (kinds : Instance → MonoidKind) where
  pub shows_none : (h : Hypermap) → EachKind (λ k. (i : Instance) → view_in h k i ≡ None) → ShowsRange kinds h []
  shows_none h none i = ap (or_unit (structure_of (kinds i))) (each_kind (λ k. (j : Instance) → view_in h k j ≡ None) none (kinds i) i)

  pub shows_kept : (old new : Hypermap) (es : List ReducerEvent) → KeepsAll old new → ShowsRange kinds old es → ShowsRange kinds new es
  shows_kept old new es kept shows i = ap (or_unit (structure_of (kinds i))) (each_kind (λ k. (j : Instance) → view_in new k j ≡ view_in old k j) kept (kinds i) i) ∙ shows i

  pub shows_same : (old new : Hypermap) (es : List ReducerEvent) → KeepsAllValues old new → ShowsRange kinds old es → ShowsRange kinds new es
  shows_same old new es kept shows i = each_kind (λ k. (j : Instance) → value_in new k j ≡ value_in old k j) kept (kinds i) i ∙ shows i

  -- the view of i alone has changed, to w
  module _ (old new : Hypermap) (i : Instance) (w : ViewValue) (changes : ChangesIn old new (kinds i) i (Some w)) where
    at_kind : (k : MonoidKind) (j : Instance) → view_in new k j ≡ cond (same_kind (kinds i) k && same_instance i j) (Some w) (view_in old k j)
    at_kind k j = each_kind (λ n. (q : Instance) → view_in new n q ≡ cond (same_kind (kinds i) n && same_instance i q) (Some w) (view_in old n q)) changes k j

    value_here : (j : Instance) → i ≡ j → same_instance i j ≡ true → value_in new (kinds j) j ≡ w
    value_here j is same =
        let kind : same_kind (kinds i) (kinds j) ≡ true = ap (λ (q : Instance). same_kind (kinds i) (kinds q)) (sym is) ∙ kind_itself (kinds i) in
        let both : same_kind (kinds i) (kinds j) && same_instance i j ≡ true = ap (λ b. b && same_instance i j) kind ∙ same in
        ap (or_unit (structure_of (kinds j))) (at_kind (kinds j) j ∙ ap (λ b. cond b (Some w) (view_in old (kinds j) j)) both)

    value_there : (j : Instance) → same_instance i j ≡ false → value_in new (kinds j) j ≡ value_in old (kinds j) j
    value_there j apart =
        let both : same_kind (kinds i) (kinds j) && same_instance i j ≡ false = ap (λ b. same_kind (kinds i) (kinds j) && b) apart ∙ neither (same_kind (kinds i) (kinds j)) in
        ap (or_unit (structure_of (kinds j))) (at_kind (kinds j) j ∙ ap (λ b. cond b (Some w) (view_in old (kinds j) j)) both)
      where
        neither : (b : Bool) → b && false ≡ false
        neither true = refl
        neither false = refl

    pub shows_change : (es : List ReducerEvent) (e : ReducerEvent) → instance_of e ≡ i → w ≡ after_event (structure_of (kinds i)) i e (value_in old (kinds i) i) → ShowsRange kinds old es → ShowsRange kinds new (es ++ e ∷ [])
    shows_change es e of_i is shows j = by (same_instance i j) refl
      where
        by : (b : Bool) → same_instance i j ≡ b → value_in new (kinds j) j ≡ view_of (structure_of (kinds j)) j (es ++ e ∷ [])
        by true same =
            let here : i ≡ j = same_from_true i j same in
            value_here j here same ∙ is
            ∙ ap (λ (q : Instance). after_event (structure_of (kinds q)) q e (value_in old (kinds q) q)) here
            ∙ ap (after_event (structure_of (kinds j)) j e) (shows j)
            ∙ sym (view_of-push (structure_of (kinds j)) j es e)
        by false apart =
            let other : i ≡ j → ⊥ = different_from_false i j apart in
            value_there j apart ∙ shows j
            ∙ sym (view_after-unmentioned (structure_of (kinds j)) j (e ∷ []) (view_of (structure_of (kinds j)) j es) (λ m. ⊎_elim (λ (x : instance_of e ≡ j). other (sym of_i ∙ x)) (λ (x : ⊥). x) m))
            ∙ sym (view_after-append (structure_of (kinds j)) j es (e ∷ []) (structure_of (kinds j)).unit)

    pub shows_read : (es : List ReducerEvent) → w ≡ value_in old (kinds i) i → ShowsRange kinds old es → ShowsRange kinds new es
    shows_read es is shows j = by (same_instance i j) refl
      where
        by : (b : Bool) → same_instance i j ≡ b → value_in new (kinds j) j ≡ view_of (structure_of (kinds j)) j es
        by true same =
            let here : i ≡ j = same_from_true i j same in
            value_here j here same ∙ is ∙ ap (λ (q : Instance). value_in old (kinds q) q) here ∙ shows j
        by false apart = value_there j apart ∙ shows j

  pub shows_ends : (old new : Hypermap) (es gone : List ReducerEvent) → ((k : MonoidKind) (i : Instance) → value_in new k i ≡ view_after (structure_of k) i gone (value_in old k i)) → ShowsRange kinds old es → ShowsRange kinds new (es ++ gone)
  shows_ends old new es gone ends shows i =
      ends (kinds i) i ∙ ap (view_after (structure_of (kinds i)) i gone) (shows i)
      ∙ sym (view_after-append (structure_of (kinds i)) i es gone (structure_of (kinds i)).unit)
