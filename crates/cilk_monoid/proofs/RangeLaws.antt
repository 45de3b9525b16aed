-- Views of ranges in a lawful monoid.
use Rattle.std.proofs.Common.{◌≡◌, Bool, true, false, cond, eqb, List, [], ◌∷◌, ◌++◌, ◌⊎◌, inl, inr, sym, ap, ◌∙◌, refl, subst, true≢false}
use Rattle.std.proofs.lemmas.Bool.{and_parts, and_from, eqb-true, eq-eqb, cond-true, cond-false, false_from_ne_true}
use Rattle.cilk_types.specs.declared.event.Instance.{Instance}
use Rattle.cilk_monoid.specs.Laws.{MonoidStructure, IsLawful}
use Rattle.cilk_monoid.specs.Products.{product_of_updates}
use Rattle.cilk_monoid.specs.Ranges.{ReducerEvent, Created, Updated, SetTo, Retired, same_instance, after_event, view_after, view_of, instance_of, IsReset, reset_view, HasWord, HaveWords, Mentions, Resets, updates_of, RangesMultiply, BeginsAtLastReset}

-- ---- instances
pub same_from_true : (a b : Instance) → same_instance a b ≡ true → a ≡ b
same_from_true a b h =
    let p = and_parts (eqb a.frame b.frame) (eqb a.place b.place) h in
    let f : a.frame ≡ b.frame = eqb-true a.frame b.frame p.0 in
    let q : a.place ≡ b.place = eqb-true a.place b.place p.1 in
    λ i. record { frame = f i; place = q i }

pub same_self : (a : Instance) → same_instance a a ≡ true
same_self a = and_from (eqb a.frame a.frame) (eqb a.place a.place) (eq-eqb a.frame a.frame refl) (eq-eqb a.place a.place refl)

pub true_from_same : (a b : Instance) → a ≡ b → same_instance a b ≡ true
true_from_same a b p = subst (λ (x : Instance). same_instance a x ≡ true) p (same_self a)

pub false_from_different : (a b : Instance) → ¬ (a ≡ b) → same_instance a b ≡ false
false_from_different a b h = false_from_ne_true (same_instance a b) (λ t. h (same_from_true a b t))

pub different_from_false : (a b : Instance) → same_instance a b ≡ false → ¬ (a ≡ b)
different_from_false a b h p = true≢false (sym (true_from_same a b p) ∙ h)

-- whether an event of the range is of i
mentions : (i : Instance) (es : List ReducerEvent) → Mentions i es ⊎ ¬ (Mentions i es)
mentions i [] = inr (λ h. h)
mentions i (e ∷ es) = by (same_instance (instance_of e) i) refl (mentions i es)
  where
    by : (b : Bool) → same_instance (instance_of e) i ≡ b → Mentions i es ⊎ ¬ (Mentions i es) → Mentions i (e ∷ es) ⊎ ¬ (Mentions i (e ∷ es))
    by true p r = inl (inl (same_from_true (instance_of e) i p))
    by false p (inl m) = inl (inr m)
    by false p (inr m) = inr (λ h. elim h [ inl s ↦ different_from_false (instance_of e) i p s | inr t ↦ m t ])

module _ {V : Type 0} (M : MonoidStructure V) (i : Instance) where
  -- ---- events of other reducers
  other_event : (e : ReducerEvent) (v : V) → same_instance (instance_of e) i ≡ false → after_event M i e v ≡ v
  other_event (Created j) v h = cond-false (same_instance j i) M.unit v h
  other_event (Updated j x) v h = cond-false (same_instance j i) (M.combine v (M.single x)) v h
  other_event (SetTo j x) v h = cond-false (same_instance j i) (M.single x) v h
  other_event (Retired j) v h = cond-false (same_instance j i) M.unit v h

  pub view_after-unmentioned : (es : List ReducerEvent) (v : V) → ¬ (Mentions i es) → view_after M i es v ≡ v
  view_after-unmentioned [] v h = refl
  view_after-unmentioned (e ∷ es) v h =
      ap (view_after M i es) (other_event e v (false_from_different (instance_of e) i (λ p. h (inl p))))
      ∙ view_after-unmentioned es v (λ m. h (inr m))

  pub view_after-append : (es fs : List ReducerEvent) (v : V) → view_after M i (es ++ fs) v ≡ view_after M i fs (view_after M i es v)
  view_after-append [] fs v = refl
  view_after-append (e ∷ es) fs v = view_after-append es fs (after_event M i e v)

  -- one more event
  pub view_of-push : (es : List ReducerEvent) (e : ReducerEvent) → view_of M i (es ++ e ∷ []) ≡ after_event M i e (view_of M i es)
  view_of-push es e = view_after-append es (e ∷ []) M.unit

  -- ---- events that reset i
  reset_event : (e : ReducerEvent) (v : V) → same_instance (instance_of e) i ≡ true → IsReset e → after_event M i e v ≡ reset_view M e
  reset_event (Created j) v h r = cond-true (same_instance j i) M.unit v h
  reset_event (Updated j x) v h r = absurd r
  reset_event (SetTo j x) v h r = cond-true (same_instance j i) (M.single x) v h
  reset_event (Retired j) v h r = cond-true (same_instance j i) M.unit v h

  module _ (IsMember : V → Type 0) (laws : IsLawful M IsMember) where
    -- ---- views are members
    event_member : (e : ReducerEvent) (v : V) → HasWord e → IsMember v → IsMember (after_event M i e v)
    event_member (Created j) v w h = by (same_instance j i)
      where
        by : (b : Bool) → IsMember (cond b M.unit v)
        by true = laws.unit_member
        by false = h
    event_member (Updated j x) v w h = by (same_instance j i)
      where
        by : (b : Bool) → IsMember (cond b (M.combine v (M.single x)) v)
        by true = laws.combine_member v (M.single x) h (laws.single_member x w)
        by false = h
    event_member (SetTo j x) v w h = by (same_instance j i)
      where
        by : (b : Bool) → IsMember (cond b (M.single x) v)
        by true = laws.single_member x w
        by false = h
    event_member (Retired j) v w h = by (same_instance j i)
      where
        by : (b : Bool) → IsMember (cond b M.unit v)
        by true = laws.unit_member
        by false = h

    pub view_after_member : (es : List ReducerEvent) (v : V) → HaveWords es → IsMember v → IsMember (view_after M i es v)
    view_after_member [] v w h = h
    view_after_member (e ∷ es) v w h = view_after_member es (after_event M i e v) w.1 (event_member e v w.0 h)

    pub view_of_member : (es : List ReducerEvent) → HaveWords es → IsMember (view_of M i es)
    view_of_member es w = view_after_member es M.unit w laws.unit_member

    pub updates_member : (es : List ReducerEvent) → HaveWords es → IsMember (product_of_updates M (updates_of i es))
    updates_member [] w = laws.unit_member
    updates_member (Created j ∷ es) w = updates_member es w.1
    updates_member (Updated j x ∷ es) w = by (same_instance j i) (updates_member es w.1)
      where
        by : (b : Bool) → IsMember (product_of_updates M (updates_of i es)) → IsMember (product_of_updates M (cond b (x ∷ updates_of i es) (updates_of i es)))
        by true h = laws.combine_member (M.single x) (product_of_updates M (updates_of i es)) (laws.single_member x w.0) h
        by false h = h
    updates_member (SetTo j x ∷ es) w = updates_member es w.1
    updates_member (Retired j ∷ es) w = updates_member es w.1

    -- ---- a range that doesn't reset i multiplies the view before it by its updates
    pub view_after-updates : (es : List ReducerEvent) (v : V) → IsMember v → HaveWords es → ¬ (Resets i es) → view_after M i es v ≡ M.combine v (product_of_updates M (updates_of i es))
    view_after-updates [] v h w r = sym (laws.right_neutral v h)
    view_after-updates (Created j ∷ es) v h w r =
        ap (view_after M i es) (other_event (Created j) v (false_from_different j i (λ p. r (inl (p, tt)))))
        ∙ view_after-updates es v h w.1 (λ q. r (inr q))
    view_after-updates (Updated j x ∷ es) v h w r =
        let s = laws.single_member x w.0 in
        let rest = view_after-updates es (M.combine v (M.single x)) (laws.combine_member v (M.single x) h s) w.1 (λ q. r (inr q)) in
        by (same_instance j i) (rest ∙ laws.associative v (M.single x) (product_of_updates M (updates_of i es)) h s (updates_member es w.1)) (view_after-updates es v h w.1 (λ q. r (inr q)))
      where
        by : (b : Bool) → view_after M i es (M.combine v (M.single x)) ≡ M.combine v (product_of_updates M (x ∷ updates_of i es)) → view_after M i es v ≡ M.combine v (product_of_updates M (updates_of i es))
            → view_after M i es (cond b (M.combine v (M.single x)) v) ≡ M.combine v (product_of_updates M (cond b (x ∷ updates_of i es) (updates_of i es)))
        by true p q = p
        by false p q = q
    view_after-updates (SetTo j x ∷ es) v h w r =
        ap (view_after M i es) (other_event (SetTo j x) v (false_from_different j i (λ p. r (inl (p, tt)))))
        ∙ view_after-updates es v h w.1 (λ q. r (inr q))
    view_after-updates (Retired j ∷ es) v h w r =
        ap (view_after M i es) (other_event (Retired j) v (false_from_different j i (λ p. r (inl (p, tt)))))
        ∙ view_after-updates es v h w.1 (λ q. r (inr q))

    pub view_of-updates : (es : List ReducerEvent) → HaveWords es → ¬ (Resets i es) → view_of M i es ≡ product_of_updates M (updates_of i es)
    view_of-updates es w r =
        view_after-updates es M.unit laws.unit_member w r
        ∙ laws.left_neutral (product_of_updates M (updates_of i es)) (updates_member es w)

    pub view_of-adjoining : (left right : List ReducerEvent) → HaveWords left → HaveWords right → (Mentions i left → ¬ (Resets i right)) → view_of M i (left ++ right) ≡ M.combine (view_of M i left) (view_of M i right)
    view_of-adjoining left right wl wr apart = view_after-append left right M.unit ∙ by (mentions i left)
      where
        by : Mentions i left ⊎ ¬ (Mentions i left) → view_after M i right (view_of M i left) ≡ M.combine (view_of M i left) (view_of M i right)
        by (inl m) =
            view_after-updates right (view_of M i left) (view_of_member left wl) wr (apart m)
            ∙ ap (M.combine (view_of M i left)) (sym (view_of-updates right wr (apart m)))
        by (inr n) =
            let empty = view_after-unmentioned left M.unit n in
            ap (view_after M i right) empty
            ∙ sym (laws.left_neutral (view_of M i right) (view_of_member right wr))
            ∙ ap (λ v. M.combine v (view_of M i right)) (sym empty)

    pub view_of-reset : (before later : List ReducerEvent) (e : ReducerEvent) → HaveWords before → HasWord e → HaveWords later → instance_of e ≡ i → IsReset e → ¬ (Resets i later)
        → view_of M i (before ++ e ∷ later) ≡ M.combine (reset_view M e) (product_of_updates M (updates_of i later))
    view_of-reset before later e wb we wl same reset none =
        let v = view_of M i before in
        let left = reset_event e v (true_from_same (instance_of e) i same) reset in
        let member = subst IsMember left (event_member e v we (view_of_member before wb)) in
        view_after-append before (e ∷ later) M.unit ∙ ap (view_after M i later) left ∙ view_after-updates later (reset_view M e) member wl none

module _ {V : Type 0} (M : MonoidStructure V) (IsMember : V → Type 0) (laws : IsLawful M IsMember) where
  pub ranges_multiply : RangesMultiply M
  ranges_multiply i left right wl wr apart = view_of-adjoining M i IsMember laws left right wl wr apart

  pub begins_at_last_reset : BeginsAtLastReset M
  begins_at_last_reset = record {
    last = λ i before later e wb we wl same reset none. view_of-reset M i IsMember laws before later e wb we wl same reset none;
    none = λ i es w r. view_of-updates M i IsMember laws es w r;
  }
