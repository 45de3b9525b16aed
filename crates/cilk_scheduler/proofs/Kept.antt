-- All else stays the same when one frame's state changes, and when one more event is recorded.
--
-- - `changed_get`, `changed_from`: the state at each index before and after;
-- - `links_changed`, `scope_changed`, `sees_changed`: what frames see;
-- - `named_changed`, `absent_changed`, `present_changed`: names;
-- - `cell_changed`, `instance_changed`, `deeds_changed`: numbers of cells and reducers, and deeds
--   of frames;
-- - `events_more`, `deeds_more`: one event more.
use Rattle.std.proofs.Common.{◌≡◌, ◌<◌, ◌⊎◌, inl, inr, ⊎_elim, ℕ, zero, suc, nat_eq, Bool, true, false, cond, List, [], ◌∷◌, ◌++◌, length, slice_get, Option, Some, None, refl, sym, ap, ap₂, ◌∙◌, subst}
use Rattle.cilk_types.specs.declared.event.Event.{Event}
use Rattle.cilk_types.specs.declared.event.Instance as numbered
use Rattle.cilk_types.specs.declared.invocation.Invocation.TheVariants.{Call, Spawn}
use Rattle.cilk_program.specs.Scopes.{Scope}
use Rattle.cilk_program.specs.Syntax.{Source}
use Rattle.cilk_frames.specs.Sight.{HasScope, LinksTo}
use Rattle.cilk_frames.specs.declared.activation.Activation.{Activation}
use Rattle.cilk_determinacy.specs.Runs.{Name, Cell, Global, Own, Instance, Output, Reducer, Granted, Begins, Resumes, Creates, Updates, Sets, Values, Prints, Deed, Does, Invokes, Reads, Writes, Syncs, Ends, Passes}
use Rattle.cilk_determinacy.specs.Machine.{State}
use Rattle.cilk_determinacy.specs.Reducers.{View}
use Rattle.cilk_determinacy.specs.FrameEnvs.{FrameEnv}
use Rattle.cilk_scheduler.specs.declared.frame_state.JournalEntry.{JournalEntry}
use Rattle.cilk_scheduler.specs.declared.frame_state.FrameState.{FrameState}
use Rattle.cilk_scheduler.specs.Events.{SeesAt}
use Rattle.cilk_scheduler.specs.Numbered.{AreNamed, children_among, parent_at, IsAbsent, size_of, IsCell, IsInstance, IsMarked, IsDeed, AreDeeds, events_of}
use Rattle.cilk_scheduler.specs.FrameStates.{changed}
use Rattle.cilk_scheduler.proofs.Changing.{changed_length}
use Rattle.cilk_scheduler.proofs.Siblings.{among_same}

module _ {C : Type 0} (f : C → C) where
  pub changed_get : (frames : List (Activation C)) (k j : ℕ) (a : Activation C) → slice_get frames j ≡ Some a → (y : C) × (slice_get (changed f frames k) j ≡ Some (record a { cursor = y }))
  changed_get [] k j a h = let no : None ≡ Some a = h in let z : ⊥ = cc in absurd z
  changed_get (x ∷ frames) zero zero a h = let e : x ≡ a = (let s : Some x ≡ Some a = h in cc) in (f a.cursor, ap (λ (b : Activation C). Some (record b { cursor = f b.cursor })) e)
  changed_get (x ∷ frames) zero (suc j) a h = (a.cursor, h)
  changed_get (x ∷ frames) (suc k) zero a h = (a.cursor, h)
  changed_get (x ∷ frames) (suc k) (suc j) a h = changed_get frames k j a h

  pub changed_from : (frames : List (Activation C)) (k j : ℕ) (b : Activation C) → slice_get (changed f frames k) j ≡ Some b → (a : Activation C) × (slice_get frames j ≡ Some a) × (b ≡ record a { cursor = b.cursor }) × ((b.cursor ≡ a.cursor) ⊎ (b.cursor ≡ f a.cursor))
  changed_from [] k j b h = let no : None ≡ Some b = h in let z : ⊥ = cc in absurd z
  changed_from (x ∷ frames) zero zero b h =
      let e : record x { cursor = f x.cursor } ≡ b = (let s : Some (record x { cursor = f x.cursor }) ≡ Some b = h in cc) in
      (x, refl, sym e ∙ ap (λ (c : Activation C). record x { cursor = c.cursor }) e, inr (ap (λ (c : Activation C). c.cursor) (sym e)))
  changed_from (x ∷ frames) zero (suc j) b h = (b, h, refl, inl refl)
  changed_from (x ∷ frames) (suc k) zero b h = (b, h, refl, inl refl)
  changed_from (x ∷ frames) (suc k) (suc j) b h = changed_from frames k j b h

  -- ---- what frames see

  pub links_changed : (frames : List (Activation C)) (k : ℕ) (o : Option ℕ) (scope : Scope ℕ numbered.Instance) → LinksTo frames o scope → LinksTo (changed f frames k) o scope
  links_changed frames k None [] h = tt
  links_changed frames k None (x ∷ scope) h = absurd h
  links_changed frames k (Some n) [] h = absurd h
  links_changed frames k (Some n) (x ∷ scope) h =
      let a = h.0 in
      let g = changed_get frames k n a h.1 in
      (record a { cursor = g.0 }, g.1, h.2, h.3, links_changed frames k a.outer scope h.4)

  pub scope_changed : (frames : List (Activation C)) (k : ℕ) (a : Activation C) (y : C) (scope : Scope ℕ numbered.Instance) → HasScope frames a scope → HasScope (changed f frames k) (record a { cursor = y }) scope
  scope_changed frames k a y scope h = record { outer = h.outer; scope_is = h.scope_is; low = h.low; links = links_changed frames k a.outer h.outer h.links }

  pub sees_changed : (frames : List (Activation C)) (k j : ℕ) (scope : Scope ℕ numbered.Instance) → SeesAt frames j scope → SeesAt (changed f frames k) j scope
  sees_changed frames k j scope h = let g = changed_get frames k j h.0 h.1 in (record h.0 { cursor = g.0 }, g.1, scope_changed frames k h.0 g.0 scope h.2)

-- who started each frame
parents_of : (f : FrameState → FrameState) → ((x : FrameState) → (let y = f x in y.parent ≡ x.parent)) → (frames : List (Activation FrameState)) (k j : ℕ) → parent_at (changed f frames k) j ≡ parent_at frames j
parents_of f same [] k j = refl
parents_of f same (x ∷ frames) zero zero = ap (λ n. Some n) (same x.cursor)
parents_of f same (x ∷ frames) zero (suc j) = refl
parents_of f same (x ∷ frames) (suc k) zero = refl
parents_of f same (x ∷ frames) (suc k) (suc j) = parents_of f same frames k j

module _ (f : FrameState → FrameState) (frames : List (Activation FrameState)) (k : ℕ) (name : ℕ → Name) where
  -- ---- names

  pub parents_changed : ((x : FrameState) → (let y = f x in y.parent ≡ x.parent)) → (j : ℕ) → parent_at (changed f frames k) j ≡ parent_at frames j
  parents_changed same j = parents_of f same frames k j

  pub named_changed : ((x : FrameState) → (let y = f x in (y.parent ≡ x.parent) × (y.ordinal ≡ x.ordinal))) → AreNamed frames name → AreNamed (changed f frames k) name
  named_changed same h = record {
    root = h.root;
    child = λ j b at.
        let g = changed_from f frames k (suc j) b at in
        let a = g.0 in
        let old = h.child j a g.1 in
        let x = a.cursor in
        ⊎_elim (λ e. subst (λ (y : FrameState). (y.parent < suc j) × (name (suc j) ≡ name y.parent ++ y.ordinal ∷ [])) (sym e) old)
        (λ e. let s = same x in subst (λ (y : FrameState). (y.parent < suc j) × (name (suc j) ≡ name y.parent ++ y.ordinal ∷ [])) (sym e) (subst (λ n. n < suc j) (sym s.0) old.0, old.1 ∙ ap₂ (λ p q. name p ++ q ∷ []) (sym s.0) (sym s.1))) g.3;
    ordinal = λ j b at.
        let g = changed_from f frames k (suc j) b at in
        let a = g.0 in
        let old = h.ordinal j a g.1 in
        let x = a.cursor in
        let IsCounted : FrameState → Type 0 = (λ (y : FrameState). y.ordinal ≡ suc (length (children_among (changed f frames k) y.parent (suc j)))) in
        let now : IsCounted x = old ∙ ap (λ (l : List ℕ). suc (length l)) (sym (among_same frames (changed f frames k) (λ i. parents_changed (λ z. let s = same z in s.0) i) x.parent (suc j))) in
        ⊎_elim (λ e. subst IsCounted (sym e) now)
        (λ e. let s = same x in subst IsCounted (sym e) (s.1 ∙ now ∙ ap (λ m. suc (length (children_among (changed f frames k) m (suc j)))) (sym s.0))) g.3;
    apart = λ i j low low' e. h.apart i j (subst (λ n. i < n) (changed_length f frames k) low) (subst (λ n. j < n) (changed_length f frames k) low') e;
  }

  pub absent_changed : (n : Name) → IsAbsent (changed f frames k) name n → IsAbsent frames name n
  absent_changed n h = λ j low. h j (subst (λ m. j < m) (sym (changed_length f frames k)) low)

  pub present_changed : (n : Name) → IsAbsent frames name n → IsAbsent (changed f frames k) name n
  present_changed n h = λ j low. h j (subst (λ m. j < m) (changed_length f frames k) low)

  -- ---- numbers

  module _ (p : Source) (s s' : State FrameEnv View) (sizes : (m : Name) → size_of p (s.frames m) ≡ size_of p (s'.frames m)) where
    pub cell_changed : (c : Cell) (n : ℕ) → IsCell p frames name s c n → IsCell p (changed f frames k) name s' c n
    cell_changed (Global g) n h = h
    cell_changed (Own m q) n h = let g = changed_get f frames k h.0 h.1 h.2 in (h.0, record h.1 { cursor = g.0 }, g.1, h.3, h.4, subst (λ z. q < z) (sizes m) h.5)

    pub instance_changed : (i : Instance) (j : numbered.Instance) → IsInstance p frames name i j → IsInstance p (changed f frames k) name i j
    instance_changed Output j h = h
    instance_changed (Reducer m q kind) j h = (h.0, subst (λ z. h.0 < z) (sym (changed_length f frames k)) h.1, h.2, h.3, h.4)

    mark_changed : (t : ℕ) (m : Granted) (e : Event) → IsMarked p frames name t m e → IsMarked p (changed f frames k) name t m e
    mark_changed t Begins e h = h
    mark_changed t Resumes e h = h
    mark_changed t (Creates i) e h = (h.0, instance_changed i h.0 h.1, h.2)
    mark_changed t (Updates i x) e h = (h.0, instance_changed i h.0 h.1, h.2)
    mark_changed t (Sets i x) e h = (h.0, instance_changed i h.0 h.1, h.2)
    mark_changed t (Values i v) e h = (h.0, instance_changed i h.0 h.1, h.2)
    mark_changed t (Prints x) e h = h

    pub deed_changed : (t : ℕ) (d : Deed FrameEnv) (e : Event) → IsDeed p frames name s t d e → IsDeed p (changed f frames k) name s' t d e
    deed_changed t (Does (Reads c v)) e h = (h.0, cell_changed c h.0 h.1, h.2)
    deed_changed t (Does (Writes c v)) e h = (h.0, cell_changed c h.0 h.1, h.2)
    deed_changed t (Does Syncs) e h = h
    deed_changed t (Does (Ends v gone)) e h = h
    deed_changed t (Does (Passes m)) e h = mark_changed t m e h
    deed_changed t (Invokes Call w) e h = (h.0, subst (λ z. h.0 < z) (sym (changed_length f frames k)) h.1, h.2, h.3)
    deed_changed t (Invokes Spawn w) e h = (h.0, subst (λ z. h.0 < z) (sym (changed_length f frames k)) h.1, h.2, h.3)

    pub deeds_changed : (t : ℕ) (ds : List (Deed FrameEnv)) (es : List Event) → AreDeeds p frames name s t ds es → AreDeeds p (changed f frames k) name s' t ds es
    deeds_changed t [] [] h = tt
    deeds_changed t [] (e ∷ es) h = absurd h
    deeds_changed t (d ∷ ds) [] h = absurd h
    deeds_changed t (d ∷ ds) (e ∷ es) h = (deed_changed t d e h.0, deeds_changed t ds es h.1)

-- ---- one event more

pub events_more : (k : ℕ) (es : List JournalEntry) (e : JournalEntry) → events_of k (es ++ e ∷ []) ≡ cond (nat_eq e.frame k) (events_of k es ++ e.event ∷ []) (events_of k es)
events_more k [] e = refl
events_more k (x ∷ es) e = by (nat_eq x.frame k) refl (nat_eq e.frame k) refl (events_more k es e)
  where
    by : (b : Bool) → nat_eq x.frame k ≡ b → (c : Bool) → nat_eq e.frame k ≡ c → events_of k (es ++ e ∷ []) ≡ cond (nat_eq e.frame k) (events_of k es ++ e.event ∷ []) (events_of k es)
        → cond (nat_eq x.frame k) (x.event ∷ events_of k (es ++ e ∷ [])) (events_of k (es ++ e ∷ [])) ≡ cond (nat_eq e.frame k) (cond (nat_eq x.frame k) (x.event ∷ events_of k es) (events_of k es) ++ e.event ∷ []) (cond (nat_eq x.frame k) (x.event ∷ events_of k es) (events_of k es))
    by true q true r h = rw (q, r) (ap (λ l. x.event ∷ l) (let g : events_of k (es ++ e ∷ []) ≡ events_of k es ++ e.event ∷ [] = rw r at h in g))
    by true q false r h = rw (q, r) (ap (λ l. x.event ∷ l) (let g : events_of k (es ++ e ∷ []) ≡ events_of k es = rw r at h in g))
    by false q true r h = rw (q, r) (let g : events_of k (es ++ e ∷ []) ≡ events_of k es ++ e.event ∷ [] = rw r at h in g)
    by false q false r h = rw (q, r) (let g : events_of k (es ++ e ∷ []) ≡ events_of k es = rw r at h in g)

pub deeds_more : (p : Source) (frames : List (Activation FrameState)) (name : ℕ → Name) (s : State FrameEnv View) (t : ℕ) (ds : List (Deed FrameEnv)) (es : List Event) (d : Deed FrameEnv) (e : Event)
    → AreDeeds p frames name s t ds es → IsDeed p frames name s t d e → AreDeeds p frames name s t (ds ++ d ∷ []) (es ++ e ∷ [])
deeds_more p frames name s t [] [] d e h g = (g, tt)
deeds_more p frames name s t [] (x ∷ es) d e h g = absurd h
deeds_more p frames name s t (c ∷ ds) [] d e h g = absurd h
deeds_more p frames name s t (c ∷ ds) (x ∷ es) d e h g = (h.0, deeds_more p frames name s t ds es d e h.1 g)
