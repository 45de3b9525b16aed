-- Frames that keep their indices, cells and reducers while their states change, and new frames
-- after them.
--
-- - `carries_same`, `carries_then`, `carries_changed`: which lists carry which;
-- - `carried_back`: where none is added;
-- - `scope_on`, `cell_on`, `instance_on`, `deeds_on`: what stays of them;
-- - `seen_on`, `ended_on`, `goes_on`, `block_on`, `keeps_on`: what frames see and wait for, and the
--   pieces at their blocks.
use Rattle.std.proofs.Common.{◌≡◌, ◌<◌, ℕ, true, cond, ℤ, List, [], ◌∷◌, ◌++◌, length, slice_get, Option, Some, None, refl, sym, ap, ◌∙◌, subst}
use Rattle.cilk_types.specs.declared.event.Event.{Event}
use Rattle.cilk_types.specs.declared.event.Instance as numbered
use Rattle.cilk_types.specs.declared.invocation.Invocation.TheVariants.{Call, Spawn}
use Rattle.cilk_monoid.specs.declared.kind.MonoidKind.{MonoidKind}
use Rattle.cilk_program.proofs.Visible.{frame_more}
use Rattle.cilk_program.specs.Scopes.{Scope}
use Rattle.cilk_program.specs.Syntax.{Source}
use Rattle.cilk_lower.specs.Code.{CodeView}
use Rattle.cilk_frames.specs.Sight.{HasScope, LinksTo}
use Rattle.cilk_frames.specs.declared.activation.Activation.{Activation}
use Rattle.cilk_join.specs.Joins.{JoinView}
use Rattle.cilk_determinacy.specs.Machine.{State, deeds_at}
use Rattle.cilk_determinacy.specs.Monoids.{unit_of}
use Rattle.cilk_determinacy.specs.Progress.{child_after, HasEnded, GoesOn, AtBegin, AfterEvent, AfterChild, AfterSteal, BlockHasEnded}
use Rattle.cilk_determinacy.specs.Runs.{Name, Cell, Global, Own, Instance, Output, Reducer, Granted, Begins, Resumes, Creates, Updates, Sets, Values, Prints, Deed, Does, Invokes, Reads, Writes, Syncs, Ends, Passes}
use Rattle.cilk_determinacy.specs.FrameEnvMachine.{has_ended}
use Rattle.cilk_determinacy.specs.Reducers.{View, kind_of, monoid_of}
use Rattle.cilk_determinacy.specs.FrameEnvs.{FrameEnv}
use Rattle.cilk_scheduler.specs.declared.scheduler.Scheduler.{Scheduler}
use Rattle.cilk_scheduler.specs.declared.frame_state.FrameState.{FrameState}
use Rattle.cilk_scheduler.specs.Blocks.{Lays}
use Rattle.cilk_scheduler.specs.Schedulers.{greatest, IsBare, Keeps, Seen, run_at, stolen_at_block, waits_at}
use Rattle.cilk_scheduler.specs.Numbered.{size_of, IsCell, IsInstance, IsMarked, IsDeed, AreDeeds, CellBoth, ReducerBoth, numbers_in, global_cell, global_both}
use Rattle.cilk_scheduler.specs.FrameStates.{changed}
use Rattle.cilk_scheduler.proofs.Kept.{changed_get}
use Rattle.cilk_scheduler.proofs.Onward.{end_of, has_end}
use Rattle.cilk_scheduler.proofs.Placed.{get_some}
use Rattle.cilk_scheduler.proofs.Plain.{get_low, lays_same}

-- each frame of the one list is at its place in the other, with something else beside
abbrev pub Carries : List (Activation FrameState) → List (Activation FrameState) → Type 0
Carries old new = (j : ℕ) (a : Activation FrameState) → slice_get old j ≡ Some a → (y : FrameState) × (slice_get new j ≡ Some (record a { cursor = y }))

pub carries_same : (l : List (Activation FrameState)) → Carries l l
carries_same l j a at = (a.cursor, at)

pub carries_then : (l m n : List (Activation FrameState)) → Carries l m → Carries m n → Carries l n
carries_then l m n f g j a at = let r = f j a at in let q = g j (record a { cursor = r.0 }) r.1 in (q.0, q.1)

pub carries_changed : (f : FrameState → FrameState) (l : List (Activation FrameState)) (k : ℕ) → Carries l (changed f l k)
carries_changed f l k j a at = changed_get f l k j a at

-- where none is added, a frame was there
pub carried_back : (old new : List (Activation FrameState)) → Carries old new → length new ≡ length old → (j : ℕ) (b : Activation FrameState) → slice_get new j ≡ Some b → (a : Activation FrameState) × (slice_get old j ≡ Some a) × (b ≡ record a { cursor = b.cursor })
carried_back old new on same j b at =
    let low : j < length old = subst (λ n. j < n) same (get_low new j b at) in
    let r = get_some old j low in
    let g = on j r.0 r.1 in
    let is : record r.0 { cursor = g.0 } ≡ b = (let q : Some (record r.0 { cursor = g.0 }) ≡ Some b = sym g.1 ∙ at in cc) in
    (r.0, r.1, sym is ∙ ap (λ (z : Activation FrameState). record r.0 { cursor = z.cursor }) is)

module _ (old new : List (Activation FrameState)) (on : Carries old new) where
  links_on : (o : Option ℕ) (scope : Scope ℕ numbered.Instance) → LinksTo old o scope → LinksTo new o scope
  links_on None [] h = tt
  links_on None (x ∷ scope) h = absurd h
  links_on (Some n) [] h = absurd h
  links_on (Some n) (x ∷ scope) h =
      let a = h.0 in
      let g = on n a h.1 in
      (record a { cursor = g.0 }, g.1, h.2, h.3, links_on a.outer scope h.4)

  pub scope_on : (a : Activation FrameState) (y : FrameState) (scope : Scope ℕ numbered.Instance) → HasScope old a scope → HasScope new (record a { cursor = y }) scope
  scope_on a y scope h = record { outer = h.outer; scope_is = h.scope_is; low = h.low; links = links_on a.outer h.outer h.links }

  pub low_on : (j : ℕ) → j < length old → j < length new
  low_on j low = let r = get_some old j low in let g = on j r.0 r.1 in get_low new j (record r.0 { cursor = g.0 }) g.1

  module _ (name : ℕ → Name) (p : Source) (s s' : State FrameEnv View) (sizes : (m : Name) (q : ℕ) → q < size_of p (s.frames m) → q < size_of p (s'.frames m)) where
    pub cell_on : (c : Cell) (n : ℕ) → IsCell p old name s c n → IsCell p new name s' c n
    cell_on (Global g) n h = h
    cell_on (Own m q) n h = let g = on h.0 h.1 h.2 in (h.0, record h.1 { cursor = g.0 }, g.1, h.3, h.4, sizes m q h.5)

    pub instance_on : (i : Instance) (j : numbered.Instance) → IsInstance p old name i j → IsInstance p new name i j
    instance_on Output j h = h
    instance_on (Reducer m q kind) j h = (h.0, low_on h.0 h.1, h.2, h.3, h.4)

    mark_on : (t : ℕ) (m : Granted) (e : Event) → IsMarked p old name t m e → IsMarked p new name t m e
    mark_on t Begins e h = h
    mark_on t Resumes e h = h
    mark_on t (Creates i) e h = (h.0, instance_on i h.0 h.1, h.2)
    mark_on t (Updates i x) e h = (h.0, instance_on i h.0 h.1, h.2)
    mark_on t (Sets i x) e h = (h.0, instance_on i h.0 h.1, h.2)
    mark_on t (Values i v) e h = (h.0, instance_on i h.0 h.1, h.2)
    mark_on t (Prints x) e h = h

    deed_on : (t : ℕ) (d : Deed FrameEnv) (e : Event) → IsDeed p old name s t d e → IsDeed p new name s' t d e
    deed_on t (Does (Reads c v)) e h = (h.0, cell_on c h.0 h.1, h.2)
    deed_on t (Does (Writes c v)) e h = (h.0, cell_on c h.0 h.1, h.2)
    deed_on t (Does Syncs) e h = h
    deed_on t (Does (Ends v gone)) e h = h
    deed_on t (Does (Passes m)) e h = mark_on t m e h
    deed_on t (Invokes Call w) e h = (h.0, low_on h.0 h.1, h.2, h.3)
    deed_on t (Invokes Spawn w) e h = (h.0, low_on h.0 h.1, h.2, h.3)

    pub deeds_on : (t : ℕ) (ds : List (Deed FrameEnv)) (es : List Event) → AreDeeds p old name s t ds es → AreDeeds p new name s' t ds es
    deeds_on t [] [] h = tt
    deeds_on t [] (e ∷ es) h = absurd h
    deeds_on t (d ∷ ds) [] h = absurd h
    deeds_on t (d ∷ ds) (e ∷ es) h = (deed_on t d e h.0, deeds_on t ds es h.1)

module _ (code : CodeView) (p : Source) (inputs : List ℤ) (name : ℕ → Name) (b b' : Scheduler) (s s' : State FrameEnv View) where
  abbrev old_frame_states : List (Activation FrameState)
  old_frame_states = let f = b.frames in f.items

  abbrev new_frame_states : List (Activation FrameState)
  new_frame_states = let f = b'.frames in f.items

  pub seen_on : Carries old_frame_states new_frame_states → ((m : Name) (q : ℕ) → q < size_of p (s.frames m) → q < size_of p (s'.frames m)) → (a : Activation FrameState) (y : FrameState) (v : FrameEnv) → Seen code p inputs name b s a v
      → Seen code p inputs name b' s' (record a { cursor = y }) v
  seen_on on sizes a y v h = record {
    scope = h.scope;
    target = h.target;
    names = h.names;
    numbers = scope_on old_frame_states new_frame_states on a y (numbers_in h.scope) h.numbers;
    goes_to = h.goes_to;
    lies_at = h.lies_at;
    sees = frame_more p global_cell global_both (λ (c : CellBoth). IsCell p old_frame_states name s c.0 c.1) (λ (c : CellBoth). IsCell p new_frame_states name s' c.0 c.1)
        (λ (r : ReducerBoth) (q : MonoidKind). (kind_of (r.0 q) ≡ q) × IsInstance p old_frame_states name (r.0 q) r.1) (λ (r : ReducerBoth) (q : MonoidKind). (kind_of (r.0 q) ≡ q) × IsInstance p new_frame_states name (r.0 q) r.1)
        (λ c g. cell_on old_frame_states new_frame_states on name p s s' sizes c.0 c.1 g) (λ r q g. (g.0, instance_on old_frame_states new_frame_states on name p s s' sizes (r.0 q) r.1 g.1)) v.callee h.scope h.target h.sees;
  }

  -- the pieces of children that have ended stay, with the flags of the block
  pub keeps_on : length new_frame_states ≡ length old_frame_states → ((i : Instance) (j : numbered.Instance) → IsInstance p new_frame_states name i j → IsInstance p old_frame_states name i j) → (n : Name) (ds ds' : List (Deed FrameEnv)) (j : JoinView)
      → stolen_at_block code p inputs name b' s' n ds' ≡ stolen_at_block code p inputs name b s n ds → ((q : ℕ) → has_ended (deeds_at (s'.frames (n ++ q ∷ []))) ≡ has_ended (deeds_at (s.frames (n ++ q ∷ []))))
      → ((i : Instance) (q : ℕ) → has_ended (deeds_at (s.frames (n ++ q ∷ []))) ≡ true → s'.piece (n ++ q ∷ []) i ≡ s.piece (n ++ q ∷ []) i)
      → ((i : Instance) → cond j.closed (s'.piece n i) (unit_of monoid_of i) ≡ cond j.closed (s.piece n i) (unit_of monoid_of i)) → Keeps code p inputs name b s n ds j → Keeps code p inputs name b' s' n ds' j
  keeps_on same back n ds ds' j flags ends kids own h = record {
    lays = λ i q is.
        let r = j.row in
        subst (λ ks. Lays (kind_of i) (λ z. s'.piece (n ++ z ∷ []) i) (λ z. has_ended (deeds_at (s'.frames (n ++ z ∷ [])))) (cond j.closed (s'.piece n i) (unit_of monoid_of i)) (unit_of monoid_of i) ks (run_at (kind_of i) q r.run) (waits_at (kind_of i) q r.waits)) (sym flags)
        (lays_same (kind_of i) (λ z. s.piece (n ++ z ∷ []) i) (λ z. s'.piece (n ++ z ∷ []) i) (λ z. has_ended (deeds_at (s.frames (n ++ z ∷ [])))) (λ z. has_ended (deeds_at (s'.frames (n ++ z ∷ []))))
        (cond j.closed (s.piece n i) (unit_of monoid_of i)) (cond j.closed (s'.piece n i) (unit_of monoid_of i)) ends (kids i) (own i)
        (unit_of monoid_of i) (stolen_at_block code p inputs name b s n ds) (run_at (kind_of i) q r.run) (waits_at (kind_of i) q r.waits) (h.lays i q (back i q is)));
    stolen = h.stolen ∙ ap greatest (sym flags);
    arrived = h.arrived;
    bare = λ run at. subst (λ z. IsBare z run) (sym same) (h.bare run at);
    bare_later = λ q a run at has. subst (λ z. IsBare z run) (sym same) (h.bare_later q a run at has);
  }

-- ---- waiting frames, where each ended frame stays ended and no steal is undone

module _ (s s' : State FrameEnv View) (ends : (m : Name) → has_ended (deeds_at (s.frames m)) ≡ true → has_ended (deeds_at (s'.frames m)) ≡ true) where
  pub ended_on : (m : Name) → HasEnded FrameEnv View s m → HasEnded FrameEnv View s' m
  ended_on m h = end_of s' m (s'.frames m) refl (ends m (has_end s m h))

  pub goes_on : (m : Name) → ((q : ℕ) → s.stolen (m ++ q ∷ []) ≡ true → s'.stolen (m ++ q ∷ []) ≡ true) → (ds : List (Deed FrameEnv)) → GoesOn FrameEnv View s m ds → GoesOn FrameEnv View s' m ds
  goes_on m stays ds (AtBegin q) = AtBegin q
  goes_on m stays ds (AfterEvent b x q) = AfterEvent b x q
  goes_on m stays ds (AfterChild b kind what q h) = AfterChild b kind what q (ended_on (child_after m b) h)
  goes_on m stays ds (AfterSteal b what q h) = AfterSteal b what q (stays _ h)

  pub block_on : (m : Name) (ds : List (Deed FrameEnv)) → BlockHasEnded FrameEnv View s m ds → BlockHasEnded FrameEnv View s' m ds
  block_on m ds h = λ before after what q none. ended_on (child_after m before) (h before after what q none)
