-- A worker's frame ends: what stays, whatever becomes of its worker and its parent.
--
-- - `sync_end`, `joined_end`, `end_last`: an end among deeds;
-- - `makes`, `own_are`, `left_views`, `left_bare`: the step of the free machine and the views left;
-- - `Moved`: the changes of frame states and workers;
-- - `keeps_stays`, `where_else`, `other`, `itself`, `holds_at`: blocks, frame states and workers;
-- - `waits_as`, `worker_table_kept`: the worker table;
-- - `shown_after`: the whole.
use Rattle.std.proofs.Common.{◌≡◌, inl, inr, ⊎_elim, ◌+◌, ◌<◌, ◌≤◌, ℕ, suc, nat_eq, eq-eqb, eqb-true, Bool, true, false, true≢false, cond, ℤ, List, [], ◌∷◌, ◌++◌, length, map, set, slice_get, sum, Option, Some, None, refl, sym, ap, ap₂, ◌∙◌, subst, arith}
use Rattle.std.proofs.lemmas.Bool.{cases_Bool}
use Rattle.cilk_types.specs.declared.event.Event.TheVariants as events
use Rattle.cilk_types.specs.declared.event.Instance as numbered
use Rattle.cilk_types.specs.declared.outcome.Outcome.{Outcome}
use Rattle.cilk_monoid.specs.declared.kind.MonoidKind.{MonoidKind}
use Rattle.cilk_program.specs.declared.ask.Ask.TheVariants as asks
use Rattle.cilk_program.specs.declared.syntax.Reducer as syntax
use Rattle.cilk_program.specs.declared.syntax.ReducerPlace.TheVariants as places
use Rattle.cilk_program.specs.Scopes.{Scope, instance_in}
use Rattle.cilk_program.specs.SerialRun.{global_reducer, own_reducers}
use Rattle.cilk_program.specs.Syntax.{Source}
use Rattle.cilk_lower.specs.Code.{CodeView}
use Rattle.cilk_lower.specs.Layout.{LaysOut}
use Rattle.cilk_frames.specs.declared.activation.Activation.{Activation}
use Rattle.cilk_hypermap.specs.Hypermap.{view_in, value_in}
use Rattle.cilk_hypermap.specs.declared.hypermap.Hypermap.{Hypermap}
use Rattle.cilk_join.specs.Joins.{JoinView}
use Rattle.cilk_join.specs.Waits.{shown}
use Rattle.cilk_determinacy.specs.Cuts.{times, joined_at, spawn_bit, sync_bit}
use Rattle.cilk_determinacy.specs.Costs.{Total, TickTotal, EventTotal, FrameTotal, CellTotal, cost}
use Rattle.cilk_determinacy.specs.Machine.{Frame, State, HasEnd, Makes, after_deed, after_views, deed_of, deeds_at, effect, joined_by, started}
use Rattle.cilk_determinacy.specs.Monoids.{numbers_of, unit_of}
use Rattle.cilk_determinacy.specs.Progress.{BlockHasEnded, GoesOn, HasNext, child_after}
use Rattle.cilk_determinacy.specs.Runs.{Name, same_name, Cell, Global, Own, Instance, Output, Reducer, has_instance, End, Pass, Resume, Sync, Reads, Writes, Syncs, Ends, Passes, Deed, Does, Invokes}
use Rattle.cilk_determinacy.proofs.Basics.{same_name-refl, same_name-eq}
use Rattle.cilk_determinacy.proofs.Started.{started_does}
use Rattle.cilk_determinacy.specs.FrameEnvMachine.{costs, has_ended, next, retired_by, taken}
use Rattle.cilk_determinacy.specs.Reducers.{View, kind_of, monoid_of}
use Rattle.cilk_determinacy.specs.Steps.{Next, outcome_in}
use Rattle.cilk_determinacy.specs.FrameEnvViews.{IsViewOf}
use Rattle.cilk_determinacy.specs.FrameEnvs.{FrameEnv, global_named, own_named, reducer_seen}
use Rattle.cilk_determinacy.proofs.Histories.{but_last_more, ended_more}
use Rattle.cilk_scheduler.specs.declared.scheduler.Scheduler.{Scheduler}
use Rattle.cilk_scheduler.specs.declared.frame_state.JournalEntry.{JournalEntry}
use Rattle.cilk_scheduler.specs.declared.frame_state.FrameState.{FrameState}
use Rattle.cilk_scheduler.specs.declared.frame_state.Status.{Status}
use Rattle.cilk_scheduler.specs.declared.frame_state.Status.TheVariants.{Held, Calling, Offered, Waiting, Finished}
use Rattle.cilk_scheduler.specs.declared.frame_state.Worker.{Worker}
use Rattle.cilk_scheduler.specs.Acting.{IsShown}
use Rattle.cilk_scheduler.specs.Blocks.{Lays, stolen_in}
use Rattle.cilk_scheduler.specs.Schedulers.{carried, greatest, hand_of, offers_of, IsBare, IsDue, IsUsed, is_resuming, is_there, run_at, stolen_at_block, waits_at, HasBlock, Holds, IsWorkerTable, IsWhere, Keeps, Sits, ShowsBy, Tells}
use Rattle.cilk_scheduler.specs.WorkerTables.{BlockIsOver, WorkerTable, IsIn}
use Rattle.cilk_scheduler.specs.Ending.{Closes, created_by}
use Rattle.cilk_scheduler.specs.Events.{SeesAt}
use Rattle.cilk_scheduler.specs.Retired.{without_own}
use Rattle.cilk_scheduler.specs.Numbered.{AreDeeds, AreNamed, IsAbsent, IsCell, IsInstance, events_of, size_of}
use Rattle.cilk_scheduler.specs.Parents.{AreStarted}
use Rattle.cilk_scheduler.specs.FrameStates.{changed, counted, finished}
use Rattle.cilk_scheduler.specs.Steps.{HasCome}
use Rattle.cilk_scheduler.specs.Workers.{altered}
use Rattle.cilk_scheduler.proofs.Altered as altering
use Rattle.cilk_scheduler.proofs.Among.{lays_among, stolen_among}
use Rattle.cilk_scheduler.proofs.Carried.{carried_ext}
use Rattle.cilk_scheduler.proofs.Carries as carries
use Rattle.cilk_scheduler.proofs.Changing.{changed_known}
use Rattle.cilk_scheduler.proofs.Kept.{deeds_more, events_more, named_changed}
use Rattle.cilk_scheduler.proofs.Onward.{end_of, has_end, name_off}
use Rattle.cilk_scheduler.proofs.Plain.{get_low, length_more}
use Rattle.cilk_scheduler.proofs.Ready as ready
use Rattle.cilk_scheduler.proofs.Ready.{strands_stay}
use Rattle.cilk_scheduler.proofs.Retiring.{AreOwn, are_own, lost_bare, lost_views, own_there}
use Rattle.cilk_scheduler.proofs.Stepped as stepped

-- ---- an end among deeds

sync_end : (ds : List (Deed FrameEnv)) (v : ℤ) (gone : List Instance) → sync_bit (ds ++ Does (Ends v gone) ∷ []) ≡ sync_bit ds
sync_end [] v gone = refl
sync_end (Does (Reads c x) ∷ ds) v gone = sync_end ds v gone
sync_end (Does (Writes c x) ∷ ds) v gone = sync_end ds v gone
sync_end (Does Syncs ∷ ds) v gone = refl
sync_end (Does (Ends x y) ∷ ds) v gone = sync_end ds v gone
sync_end (Does (Passes m) ∷ ds) v gone = sync_end ds v gone
sync_end (Invokes b w ∷ ds) v gone = sync_end ds v gone

joined_end : (z q : ℕ) (ds : List (Deed FrameEnv)) (v : ℤ) (gone : List Instance) → joined_at z q (ds ++ Does (Ends v gone) ∷ []) ≡ joined_at z q ds
joined_end z q [] v gone = refl
joined_end z q (Does x ∷ ds) v gone = joined_end z q ds v gone
joined_end z q (Invokes b w ∷ ds) v gone = ap₂ (λ n m. cond (nat_eq z q) (spawn_bit b n) m) (sync_end ds v gone) (joined_end (suc z) q ds v gone)

pub end_last : (ds : List (Deed FrameEnv)) (v : ℤ) (gone : List Instance) → HasEnd (ds ++ Does (Ends v gone) ∷ [])
end_last [] v gone = tt
end_last (Does (Reads c x) ∷ ds) v gone = end_last ds v gone
end_last (Does (Writes c x) ∷ ds) v gone = end_last ds v gone
end_last (Does Syncs ∷ ds) v gone = end_last ds v gone
end_last (Does (Ends x y) ∷ ds) v gone = tt
end_last (Does (Passes m) ∷ ds) v gone = end_last ds v gone
end_last (Invokes b w ∷ ds) v gone = end_last ds v gone

module _ (code : CodeView) (p : Source) (inputs : List ℤ) (name : ℕ → Name) (b : Scheduler) (d : WorkerTable) (s : State FrameEnv View) (w k : ℕ) (v : ℤ) (is_shown : IsShown code p inputs name b d s) (started_as : AreStarted p s) (h : HasCome code p inputs b w k (asks.End v)) where
  abbrev sh : ShowsBy code p inputs name b d s
  sh = is_shown.shows

  abbrev lays : LaysOut p code.layout
  lays = is_shown.lays

  abbrev old_frame_states : List (Activation FrameState)
  old_frame_states = let f = b.frames in f.items

  abbrev old_workers : List Worker
  old_workers = let l = b.workers in l.items

  abbrev frame_state : FrameState
  frame_state = let a = h.frame_state in a.cursor

  abbrev sitting : Sits code p inputs name b s k h.frame_state
  sitting = let t = is_shown.shows in t.sits k h.frame_state h.sits

  abbrev frame : Frame FrameEnv
  frame = let o = (let t = is_shown.shows in t.sits k h.frame_state h.sits) in o.frame

  abbrev what : FrameEnv
  what = let f = (let o = (let t = is_shown.shows in t.sits k h.frame_state h.sits) in o.frame) in f.what

  abbrev past : List (Deed FrameEnv)
  past = let f = (let o = (let t = is_shown.shows in t.sits k h.frame_state h.sits) in o.frame) in f.deeds

  abbrev gone : List Instance
  gone = retired_by p (let f = (let o = (let t = is_shown.shows in t.sits k h.frame_state h.sits) in o.frame) in f.what)

  no_sync : asks.End v ≡ asks.Sync → ⊥
  no_sync q = cc

  pub here : s.frames (name k) ≡ Some frame
  here = stepped.here code p inputs name b d s w k (asks.End v) lays sh h no_sync

  pub goes : has_ended past ≡ false
  goes = stepped.goes code p inputs name b d s w k (asks.End v) lays sh h no_sync

  pub going : has_ended (deeds_at (s.frames (name k))) ≡ false
  going = ap (λ f. has_ended (deeds_at f)) here ∙ goes

  low : k < length old_frame_states
  low = stepped.low code p inputs name b d s w k (asks.End v) lays sh h no_sync

  named : AreNamed old_frame_states name
  named = let t = (let t = is_shown.shows in t.tells) in t.named

  pub status_was : frame_state.status ≡ Held w
  status_was =
      let t = is_shown.shows in
      let g = t.holds w k h.worker h.at h.has in
      let same : g.frame_state ≡ h.frame_state = (let q : Some g.frame_state ≡ Some h.frame_state = sym g.here ∙ h.sits in cc) in
      ap (λ (a : Activation FrameState). let y = a.cursor in y.status) (sym same) ∙ g.held

  calm : is_resuming past ≡ false
  calm = ready.quiet code p inputs name b d s w k (asks.End v) lays sh h no_sync is_shown.asked (λ q. let e : End v gone ≡ Pass Resume = q in cc)

  -- ---- its own reducers

  kinds_are : created_by code.layout (let a = h.frame_state in a.creator) ≡ own_reducers p (let x = what in x.callee)
  kinds_are = by (let a = h.frame_state in a.creator) refl
    where
      by : (o : Option ℕ) → (let a = h.frame_state in a.creator) ≡ o → created_by code.layout o ≡ own_reducers p (let x = what in x.callee)
      by None e = let o = sitting in sym (o.creates_none e)
      by (Some f) e = let o = sitting in o.creates f e

  -- a frame's own reducer, by name
  own_seen : (n : ℕ) (kind : MonoidKind) → reducer_seen what (record { place = places.Own 0 n; kind = kind }) ≡ own_named p (let x = what in x.callee) (let x = what in x.name) n kind
  own_seen n kind =
      let o = sitting in
      let it = started_as (name k) frame here in
      ap (λ (x : FrameEnv). instance_in global_named x.sight (places.Own 0 n) kind) it.1
      ∙ ap (λ m. own_named p (let x = what in x.callee) m n kind) (sym o.named)

  pub own_are : AreOwn p old_frame_states name (own_named p (let x = what in x.callee) (let x = what in x.name)) (let a = h.frame_state in a.number) (let a = h.frame_state in a.first) 0 (own_reducers p (let x = what in x.callee))
  own_are = are_own p old_frame_states name (own_named p (let x = what in x.callee) (let x = what in x.name)) (let a = h.frame_state in a.number) (let a = h.frame_state in a.first) 0 (own_reducers p (let x = what in x.callee)) each
    where
      means : (n : ℕ) (scope : Scope ℕ numbered.Instance) → SeesAt old_frame_states k scope → (let a = h.frame_state in record { frame = a.number; place = a.first + n }) ≡ instance_in global_reducer scope (places.Own 0 n)
      means n scope at =
          let a = at.0 in
          let same : h.frame_state ≡ a = (let q : Some h.frame_state ≡ Some a = sym h.sits ∙ at.1 in cc) in
          let g = at.2 in
          let I : Activation FrameState → numbered.Instance = (λ x. record { frame = x.number; place = x.first + n }) in
          ap I same ∙ ap (λ c. instance_in global_reducer c (places.Own 0 n)) (sym g.scope_is)

      each : (q : ℕ) (kind : MonoidKind) → slice_get (own_reducers p (let x = what in x.callee)) q ≡ Some kind
          → (kind_of (own_named p (let x = what in x.callee) (let x = what in x.name) (0 + q) kind) ≡ kind) × IsInstance p old_frame_states name (own_named p (let x = what in x.callee) (let x = what in x.name) (0 + q) kind) (let a = h.frame_state in record { frame = a.number; place = a.first + q })
      each q kind at =
          let r : syntax.Reducer = record { place = places.Own 0 q; kind = kind } in
          let it = ready.means_reducer code p inputs name b d s w k (asks.End v) lays sh h no_sync r (let a = h.frame_state in record { frame = a.number; place = a.first + q }) (own_there p (let x = what in x.callee) q kind at) (means q) in
          let e : 0 + q ≡ q = omega arith in
          let f : reducer_seen what r ≡ own_named p (let x = what in x.callee) (let x = what in x.name) (0 + q) kind = own_seen q kind ∙ ap (λ n. own_named p (let x = what in x.callee) (let x = what in x.name) n kind) (sym e) in
          (ap kind_of (sym f) ∙ it.0, subst (λ i. IsInstance p old_frame_states name i (let a = h.frame_state in record { frame = a.number; place = a.first + q })) f it.1)

  -- ---- the step

  pub makes : HasNext FrameEnv View monoid_of (Next p inputs) (costs p inputs) s (name k) frame (End v gone)
  makes = stepped.makes code p inputs name b d s w k (asks.End v) lays sh h no_sync (λ q. let e : End v gone ≡ Sync = q in cc)

  pub hand_is : slice_get d.hands w ≡ Some (Some (name k))
  hand_is = stepped.hand_is code p inputs name b d s w k (asks.End v) lays sh h no_sync

  module _ (b' : Scheduler) (views : Hypermap) (c : Closes code p inputs b b' w k v h views) (s' : State FrameEnv View) (m : Makes FrameEnv View monoid_of (Next p inputs) (costs p inputs) s (name k) s') where
    abbrev new_frame_states : List (Activation FrameState)
    new_frame_states = let f = b'.frames in f.items

    abbrev new_workers : List Worker
    new_workers = let l = b'.workers in l.items

    frame_is : m.frame ≡ frame
    frame_is = let a = m.asking in let q : Some m.frame ≡ Some frame = sym a.here ∙ here in cc

    pub ask_is : m.ask ≡ End v gone
    ask_is =
        let a = m.asking in
        let n : next p inputs what past ≡ Some m.ask = subst (λ (f : Frame FrameEnv). next p inputs f.what f.deeds ≡ Some m.ask) frame_is a.next in
        let z = stepped.named_as code p inputs name b d s w k (asks.End v) lays sh h no_sync in
        let q : Some m.ask ≡ Some (End v gone) = sym n ∙ z.0 in
        cc

    deed : deed_of s.memory (numbers_of monoid_of (s.piece (name k))) m.ask ≡ Does (Ends v gone)
    deed = ap (λ a. deed_of s.memory (numbers_of monoid_of (s.piece (name k))) a) ask_is

    piece_at : (i : Instance) (z : Name) → s'.piece z i ≡ after_views (monoid_of i) i s.stolen (name k) past (Does (Ends v gone)) (λ y. s.piece y i) z
    piece_at i z = m.piece i z ∙ ap₂ (λ (f : Frame FrameEnv) x. after_views (monoid_of i) i s.stolen (name k) f.deeds x (λ y. s.piece y i) z) frame_is deed

    pub piece_here : (i : Instance) → s'.piece (name k) i ≡ cond (has_instance gone i) ((monoid_of i).unit) (s.piece (name k) i)
    piece_here i = piece_at i (name k) ∙ at_name (same_name (name k) (name k)) (same_name-refl (name k)) _ _
      where
        at_name : (t : Bool) → t ≡ true → (x y : View) → cond t x y ≡ x
        at_name t q x y = rw q refl

    pub piece_off : (i : Instance) (z : Name) → (name k ≡ z → ⊥) → s'.piece z i ≡ s.piece z i
    piece_off i z ne = piece_at i z ∙ rw (name_off (name k) z ne) refl

    total_at : (total : Total) → s'.totals total ≡ s.totals total + cost (costs p inputs) total what past (End v gone)
    total_at total = m.totals total ∙ ap₂ (λ (f : Frame FrameEnv) a. s.totals total + cost (costs p inputs) total f.what f.deeds a) frame_is ask_is

    pub memory_at : (x : Cell) → s'.memory x ≡ s.memory x
    memory_at x = ap (λ t. t x) m.memory ∙ ap (λ a. effect a x (s.memory x)) deed

    frames_are : s'.frames ≡ after_deed s.frames (name k) frame (Does (Ends v gone))
    frames_are = m.frames ∙ ap₂ (λ f a. after_deed s.frames (name k) f a) frame_is deed

    pub frame_here : s'.frames (name k) ≡ Some (record frame { deeds = past ++ Does (Ends v gone) ∷ [] })
    frame_here = ap (λ t. t (name k)) frames_are ∙ rw (same_name-refl (name k)) refl

    pub frame_else : (z : Name) → (name k ≡ z → ⊥) → s'.frames z ≡ s.frames z
    frame_else z ne = ap (λ t. t z) frames_are ∙ rw (name_off (name k) z ne) refl

    pub ended_here : has_ended (deeds_at (s'.frames (name k))) ≡ true
    ended_here = ap (λ f. has_ended (deeds_at f)) frame_here ∙ ended_more past (Does (Ends v gone)) goes

    pub ends_else : (z : Name) → (name k ≡ z → ⊥) → has_ended (deeds_at (s'.frames z)) ≡ has_ended (deeds_at (s.frames z))
    ends_else z ne = ap (λ f. has_ended (deeds_at f)) (frame_else z ne)

    -- a frame that had ended is another one
    pub apart_ended : (z : Name) → has_ended (deeds_at (s.frames z)) ≡ true → name k ≡ z → ⊥
    apart_ended z is q = true≢false (sym is ∙ ap (λ y. has_ended (deeds_at (s.frames y))) (sym q) ∙ going)

    pub ends_more : (z : Name) → has_ended (deeds_at (s.frames z)) ≡ true → has_ended (deeds_at (s'.frames z)) ≡ true
    ends_more z is = ends_else z (apart_ended z is) ∙ is

    pub kid_same : (i : Instance) (z : Name) → has_ended (deeds_at (s.frames z)) ≡ true → s'.piece z i ≡ s.piece z i
    kid_same i z is = piece_off i z (apart_ended z is)

    pub stolen_at : (z : Name) → s'.stolen z ≡ s.stolen z
    stolen_at z = ap (λ l. l z) m.stolen

    sizes : (z : Name) → size_of p (s'.frames z) ≡ size_of p (s.frames z)
    sizes z = by (same_name (name k) z) refl
      where
        by : (t : Bool) → same_name (name k) z ≡ t → size_of p (s'.frames z) ≡ size_of p (s.frames z)
        by true q =
            let e : name k ≡ z = same_name-eq (name k) z q in
            subst (λ y. size_of p (s'.frames y) ≡ size_of p (s.frames y)) e (ap (λ f. size_of p f) frame_here ∙ sym (ap (λ f. size_of p f) here))
        by false q = ap (λ f. size_of p f) (frame_else z (λ e. true≢false (sym (same_name-refl (name k)) ∙ ap (λ y. same_name (name k) y) e ∙ q)))

    pub more : (z : Name) (q : ℕ) → q < size_of p (s.frames z) → q < size_of p (s'.frames z)
    more z q lt = subst (λ n. q < n) (sym (sizes z)) lt

    -- ---- the views that are left

    pub left_views : (i : Instance) (j : numbered.Instance) → IsInstance p old_frame_states name i j → IsViewOf (kind_of i) (s'.piece (name k) i) (value_in views (kind_of i) j)
    left_views i j is =
        let u = h.worker in
        let a = h.frame_state in
        let z = c.retires in
        let own = own_named p (let x = what in x.callee) (let x = what in x.name) in
        let kinds = own_reducers p (let x = what in x.callee) in
        subst (λ x. IsViewOf (kind_of i) x (value_in views (kind_of i) j)) (sym (piece_here i))
        (lost_views p old_frame_states name own a.number named i j is a.first 0 kinds own_are u.views views (z (kind_of i) j ∙ ap (λ l. without_own a.number a.first l (kind_of i) j (view_in u.views (kind_of i) j)) kinds_are)
        (s.piece (name k) i) (ready.own_views code p inputs name b d s w k (asks.End v) lays sh h no_sync calm i j is))

    pub left_bare : IsBare (length old_frame_states) (value_in views)
    left_bare =
        let u = h.worker in
        let a = h.frame_state in
        let z = c.retires in
        lost_bare (length old_frame_states) a.number a.first (created_by code.layout a.creator) u.views views z (stepped.bare_now code p inputs name b d s w k (asks.End v) lays sh h no_sync)

    piece_bare : (n : Name) (q : ℕ) (kind : MonoidKind) → IsAbsent old_frame_states name n → s'.piece (name k) (Reducer n q kind) ≡ unit_of monoid_of (Reducer n q kind)
    piece_bare n q kind none = piece_here (Reducer n q kind) ∙ by (has_instance gone (Reducer n q kind)) (ready.own_bare code p inputs name b d s w k (asks.End v) lays sh h no_sync n q kind none)
      where
        by : (t : Bool) → s.piece (name k) (Reducer n q kind) ≡ unit_of monoid_of (Reducer n q kind) → cond t ((monoid_of (Reducer n q kind)).unit) (s.piece (name k) (Reducer n q kind)) ≡ unit_of monoid_of (Reducer n q kind)
        by true g = refl
        by false g = g

    abbrev ended : FrameState
    ended = counted (finished h.came)

    abbrev now : Activation FrameState
    now = let a = h.frame_state in record a { cursor = counted (finished h.came) }

    -- a worker before and after, where the frame at this index may no longer be offered
    pub record Had (up at : ℕ) (u u' : Worker) : Type 0 where
      pub frame_is : (w ≡ at → ⊥) → u'.frame ≡ u.frame
      pub views_are : (w ≡ at → ⊥) → u'.views ≡ u.views
      pub offers_on : (q j : ℕ) → (up ≡ j → ⊥) → (let o = u.offered in slice_get o.items q ≡ Some j) → (r : ℕ) × (let o = u'.offered in slice_get o.items r ≡ Some j)

    -- a worker that offers what it offered
    pub had_by : (up at : ℕ) (f : Worker → Worker) (u u' : Worker) → ((x : Worker) → (let y = f x in y.offered) ≡ x.offered) → altering.Then f w at u u' → Had up at u u'
    had_by up at f u u' offers then_is = record {
      frame_is = λ ne. ⊎_elim (λ g. absurd (ne g.0)) (λ g. ap (λ (y : Worker). y.frame) g.1) then_is;
      views_are = λ ne. ⊎_elim (λ g. absurd (ne g.0)) (λ g. ap (λ (y : Worker). y.views) g.1) then_is;
      offers_on = λ q j ne has. (q, subst (λ o. slice_get o.items q ≡ Some j) (sym (⊎_elim (λ g. ap (λ (y : Worker). y.offered) g.1 ∙ offers u) (λ g. ap (λ (y : Worker). y.offered) g.1) then_is)) has);
    }

    -- names stay where the frame has ended
    pub named_ended : AreNamed (changed (λ _. counted (finished h.came)) old_frame_states k) name
    named_ended =
        let y = h.came in
        let J : FrameState → FrameState = (λ x. record x { status = Finished; cursor = None; took = (let y = h.came in y.took); counted = (let y = h.came in y.took) }) in
        let was : h.came ≡ (let y = h.came in record frame_state { cursor = y.cursor; took = y.took }) = stepped.kept code p inputs name b d s w k (asks.End v) lays sh h no_sync in
        subst (λ l. AreNamed l name) (changed_known J (λ _. counted (finished h.came)) old_frame_states k h.frame_state h.sits (sym (ap (λ (x : FrameState). counted (finished x)) was))) (named_changed J old_frame_states k name (λ x. (refl, refl)) named)

    -- The changes of frame states and workers. Only one other frame may change: the parent.
    pub record Moved (up : ℕ) : Type 0 where
      pub on : carries.Carries old_frame_states new_frame_states
      pub same_length : length new_frame_states ≡ length old_frame_states
      pub else_at : (j : ℕ) → (k ≡ j → ⊥) → (up ≡ j → ⊥) → slice_get new_frame_states j ≡ slice_get old_frame_states j
      pub now_at : slice_get new_frame_states k ≡ Some now
      pub named : AreNamed new_frame_states name
      pub above : up < length old_frame_states
      pub kin : (n : Name) (z : ℕ) → name k ≡ n ++ z ∷ [] → n ≡ name up
      pub worker_on : (at : ℕ) (u : Worker) → slice_get old_workers at ≡ Some u → (u' : Worker) × (slice_get new_workers at ≡ Some u') × Had up at u u'
      pub worker_was : (at : ℕ) (u' : Worker) → slice_get new_workers at ≡ Some u' → (u : Worker) × (slice_get old_workers at ≡ Some u) × Had up at u u'

    module _ (up : ℕ) (t : Moved up) where
      -- ---- names and numbers

      pub names_differ : (i j : ℕ) → i < length old_frame_states → j < length old_frame_states → (i ≡ j → ⊥) → name i ≡ name j → ⊥
      names_differ i j at at' ne q = ne (named.apart i j at at' q)

      pub child_off : (j : ℕ) → j < length old_frame_states → (up ≡ j → ⊥) → (z : ℕ) → name k ≡ name j ++ z ∷ [] → ⊥
      child_off j at ne z e = ne (sym (named.apart j up at t.above (t.kin (name j) z e)))

      pub instance_back : (i : Instance) (j : numbered.Instance) → IsInstance p new_frame_states name i j → IsInstance p old_frame_states name i j
      instance_back Output j g = g
      instance_back (Reducer z q kind) j g = (g.0, subst (λ z. g.0 < z) t.same_length g.1, g.2, g.3, g.4)

      cell_back : (x : Cell) (n : ℕ) → IsCell p new_frame_states name s' x n → IsCell p old_frame_states name s x n
      cell_back (Global g) n it = it
      cell_back (Own z q) n it =
          let r = carries.carried_back old_frame_states new_frame_states t.on t.same_length it.0 it.1 it.2 in
          (it.0, r.0, r.1, it.3, it.4 ∙ ap (λ (a : Activation FrameState). a.base + q) r.2, subst (λ y. q < y) (sizes z) it.5)

      pub absent_back : (n : Name) → IsAbsent new_frame_states name n → IsAbsent old_frame_states name n
      absent_back n none = λ j at. none j (subst (λ z. j < z) (sym t.same_length) at)

      absent_on : (n : Name) → IsAbsent old_frame_states name n → IsAbsent new_frame_states name n
      absent_on n none = λ j at. none j (subst (λ z. j < z) t.same_length at)

      -- ---- blocks

      flags_same : (n : Name) (ds : List (Deed FrameEnv)) → stolen_at_block code p inputs name b' s' n ds ≡ stolen_at_block code p inputs name b s n ds
      flags_same n ds = ap (λ (l : Name → Bool). stolen_in (λ q. l (n ++ q ∷ [])) 1 [] ds) m.stolen

      -- a block of whose stolen children the frame isn't one
      pub keeps_stays : (n : Name) (ds : List (Deed FrameEnv)) (j : JoinView) → (name k ≡ n → ⊥) → ((z : ℕ) → s.stolen (n ++ z ∷ []) ≡ true → name k ≡ n ++ z ∷ [] → ⊥) → Keeps code p inputs name b s n ds j → Keeps code p inputs name b' s' n ds j
      keeps_stays n ds j ne off g = record {
        lays = λ i q is.
            let r = j.row in
            let loose : ℕ → Bool = (λ z. s.stolen (n ++ z ∷ [])) in
            subst (λ ks. Lays (kind_of i) (λ z. s'.piece (n ++ z ∷ []) i) (is_there code p inputs name b' s' n) (cond j.closed (s'.piece n i) (unit_of monoid_of i)) (unit_of monoid_of i) ks (run_at (kind_of i) q r.run) (waits_at (kind_of i) q r.waits)) (sym (flags_same n ds))
            (lays_among (kind_of i) (λ z. s.piece (n ++ z ∷ []) i) (λ z. s'.piece (n ++ z ∷ []) i) (is_there code p inputs name b s n) (is_there code p inputs name b' s' n)
            (cond j.closed (s.piece n i) (unit_of monoid_of i)) (cond j.closed (s'.piece n i) (unit_of monoid_of i)) (ap (λ x. cond j.closed x (unit_of monoid_of i)) (piece_off i n ne))
            (unit_of monoid_of i) (stolen_at_block code p inputs name b s n ds) (run_at (kind_of i) q r.run) (waits_at (kind_of i) q r.waits)
            (λ z at. ends_else (n ++ z ∷ []) (off z (stolen_among loose 1 [] ds z (λ y no. absurd no) at))) (λ z at there. kid_same i (n ++ z ∷ []) there) (g.lays i q (instance_back i q is)));
        stolen = g.stolen ∙ ap greatest (sym (flags_same n ds));
        arrived = g.arrived;
        bare = λ run at. subst (λ z. IsBare z run) (sym t.same_length) (g.bare run at);
        bare_later = λ q a run at has. subst (λ z. IsBare z run) (sym t.same_length) (g.bare_later q a run at has);
      }

      pub block_stays : (n : Name) (ds : List (Deed FrameEnv)) (x : FrameState) → (name k ≡ n → ⊥) → ((z : ℕ) → s.stolen (n ++ z ∷ []) ≡ true → name k ≡ n ++ z ∷ [] → ⊥) → HasBlock code p inputs name b s n ds x → HasBlock code p inputs name b' s' n ds x
      block_stays n ds x ne off (inl g) = inl (g.0, flags_same n ds ∙ g.1, g.2)
      block_stays n ds x ne off (inr g) = let l = g.0 in inr (g.0, g.1, ⊎_elim (λ y. inl y) (λ y. inr (keeps_stays n ds (shown l.value) ne off y.0, y.1)) g.2)

      -- ---- where frames are

      pub goes_on : (n : Name) (ds : List (Deed FrameEnv)) → GoesOn FrameEnv View s n ds → GoesOn FrameEnv View s' n ds
      goes_on n ds g = carries.goes_on s s' ends_more n (λ q is. stolen_at (n ++ q ∷ []) ∙ is) ds g

      pub over_on : (n : Name) → (name k ≡ n → ⊥) → BlockIsOver s n → BlockIsOver s' n
      over_on n ne g = subst (λ f. BlockHasEnded FrameEnv View s' n (deeds_at f)) (sym (frame_else n ne)) (carries.block_on s s' ends_more n (deeds_at (s.frames n)) g)

      over_back : (n : Name) → (name k ≡ n → ⊥) → ((z : ℕ) → name k ≡ n ++ z ∷ [] → ⊥) → BlockIsOver s' n → BlockIsOver s n
      over_back n ne off g =
          let old = subst (λ f. BlockHasEnded FrameEnv View s' n (deeds_at f)) (frame_else n ne) g in
          λ before after x q none.
          let z = child_after n before in
          end_of s z (s.frames z) refl (sym (ends_else z (off (suc (started before)))) ∙ has_end s' z (old before after x q none))

      -- its worker has this frame alone
      pub own_worker : (at j : ℕ) (u : Worker) → slice_get old_workers at ≡ Some u → u.frame ≡ Some j → w ≡ at → k ≡ j
      own_worker at j u is has e =
          let same : h.worker ≡ u = (let q : Some h.worker ≡ Some u = sym h.at ∙ ap (λ i. slice_get old_workers i) e ∙ is in cc) in
          let z : Some k ≡ Some j = sym h.has ∙ ap (λ (y : Worker). y.frame) same ∙ has in
          cc

      where_else : (j : ℕ) (ds : List (Deed FrameEnv)) (x : FrameState) (z : Status) → (k ≡ j → ⊥) → (up ≡ j → ⊥) → j < length old_frame_states → IsWhere code p inputs name b s j (name j) ds x z → IsWhere code p inputs name b' s' j (name j) ds x z
      where_else j ds x (Held at) ne ne' there g =
          let r = t.worker_on at g.0 g.1 in
          let o = r.2 in
          (r.0, r.1, o.frame_is (λ e. ne (own_worker at j g.0 g.1 g.2 e)) ∙ g.2, goes_on (name j) ds g.3, g.4, (λ y. let e = g.5 y in (e.0, over_on (name j) (names_differ k j low there ne) e.1)), g.6)
      where_else j ds x Calling ne ne' there g = (g.0, g.1, g.2, ends_else (name j ++ started ds ∷ []) (child_off j there ne' (started ds)) ∙ g.3, g.4, g.5, g.6)
      where_else j ds x (Offered at) ne ne' there g =
          let r = t.worker_on at g.6 g.7 in
          let o = r.2 in
          let y = o.offers_on g.8 j ne' g.9 in
          (g.0, g.1, g.2, ends_else (name j ++ started ds ∷ []) (child_off j there ne' (started ds)) ∙ g.3, stolen_at (name j ++ started ds ∷ []) ∙ g.4, g.5, r.0, r.1, y.0, y.1, g.10, g.11)
      where_else j ds x Waiting ne ne' there g =
          (g.0, g.1, g.2, g.3, (λ y. g.4 (over_back (name j) (names_differ k j low there ne) (child_off j there ne') y)), goes_on (name j) ds g.5, g.6, g.7)
      where_else j ds x Finished ne ne' there g = g

      -- ---- frame states

      abbrev entries : List JournalEntry
      entries = let l = b.journal in l.items

      off_key : (j : ℕ) → (k ≡ j → ⊥) → nat_eq k j ≡ false
      off_key j ne = ⊎_elim (λ q. absurd (ne (eqb-true k j q))) (λ f. f) (cases_Bool (nat_eq k j))

      written_else : (j : ℕ) → (k ≡ j → ⊥) → (let l = b'.journal in events_of j l.items) ≡ events_of j entries
      written_else j ne = ap (λ l. events_of j l) c.journal ∙ events_more j entries (record { frame = k; event = events.End }) ∙ ap (λ t. cond t (events_of j entries ++ events.End ∷ []) (events_of j entries)) (off_key j ne)

      written_here : (let l = b'.journal in events_of k l.items) ≡ events_of k entries ++ events.End ∷ []
      written_here = ap (λ l. events_of k l) c.journal ∙ events_more k entries (record { frame = k; event = events.End }) ∙ ap (λ t. cond t (events_of k entries ++ events.End ∷ []) (events_of k entries)) (eq-eqb k k refl)

      -- a frame that stays but for where it is and what lies at its block
      pub stays_with : (j : ℕ) (a : Activation FrameState) (y : FrameState) → (k ≡ j → ⊥) → slice_get old_frame_states j ≡ Some a → (let x = a.cursor in y ≡ record x { status = y.status; join = y.join; merged = y.merged })
          → (o : Sits code p inputs name b s j a) → (let f = o.frame in IsWhere code p inputs name b' s' j (name j) f.deeds y y.status) → (let f = o.frame in has_ended f.deeds ≡ false → HasBlock code p inputs name b' s' (name j) f.deeds y)
          → Sits code p inputs name b' s' j (record a { cursor = y })
      stays_with j a y ne at same o place block =
          let x = a.cursor in
          let f = o.frame in
          let apart = names_differ k j low (get_low old_frame_states j a at) ne in
          let Y : FrameState → FrameState = (λ z. record z { status = y.status; join = y.join; merged = y.merged }) in record {
            frame = o.frame;
            here = frame_else (name j) apart ∙ o.here;
            named = o.named;
            number = o.number;
            seen = carries.seen_on code p inputs name b b' s s' t.on more a y f.what o.seen;
            creates = o.creates;
            creates_none = o.creates_none;
            stolen = stolen_at (name j) ∙ o.stolen ∙ ap (λ (z : FrameState). z.stolen) (sym same);
            children = o.children ∙ ap (λ (z : FrameState). z.children) (sym same);
            last = λ some.
                let e = ap (λ (z : FrameState). z.children) same in
                let g = ap (λ (z : FrameState). z.last) same in
                let r = o.last (subst (λ n. 0 < n) e some) in
                (subst (λ z. y.last < z) (sym t.same_length) (subst (λ n. n < length old_frame_states) (sym g) r.0), ap name g ∙ r.1 ∙ ap (λ n. name j ++ n ∷ []) (sym e));
            strands_are = o.strands_are ∙ ap (λ (z : FrameState). z.strands) (sym same);
            counted = ap (λ (z : FrameState). z.counted) same ∙ o.counted;
            due = λ going.
                let it = o.due going in
                (it.0, ap (λ (z : FrameState). z.cursor) same ∙ it.1, subst (λ (z : FrameState). IsDue code p inputs f.what f.deeds z.due it.0 z.took) (sym same) it.2);
            is_where = place;
            block = block;
            written = subst (λ es. AreDeeds p new_frame_states name s' j f.deeds es) (sym (written_else j ne)) (carries.deeds_on old_frame_states new_frame_states t.on name p s s' more j f.deeds (events_of j entries) o.written);
          }

      other : (j : ℕ) (a : Activation FrameState) → (k ≡ j → ⊥) → (up ≡ j → ⊥) → slice_get old_frame_states j ≡ Some a → Sits code p inputs name b s j a → Sits code p inputs name b' s' j a
      other j a ne ne' at o =
          let x = a.cursor in
          let f = o.frame in
          let there = get_low old_frame_states j a at in
          stays_with j a x ne at refl o (where_else j f.deeds x x.status ne ne' there o.is_where) (λ going. block_stays (name j) f.deeds x (names_differ k j low there ne) (λ z is. child_off j there ne' z) (o.block going))

      kept : h.came ≡ (let y = h.came in record frame_state { cursor = y.cursor; took = y.took })
      kept = stepped.kept code p inputs name b d s w k (asks.End v) lays sh h no_sync

      itself : Sits code p inputs name b' s' k now
      itself =
          let o = sitting in
          let x = frame_state in
          let longer = past ++ Does (Ends v gone) ∷ [] in
          let n = stepped.named_as code p inputs name b d s w k (asks.End v) lays sh h no_sync in record {
            frame = record frame { deeds = longer };
            here = frame_here;
            named = o.named;
            number = o.number;
            seen = carries.seen_on code p inputs name b b' s s' t.on more h.frame_state ended what o.seen;
            creates = o.creates;
            creates_none = o.creates_none;
            stolen = stolen_at (name k) ∙ o.stolen ∙ ap (λ (z : FrameState). z.stolen) (sym kept);
            children = started_does past (Ends v gone) ∙ o.children ∙ ap (λ (z : FrameState). z.children) (sym kept);
            last = λ some.
                let e = ap (λ (z : FrameState). z.children) kept in
                let g = ap (λ (z : FrameState). z.last) kept in
                let r = o.last (subst (λ n. 0 < n) e some) in
                (subst (λ z. (let y = h.came in y.last) < z) (sym t.same_length) (subst (λ n. n < length old_frame_states) (sym g) r.0), ap name g ∙ r.1 ∙ ap (λ n. name k ++ n ∷ []) (sym e));
            strands_are = strands_stay (Ends v gone) refl past ∙ o.strands_are ∙ ap (λ (z : FrameState). z.strands) (sym kept);
            counted = n.1 ∙ ap (taken p inputs what) (sym (but_last_more past (Does (Ends v gone))));
            due = λ going. absurd (true≢false (sym (ended_more past (Does (Ends v gone)) goes) ∙ going));
            is_where = end_last past v gone;
            block = λ going. absurd (true≢false (sym (ended_more past (Does (Ends v gone)) goes) ∙ going));
            written = subst (λ es. AreDeeds p new_frame_states name s' k longer es) (sym written_here)
                (deeds_more p new_frame_states name s' k past (events_of k entries) (Does (Ends v gone)) events.End (carries.deeds_on old_frame_states new_frame_states t.on name p s s' more k past (events_of k entries) o.written) refl);
          }

      -- ---- workers

      -- a worker that had a frame has it with the views that it had
      pub holds_at : (at j : ℕ) (u u' : Worker) (z : Activation FrameState) → (k ≡ j → ⊥) → u'.views ≡ u.views → (g : Holds code p inputs name b s at u j) → slice_get new_frame_states j ≡ Some z → (let y = z.cursor in y.status ≡ Held at)
          → (let y = z.cursor in let a = g.frame_state in let x = a.cursor in y.merged ≡ x.merged) → Holds code p inputs name b' s' at u' j
      holds_at at j u u' z ne views g is held merged =
          let x = (let a = g.frame_state in a.cursor) in
          let y = z.cursor in
          let apart = names_differ k j low (get_low old_frame_states j g.frame_state g.here) ne in
          let frame_same = frame_else (name j) apart in record {
            frame_state = z;
            here = is;
            held = held;
            views = λ i q it.
                let same : carried (monoid_of i) (λ m. s'.piece m i) s'.stolen (name j) (deeds_at (s'.frames (name j))) y.merged ≡ carried (monoid_of i) (λ m. s.piece m i) s.stolen (name j) (deeds_at (s.frames (name j))) x.merged =
                ap₂ (λ f m. carried (monoid_of i) (λ m. s'.piece m i) s'.stolen (name j) (deeds_at f) m) frame_same merged
                ∙ carried_ext (monoid_of i) (λ m. s.piece m i) (λ m. s'.piece m i) s.stolen s'.stolen (name j) (deeds_at (s.frames (name j))) x.merged (piece_off i (name j) apart) (λ q. stolen_at (name j ++ q ∷ []))
                (λ q used. kid_same i (name j ++ q ∷ []) (g.used q used)) in
                subst (λ z. IsViewOf (kind_of i) (carried (monoid_of i) (λ m. s'.piece m i) s'.stolen (name j) (deeds_at (s'.frames (name j))) y.merged) (value_in z (kind_of i) q)) (sym views)
                (subst (λ z. IsViewOf (kind_of i) z (value_in u.views (kind_of i) q)) (sym same) (g.views i q (instance_back i q it)));
            used = λ q used.
                ends_more (name j ++ q ∷ [])
                (g.used q (subst (λ l. IsUsed l (name j) (deeds_at (s.frames (name j))) x.merged q) m.stolen (subst (λ f. IsUsed s'.stolen (name j) (deeds_at f) x.merged q) frame_same (subst (λ e. IsUsed s'.stolen (name j) (deeds_at (s'.frames (name j))) e q) merged used))));
            bare = subst (λ n. IsBare n (value_in u'.views)) (sym t.same_length) (subst (λ z. IsBare (length old_frame_states) (value_in z)) (sym views) g.bare);
          }

      -- ---- the worker table, where workers offer what they offered

      -- a frame that is offered isn't the one that ends
      pub offered_off : (at q j : ℕ) (u : Worker) → slice_get old_workers at ≡ Some u → (let o = u.offered in slice_get o.items q ≡ Some j) → k ≡ j → ⊥
      offered_off at q j u is has e =
          let y = sh in
          let o = y.worker_table in
          let g = o.places at q j u is has in
          let same : g.0 ≡ h.frame_state = (let z : Some g.0 ≡ Some h.frame_state = sym g.1 ∙ ap (λ i. slice_get old_frame_states i) (sym e) ∙ h.sits in cc) in
          let z : Held w ≡ Offered at = sym status_was ∙ ap (λ (a : Activation FrameState). let x = a.cursor in x.status) (sym same) ∙ g.2 in
          cc

      -- the frames that wait, where this is their list
      pub waits_as : (ws : List Name) → ((j : ℕ) → j < length old_frame_states → (up ≡ j → ⊥) → (IsIn (name j) ws → IsIn (name j) d.waiting) × (IsIn (name j) d.waiting → IsIn (name j) ws))
          → ((a : Activation FrameState) → (k ≡ up → ⊥) → slice_get new_frame_states up ≡ Some a → ((let x = a.cursor in x.status ≡ Waiting) → IsIn (name up) ws) × (IsIn (name up) ws → let x = a.cursor in x.status ≡ Waiting))
          → (IsIn (name k) ws → IsIn (name k) d.waiting)
          → (j : ℕ) (a : Activation FrameState) → slice_get new_frame_states j ≡ Some a → ((let x = a.cursor in x.status ≡ Waiting) → IsIn (name j) ws) × (IsIn (name j) ws → let x = a.cursor in x.status ≡ Waiting)
      waits_as ws others parent own j a at = by (nat_eq k j) refl (nat_eq up j) refl
        where
          by : (x : Bool) → nat_eq k j ≡ x → (y : Bool) → nat_eq up j ≡ y → ((let x = a.cursor in x.status ≡ Waiting) → IsIn (name j) ws) × (IsIn (name j) ws → let x = a.cursor in x.status ≡ Waiting)
          by true q y z =
              let same : k ≡ j = eqb-true k j q in
              let is : now ≡ a = (let z : Some now ≡ Some a = sym t.now_at ∙ ap (λ i. slice_get new_frame_states i) same ∙ at in cc) in
              let e = sh in
              let o = e.worker_table in
              let g = o.waiting k h.frame_state h.sits in (
                (λ f. let z : Finished ≡ Waiting = ap (λ (y : Activation FrameState). let x = y.cursor in x.status) is ∙ f in let n : ⊥ = cc in absurd n),
                (λ f. let z : Held w ≡ Waiting = sym status_was ∙ g.1 (own (subst (λ i. IsIn (name i) ws) (sym same) f)) in let n : ⊥ = cc in absurd n),
              )
          by false q true z =
              let same : up ≡ j = eqb-true up j z in
              let ne : k ≡ up → ⊥ = (λ e. true≢false (sym (eq-eqb k j (e ∙ same)) ∙ q)) in
              let g = parent a ne (ap (λ i. slice_get new_frame_states i) same ∙ at) in
              ((λ f. subst (λ i. IsIn (name i) ws) same (g.0 f)), (λ f. g.1 (subst (λ i. IsIn (name i) ws) (sym same) f)))
          by false q false z =
              let ne : k ≡ j → ⊥ = (λ e. true≢false (sym (eq-eqb k j e) ∙ q)) in
              let ne' : up ≡ j → ⊥ = (λ e. true≢false (sym (eq-eqb up j e) ∙ z)) in
              let old = sym (t.else_at j ne ne') ∙ at in
              let e = sh in
              let o = e.worker_table in
              let g = o.waiting j a old in
              let y = others j (get_low old_frame_states j a old) ne' in
              ((λ f. y.1 (g.0 f)), (λ f. g.1 (y.0 f)))

      module _ (f : Worker → Worker) (hand : Option Name) (offers : (u : Worker) → (let x = f u in x.offered) ≡ u.offered) (hands : (u : Worker) → hand_of name (f u) ≡ hand) (workers_are : new_workers ≡ altered f old_workers w) (offered_are : b'.offered ≡ b.offered) where
        pub worker_table_kept : (ws : List Name) → ((n : Name) → IsIn n ws → IsIn n d.waiting)
            → ((at : ℕ) (x : Activation FrameState) → slice_get old_frame_states up ≡ Some x → (let y = x.cursor in y.status ≡ Offered at) → (z : Activation FrameState) × (slice_get new_frame_states up ≡ Some z) × (let y = z.cursor in y.status ≡ Offered at))
            → ((j : ℕ) (a : Activation FrameState) → slice_get new_frame_states j ≡ Some a → ((let x = a.cursor in x.status ≡ Waiting) → IsIn (name j) ws) × (IsIn (name j) ws → let x = a.cursor in x.status ≡ Waiting))
            → IsWorkerTable code p inputs name b' (record d { hands = set d.hands w hand; waiting = ws })
        worker_table_kept ws fewer parent waiting =
            let y = sh in
            let o = y.worker_table in record {
              hands = ap (λ hs. set hs w hand) o.hands ∙ sym (altering.altered_set f (hand_of name) hand old_workers w hands) ∙ ap (λ ws. map (hand_of name) ws) (sym workers_are);
              offered = o.offered ∙ sym (altering.altered_map f (offers_of name) old_workers w (λ u. ap (λ l. map name l.items) (offers u))) ∙ ap (λ ws. map (offers_of name) ws) (sym workers_are);
              total = offered_are ∙ o.total
                  ∙ ap (λ ns. sum ns) (sym (ap (λ ws. map (λ (u : Worker). let f = u.offered in length f.items) ws) workers_are ∙ altering.altered_map f (λ (u : Worker). let f = u.offered in length f.items) old_workers w (λ u. ap (λ l. length l.items) (offers u))));
              places = λ at q j u is has.
                  let r = was at u is in
                  let g = o.places at q j r.0 r.1 (subst (λ l. slice_get l.items q ≡ Some j) r.2 has) in
                  place at j g.0 (offered_off at q j r.0 r.1 (subst (λ l. slice_get l.items q ≡ Some j) r.2 has)) g.1 g.2 (nat_eq up j) refl;
              once = λ at q i j u is has also.
                  let r = was at u is in
                  o.once at q i j r.0 r.1 (subst (λ l. slice_get l.items q ≡ Some j) r.2 has) (subst (λ l. slice_get l.items i ≡ Some j) r.2 also);
              waiting = waiting;
              present = λ n is none. o.present n (fewer n is) (absent_back n none);
            }
          where
            was : (at : ℕ) (u : Worker) → slice_get new_workers at ≡ Some u → (x : Worker) × (slice_get old_workers at ≡ Some x) × (u.offered ≡ x.offered)
            was at u is =
                let r = altering.altered_from f old_workers w at u (subst (λ ws. slice_get ws at ≡ Some u) workers_are is) in
                (r.0, r.1, ⊎_elim (λ g. ap (λ (y : Worker). y.offered) g.1 ∙ offers r.0) (λ g. ap (λ (y : Worker). y.offered) g.1) r.2)

            place : (at j : ℕ) (x : Activation FrameState) → (k ≡ j → ⊥) → slice_get old_frame_states j ≡ Some x → (let y = x.cursor in y.status ≡ Offered at) → (e : Bool) → nat_eq up j ≡ e → (z : Activation FrameState) × (slice_get new_frame_states j ≡ Some z) × (let y = z.cursor in y.status ≡ Offered at)
            place at j x ne is status true e =
                let same : up ≡ j = eqb-true up j e in
                let r = parent at x (ap (λ i. slice_get old_frame_states i) same ∙ is) status in
                (r.0, ap (λ i. slice_get new_frame_states i) (sym same) ∙ r.1, r.2)
            place at j x ne is status false e = (x, t.else_at j ne (λ z. true≢false (sym (eq-eqb up j z) ∙ e)) ∙ is, status)

      -- ---- the whole

      -- the parent's state, who has it, and the worker table
      pub record Settled (d' : WorkerTable) : Type 0 where
        pub parent : (a : Activation FrameState) → (k ≡ up → ⊥) → slice_get new_frame_states up ≡ Some a → Sits code p inputs name b' s' up a
        pub mine : (j : ℕ) (u : Worker) → slice_get new_workers w ≡ Some u → u.frame ≡ Some j → Holds code p inputs name b' s' w u j
        pub held : (at : ℕ) (u : Worker) → (w ≡ at → ⊥) → (k ≡ up → ⊥) → (g : Holds code p inputs name b s at u up)
            → (z : Activation FrameState) × (slice_get new_frame_states up ≡ Some z) × (let y = z.cursor in y.status ≡ Held at) × (let y = z.cursor in let a = g.frame_state in let x = a.cursor in y.merged ≡ x.merged)
        pub worker_table : IsWorkerTable code p inputs name b' d'
        pub going : b'.outcome ≡ None → ¬ (HasEnd (deeds_at (s'.frames [])))
        pub over : (o : Outcome) → b'.outcome ≡ Some o → HasEnd (deeds_at (s'.frames [])) × (o ≡ outcome_in p s')

      module _ (d' : WorkerTable) (r : Settled d') where
        frame_states_sit : (j : ℕ) (a : Activation FrameState) → slice_get new_frame_states j ≡ Some a → Sits code p inputs name b' s' j a
        frame_states_sit j a at = by (nat_eq k j) refl (nat_eq up j) refl
          where
            by : (x : Bool) → nat_eq k j ≡ x → (y : Bool) → nat_eq up j ≡ y → Sits code p inputs name b' s' j a
            by true q y z =
                let same : k ≡ j = eqb-true k j q in
                let is : now ≡ a = (let z : Some now ≡ Some a = sym t.now_at ∙ ap (λ i. slice_get new_frame_states i) same ∙ at in cc) in
                subst (λ i. Sits code p inputs name b' s' i a) same (subst (λ z. Sits code p inputs name b' s' k z) is itself)
            by false q true z =
                let same : up ≡ j = eqb-true up j z in
                let ne : k ≡ up → ⊥ = (λ e. true≢false (sym (eq-eqb k j (e ∙ same)) ∙ q)) in
                subst (λ i. Sits code p inputs name b' s' i a) same (r.parent a ne (ap (λ i. slice_get new_frame_states i) same ∙ at))
            by false q false z =
                let ne : k ≡ j → ⊥ = (λ e. true≢false (sym (eq-eqb k j e) ∙ q)) in
                let ne' : up ≡ j → ⊥ = (λ e. true≢false (sym (eq-eqb up j e) ∙ z)) in
                let old = sym (t.else_at j ne ne') ∙ at in
                let y = sh in
                other j a ne ne' old (y.sits j a old)

        still_holds : (at j : ℕ) (u : Worker) → slice_get new_workers at ≡ Some u → u.frame ≡ Some j → Holds code p inputs name b' s' at u j
        still_holds at j u is has = by (nat_eq w at) refl (nat_eq up j) refl
          where
            mine : w ≡ at → Holds code p inputs name b' s' at u j
            mine same = subst (λ i. Holds code p inputs name b' s' i u j) same (r.mine j u (ap (λ i. slice_get new_workers i) same ∙ is) has)

            by : (x : Bool) → nat_eq w at ≡ x → (y : Bool) → nat_eq up j ≡ y → Holds code p inputs name b' s' at u j
            by true q y z = mine (eqb-true w at q)
            by false q y z =
                let ne : w ≡ at → ⊥ = (λ e. true≢false (sym (eq-eqb w at e) ∙ q)) in
                let old = t.worker_was at u is in
                let o = old.2 in
                let e = sh in
                let was : (let x = old.0 in x.frame) ≡ Some j = sym (o.frame_is ne) ∙ has in
                let g = e.holds at j old.0 old.1 was in
                let off : k ≡ j → ⊥ = (λ e. let y : Some h.frame_state ≡ Some g.frame_state = sym h.sits ∙ ap (λ i. slice_get old_frame_states i) e ∙ g.here in let x : h.frame_state ≡ g.frame_state = cc in
                let z : Held w ≡ Held at = sym status_was ∙ ap (λ (a : Activation FrameState). let c = a.cursor in c.status) x ∙ g.held in ne (cc)) in
                there y z old.0 g off ne (o.views_are ne)
              where
                there : (y : Bool) → nat_eq up j ≡ y → (u0 : Worker) (g : Holds code p inputs name b s at u0 j) → (k ≡ j → ⊥) → (w ≡ at → ⊥) → u.views ≡ u0.views → Holds code p inputs name b' s' at u j
                there true e u0 g off ne views =
                    let same : up ≡ j = eqb-true up j e in
                    let z = r.held at u0 ne (λ x. off (x ∙ same)) (subst (λ i. Holds code p inputs name b s at u0 i) (sym same) g) in
                    subst (λ i. Holds code p inputs name b' s' at u i) same (holds_at at up u0 u z.0 (λ x. off (x ∙ same)) views (subst (λ i. Holds code p inputs name b s at u0 i) (sym same) g) z.1 z.2 z.3)
                there false e u0 g off ne views =
                    let ne' : up ≡ j → ⊥ = (λ x. true≢false (sym (eq-eqb up j x) ∙ e)) in
                    holds_at at j u0 u g.frame_state off views g (t.else_at j off ne' ∙ g.here) g.held refl

        base_was : (j : ℕ) (a : Activation FrameState) → slice_get new_frame_states j ≡ Some a → (z : Activation FrameState) × (slice_get old_frame_states j ≡ Some z) × (a.base ≡ z.base)
        base_was j a at = let r = carries.carried_back old_frame_states new_frame_states t.on t.same_length j a at in (r.0, r.1, ap (λ (z : Activation FrameState). z.base) r.2)

        joins_are : (n : Name) (q : ℕ) → times (n ++ q ∷ []) s'.joins ≡ joined_at 1 q (deeds_at (s'.frames n))
        joins_are n q =
            let y = sh in
            let o = y.tells in
            ap (λ l. times (n ++ q ∷ []) l) (m.joins ∙ ap₂ (λ a (f : Frame FrameEnv). joined_by a (name k) f.deeds ++ s.joins) ask_is frame_is) ∙ o.joins n q ∙ by (same_name (name k) n) refl
          where
            by : (x : Bool) → same_name (name k) n ≡ x → joined_at 1 q (deeds_at (s.frames n)) ≡ joined_at 1 q (deeds_at (s'.frames n))
            by true e =
                let same : name k ≡ n = same_name-eq (name k) n e in
                subst (λ z. joined_at 1 q (deeds_at (s.frames z)) ≡ joined_at 1 q (deeds_at (s'.frames z))) same
                (ap (λ f. joined_at 1 q (deeds_at f)) here ∙ sym (ap (λ f. joined_at 1 q (deeds_at f)) frame_here ∙ joined_end 1 q past v gone))
            by false e = ap (λ f. joined_at 1 q (deeds_at f)) (sym (frame_else n (λ x. true≢false (sym (same_name-refl (name k)) ∙ ap (λ z. same_name (name k) z) x ∙ e))))

        tells_is : Tells code p inputs name b' s'
        tells_is =
            let y = sh in
            let o = y.tells in record {
              named = t.named;
              here = λ j a at. let z = frame_states_sit j a at in (z.frame, z.here, z.written);
              absent = λ n none. frame_else n (λ q. absent_back n none k low q) ∙ o.absent n (absent_back n none);
              joins = joins_are;
              going = r.going;
              over = r.over;
              first = λ a at. let r = base_was 0 a at in subst (λ z. length p.openings ≤ z) (sym r.2) (o.first r.0 r.1);
              ascend = λ i j a z at at' less.
                  let f = base_was i a at in
                  let g = base_was j z at' in
                  let old = o.ascend i j f.0 g.0 f.1 g.1 less in
                  let e = sizes (name i) in
                  let u = f.2 in
                  let x = g.2 in
                  omega (arith, old, e, u, x);
            }

        spent_as : s'.totals TickTotal ≡ b'.ticks
        spent_as = total_at TickTotal ∙ sym (stepped.spent_is code p inputs name b d s w k (asks.End v) lays sh h no_sync) ∙ sym c.ticks

        pub shown_after : ShowsBy code p inputs name b' d' s'
        shown_after =
            let y = sh in record {
              tells = tells_is;
              running = m.stopped ∙ y.running;
              sits = frame_states_sit;
              unstolen = λ n none. stolen_at n ∙ y.unstolen n (absent_back n none);
              unwritten = λ n q none. memory_at (Own n q) ∙ y.unwritten n q (absent_back n none);
              bare = λ n z q kind none there. bare_by n z q kind (absent_back n none) (λ g. there (absent_on z g)) (same_name (name k) z) refl;
              memory = λ x n is. ap (λ l. slice_get l n) c.cells ∙ y.memory x n (cell_back x n is) ∙ ap (λ u. Some u) (sym (memory_at x));
              within = λ j a at.
                  let f = base_was j a at in
                  let old = y.within j f.0 f.1 in
                  let e = sizes (name j) in
                  let u = f.2 in
                  let x = ap (λ (l : List ℤ). length l) c.cells in
                  omega (arith, old, e, u, x);
              holds = still_holds;
              worker_table = r.worker_table;
              ticks = spent_as;
              events = total_at EventTotal ∙ ap (λ n. n + 1) y.events ∙ sym (ap (λ (l : List JournalEntry). length l) c.journal ∙ length_more entries (record { frame = k; event = events.End }));
              frames = total_at FrameTotal ∙ omega arith ∙ y.frames ∙ sym t.same_length;
              cells = total_at CellTotal ∙ omega arith ∙ y.cells ∙ sym (ap (λ (l : List ℤ). length l) c.cells);
              few_frames = let e = total_at FrameTotal in let f = y.few_frames in omega (arith, e, f);
              few_cells = let e = total_at CellTotal in let f = y.few_cells in omega (arith, e, f);
              eventless = λ j far. let e = t.same_length in let l = low in written_else j (λ q. omega (arith, l, e, far, q)) ∙ y.eventless j (omega (arith, e, far));
            }
          where
            bare_by : (n z : Name) (q : ℕ) (kind : MonoidKind) → IsAbsent old_frame_states name n → (IsAbsent old_frame_states name z → ⊥) → (x : Bool) → same_name (name k) z ≡ x → s'.piece z (Reducer n q kind) ≡ unit_of monoid_of (Reducer n q kind)
            bare_by n z q kind none there true is = subst (λ y. s'.piece y (Reducer n q kind) ≡ unit_of monoid_of (Reducer n q kind)) (same_name-eq (name k) z is) (piece_bare n q kind none)
            bare_by n z q kind none there false is = let y = sh in piece_off (Reducer n q kind) z (λ e. true≢false (sym (same_name-refl (name k)) ∙ ap (λ x. same_name (name k) x) e ∙ is)) ∙ y.bare n z q kind none there
