-- An event that starts and ends no frame, or a sync, leads from a state shown to the next state
-- shown.
--
-- - `joined_child`: how often a child is joined, by its parent's deeds;
-- - `other`: each other frame's state stays;
-- - `itself`: the frame's own state;
-- - `still_holds`, `worker_table_is`, `tells_is`: workers, the worker table, what is shown;
-- - `touched_is`: the law.
use Rattle.std.proofs.Common.{◌≡◌, inl, inr, ⊎_elim, ◌+◌, ◌<◌, ◌≤◌, ℕ, nat_eq, eq-eqb, eqb-true, Bool, true, false, true≢false, cond, ℤ, List, [], ◌∷◌, ◌++◌, length, map, slice_get, sum, Some, None, refl, sym, ap, ◌∙◌, subst, arith}
use Rattle.std.proofs.lemmas.Bool.{cases_Bool}
use Rattle.cilk_types.specs.declared.event.Event as numbered_event
use Rattle.cilk_types.specs.declared.event.Instance as numbered
use Rattle.cilk_types.specs.declared.limits.TheConstants.{MAX_CELLS, MAX_FRAMES}
use Rattle.cilk_monoid.specs.declared.kind.MonoidKind.{MonoidKind}
use Rattle.cilk_program.proofs.Visible.{frame_more}
use Rattle.cilk_program.specs.SerialRun.{own_reducers}
use Rattle.cilk_program.specs.Syntax.{Source}
use Rattle.cilk_lower.specs.Code.{CodeView}
use Rattle.cilk_lower.specs.Layout.{function_frame}
use Rattle.cilk_frames.specs.Sight.{HasScope}
use Rattle.cilk_frames.specs.declared.activation.Activation.{Activation}
use Rattle.cilk_hypermap.specs.Hypermap.{value_in}
use Rattle.cilk_join.specs.Joins.{JoinView}
use Rattle.cilk_join.specs.Waits.{shown}
use Rattle.cilk_determinacy.specs.Cuts.{below, times, joined_at, joined}
use Rattle.cilk_determinacy.specs.Machine.{Frame, Frames, State, HasEnd, after_deed, deeds_at, joined_by, started}
use Rattle.cilk_determinacy.specs.Monoids.{unit_of}
use Rattle.cilk_determinacy.specs.Progress.{AfterEvent, BlockHasEnded}
use Rattle.cilk_determinacy.specs.Runs.{Name, same_name, Cell, Global, Own, Instance, Output, Reducer, Event, Syncs, Sync, Deed, Does}
use Rattle.cilk_determinacy.proofs.Basics.{same_name-refl, same_name-eq}
use Rattle.cilk_determinacy.proofs.Joins.{joined_step, times-append}
use Rattle.cilk_determinacy.proofs.Started.{started_does}
use Rattle.cilk_determinacy.specs.FrameEnvMachine.{has_ended, is_end, taken}
use Rattle.cilk_determinacy.specs.Reducers.{View, kind_of, monoid_of}
use Rattle.cilk_determinacy.specs.FrameEnvViews.{IsViewOf}
use Rattle.cilk_determinacy.specs.FrameEnvs.{FrameEnv}
use Rattle.cilk_determinacy.proofs.Histories.{but_last_more, ended_more}
use Rattle.cilk_scheduler.specs.declared.scheduler.Scheduler.{Scheduler}
use Rattle.cilk_scheduler.specs.declared.frame_state.Due.TheVariants as due
use Rattle.cilk_scheduler.specs.declared.frame_state.JournalEntry.{JournalEntry}
use Rattle.cilk_scheduler.specs.declared.frame_state.FrameState.{FrameState}
use Rattle.cilk_scheduler.specs.declared.frame_state.Status.{Status}
use Rattle.cilk_scheduler.specs.declared.frame_state.Status.TheVariants.{Held, Calling, Offered, Waiting, Finished}
use Rattle.cilk_scheduler.specs.declared.frame_state.Worker.{Worker}
use Rattle.cilk_scheduler.specs.Schedulers.{carried, IsUsed, greatest, IsBare, hand_of, offers_of, Seen, Keeps, HasBlock, IsWhere, Sits, Holds, IsWorkerTable, Tells, ShowsBy, stolen_at_block, run_at, waits_at}
use Rattle.cilk_scheduler.specs.Blocks.{stolen_in, Lays}
use Rattle.cilk_scheduler.specs.WorkerTables.{WorkerTable, BlockIsOver}
use Rattle.cilk_scheduler.specs.Numbered.{AreNamed, IsAbsent, size_of, IsCell, IsInstance, IsDeed, AreDeeds, events_of, CellBoth, ReducerBoth, numbers_in, global_cell, global_both}
use Rattle.cilk_scheduler.specs.Touching.{IsPlain, IsInBlock, joined_with, Touches, TouchesAreShown, touched}
use Rattle.cilk_scheduler.proofs.Carried.{resuming_event, plain, unused, carried_ext}
use Rattle.cilk_scheduler.proofs.Changing.{changed_here, changed_off, changed_length}
use Rattle.cilk_scheduler.proofs.Kept.{changed_from, scope_changed, named_changed, cell_changed, instance_changed, deed_changed, deeds_changed, events_more, deeds_more}
use Rattle.cilk_scheduler.proofs.Onward.{name_off, frame_else, frame_here, size_same, ended_same, goes_on, block_on, block_back}
use Rattle.cilk_scheduler.proofs.Plain.{get_low, length_more, plain_lasts, stolen_plain, joined_plain, end_plain, stolen_sync, end_sync, lays_same}
use Rattle.cilk_scheduler.proofs.Viewing.{viewing_get, viewing_from, viewing_hands, viewing_offers, viewing_counts}

pub joined_child : (t : Frames FrameEnv) (n : Name) (q : ℕ) → joined t (n ++ q ∷ []) ≡ joined_at 1 q (deeds_at (t n))
joined_child t [] q = refl
joined_child t (j ∷ []) q = refl
joined_child t (j ∷ i ∷ n) q = joined_child (below t j) (i ∷ n) q

module _ (code : CodeView) (p : Source) (inputs : List ℤ) (name : ℕ → Name) (b b' : Scheduler) (d : WorkerTable) (s s' : State FrameEnv View) (w k : ℕ) (e : Event) (entry : JournalEntry)
    (sh : ShowsBy code p inputs name b d s) (t : Touches code p inputs name b b' s s' w k e entry) where
  abbrev old_frame_states : List (Activation FrameState)
  old_frame_states = let f = b.frames in f.items

  abbrev new_frame_states : List (Activation FrameState)
  new_frame_states = let f = b'.frames in f.items

  abbrev change : FrameState → FrameState
  change = touched t.same_block t.begun t.took t.cursor t.answer

  abbrev what : FrameEnv
  what = let f = t.frame in f.what

  abbrev past : List (Deed FrameEnv)
  past = let f = t.frame in f.deeds

  abbrev longer_past : List (Deed FrameEnv)
  longer_past = past ++ Does e ∷ []

  named : AreNamed old_frame_states name
  named = let q = sh.tells in q.named

  lasting : is_end (Does e) ≡ false
  lasting = by t.same_block t.is_plain
    where
      by : (c : Bool) → IsInBlock c e → is_end (Does e) ≡ false
      by true h = plain_lasts e h
      by false h = ap (λ x. is_end (Does x)) h

  low : k < length old_frame_states
  low = get_low old_frame_states k t.frame_state t.sits

  same_length : length new_frame_states ≡ length old_frame_states
  same_length = ap (λ (l : List (Activation FrameState)). length l) t.frame_states_are ∙ changed_length change old_frame_states k

  -- ---- frames by name

  else_at : (m : Name) → (name k ≡ m → ⊥) → s'.frames m ≡ s.frames m
  else_at m ne = frame_else s s' (name k) t.frame e t.here t.goes lasting t.frames t.stolen m ne

  here_at : s'.frames (name k) ≡ Some (record t.frame { deeds = longer_past })
  here_at = frame_here s s' (name k) t.frame e t.here t.goes lasting t.frames t.stolen

  sizes : (m : Name) → size_of p (s.frames m) ≡ size_of p (s'.frames m)
  sizes m = size_same s s' (name k) t.frame e t.here t.goes lasting t.frames t.stolen p m

  ends_same : (m : Name) → has_ended (deeds_at (s'.frames m)) ≡ has_ended (deeds_at (s.frames m))
  ends_same m = ended_same s s' (name k) t.frame e t.here t.goes lasting t.frames t.stolen m

  names_differ : (j : ℕ) → j < length old_frame_states → (k ≡ j → ⊥) → name k ≡ name j → ⊥
  names_differ j at ne q = ne (named.apart k j low at q)

  -- a piece of a frame that has ended stays
  kid_same : (m : Name) (i : Instance) → has_ended (deeds_at (s.frames m)) ≡ true → s'.piece m i ≡ s.piece m i
  kid_same m i h =
      t.others i m (name_off (name k) m (λ q. true≢false (sym h ∙ ap (λ z. has_ended (deeds_at (s.frames z))) (sym q) ∙ ap (λ f. has_ended (deeds_at f)) t.here ∙ t.goes)))

  -- ---- numbers

  instance_back : (i : Instance) (j : numbered.Instance) → IsInstance p new_frame_states name i j → IsInstance p old_frame_states name i j
  instance_back Output j h = h
  instance_back (Reducer m q kind) j h = (h.0, subst (λ z. h.0 < z) same_length h.1, h.2, h.3, h.4)

  instance_on : (i : Instance) (j : numbered.Instance) → IsInstance p old_frame_states name i j → IsInstance p new_frame_states name i j
  instance_on i j h = subst (λ l. IsInstance p l name i j) (sym t.frame_states_are) (instance_changed change old_frame_states k name p s s' sizes i j h)

  cell_on : (c : Cell) (n : ℕ) → IsCell p old_frame_states name s c n → IsCell p new_frame_states name s' c n
  cell_on c n h = subst (λ l. IsCell p l name s' c n) (sym t.frame_states_are) (cell_changed change old_frame_states k name p s s' sizes c n h)

  -- a frame was one before
  pub record Was (j : ℕ) (a : Activation FrameState) : Type 0 where
    pub before : Activation FrameState
    pub there : slice_get old_frame_states j ≡ Some before
    pub base : a.base ≡ before.base
    pub status : (let x = a.cursor in x.status) ≡ (let x = before.cursor in x.status)

  was : (j : ℕ) (a : Activation FrameState) → slice_get new_frame_states j ≡ Some a → Was j a
  was j a at =
      let r = changed_from change old_frame_states k j a (subst (λ l. slice_get l j ≡ Some a) t.frame_states_are at) in record {
        before = r.0;
        there = r.1;
        base = ap (λ (z : Activation FrameState). z.base) r.2;
        status = ⊎_elim (λ q. ap (λ (x : FrameState). x.status) q) (λ q. ap (λ (x : FrameState). x.status) q) r.3;
      }

  cell_back : (c : Cell) (n : ℕ) → IsCell p new_frame_states name s' c n → IsCell p old_frame_states name s c n
  cell_back (Global g) n h = h
  cell_back (Own m q) n h = let r = was h.0 h.1 h.2 in (h.0, r.before, r.there, h.3, h.4 ∙ ap (λ z. z + q) r.base, subst (λ z. q < z) (sym (sizes m)) h.5)

  absent_back : (n : Name) → IsAbsent new_frame_states name n → IsAbsent old_frame_states name n
  absent_back n none = λ j at. none j (subst (λ z. j < z) (sym same_length) at)

  absent_on : (n : Name) → IsAbsent old_frame_states name n → IsAbsent new_frame_states name n
  absent_on n none = λ j at. none j (subst (λ z. j < z) same_length at)

  -- where frames are
  off_at : (j : ℕ) (a : Activation FrameState) → (k ≡ j → ⊥) → slice_get old_frame_states j ≡ Some a → slice_get new_frame_states j ≡ Some a
  off_at j a ne at = ap (λ l. slice_get l j) t.frame_states_are ∙ changed_off change old_frame_states k j ne ∙ at

  off_back : (j : ℕ) (a : Activation FrameState) → (k ≡ j → ⊥) → slice_get new_frame_states j ≡ Some a → slice_get old_frame_states j ≡ Some a
  off_back j a ne at = sym (changed_off change old_frame_states k j ne) ∙ sym (ap (λ l. slice_get l j) t.frame_states_are) ∙ at

  abbrev now : Activation FrameState
  now = let a = t.frame_state in record a { cursor = change a.cursor }

  now_at : slice_get new_frame_states k ≡ Some now
  now_at = ap (λ l. slice_get l k) t.frame_states_are ∙ changed_here change old_frame_states k t.frame_state t.sits

  -- ---- what frames see

  seen_on : (a : Activation FrameState) (y : FrameState) (v : FrameEnv) → Seen code p inputs name b s a v → Seen code p inputs name b' s' (record a { cursor = y }) v
  seen_on a y v h = record {
    scope = h.scope;
    target = h.target;
    names = h.names;
    numbers = subst (λ l. HasScope l (record a { cursor = y }) (numbers_in h.scope)) (sym t.frame_states_are) (scope_changed change old_frame_states k a y (numbers_in h.scope) h.numbers);
    goes_to = h.goes_to;
    lies_at = h.lies_at;
    sees = frame_more p global_cell global_both (λ (c : CellBoth). IsCell p old_frame_states name s c.0 c.1) (λ (c : CellBoth). IsCell p new_frame_states name s' c.0 c.1)
        (λ (r : ReducerBoth) (q : MonoidKind). (kind_of (r.0 q) ≡ q) × IsInstance p old_frame_states name (r.0 q) r.1) (λ (r : ReducerBoth) (q : MonoidKind). (kind_of (r.0 q) ≡ q) × IsInstance p new_frame_states name (r.0 q) r.1)
        (λ c g. cell_on c.0 c.1 g) (λ r q g. (g.0, instance_on (r.0 q) r.1 g.1)) v.callee h.scope h.target h.sees;
  }

  -- ---- blocks

  keeps_on : (n : Name) (ds ds' : List (Deed FrameEnv)) (j : JoinView) → stolen_at_block code p inputs name b' s' n ds' ≡ stolen_at_block code p inputs name b s n ds
      → ((i : Instance) → cond j.closed (s'.piece n i) (unit_of monoid_of i) ≡ cond j.closed (s.piece n i) (unit_of monoid_of i)) → Keeps code p inputs name b s n ds j → Keeps code p inputs name b' s' n ds' j
  keeps_on n ds ds' j flags own h = record {
    lays = λ i q is.
        let r = j.row in
        subst (λ ks. Lays (kind_of i) (λ z. s'.piece (n ++ z ∷ []) i) (λ z. has_ended (deeds_at (s'.frames (n ++ z ∷ [])))) (cond j.closed (s'.piece n i) (unit_of monoid_of i)) (unit_of monoid_of i) ks (run_at (kind_of i) q r.run) (waits_at (kind_of i) q r.waits)) (sym flags)
        (lays_same (kind_of i) (λ z. s.piece (n ++ z ∷ []) i) (λ z. s'.piece (n ++ z ∷ []) i) (λ z. has_ended (deeds_at (s.frames (n ++ z ∷ [])))) (λ z. has_ended (deeds_at (s'.frames (n ++ z ∷ []))))
        (cond j.closed (s.piece n i) (unit_of monoid_of i)) (cond j.closed (s'.piece n i) (unit_of monoid_of i)) (λ z. ends_same (n ++ z ∷ [])) (λ z there. kid_same (n ++ z ∷ []) i there) (own i)
        (unit_of monoid_of i) (stolen_at_block code p inputs name b s n ds) (run_at (kind_of i) q r.run) (waits_at (kind_of i) q r.waits) (h.lays i q (instance_back i q is)));
    stolen = h.stolen ∙ ap greatest (sym flags);
    arrived = h.arrived;
    bare = λ run at. subst (λ z. IsBare z run) (sym same_length) (h.bare run at);
    bare_later = λ q a run at has. subst (λ z. IsBare z run) (sym same_length) (h.bare_later q a run at has);
  }

  flags_same : (n : Name) (ds : List (Deed FrameEnv)) → stolen_at_block code p inputs name b' s' n ds ≡ stolen_at_block code p inputs name b s n ds
  flags_same n ds = ap (λ (l : Name → Bool). stolen_in (λ q. l (n ++ q ∷ [])) 1 [] ds) t.stolen

  block_else : (n : Name) (ds : List (Deed FrameEnv)) (x : FrameState) → (name k ≡ n → ⊥) → HasBlock code p inputs name b s n ds x → HasBlock code p inputs name b' s' n ds x
  block_else n ds x ne (inl h) = inl (h.0, flags_same n ds ∙ h.1, h.2)
  block_else n ds x ne (inr h) =
      let l = h.0 in
      let j = shown l.value in
      inr (h.0, h.1, ⊎_elim (λ m. inl m) (λ g. inr (keeps_on n ds ds j (flags_same n ds) (λ i. ap (λ v. cond j.closed v (unit_of monoid_of i)) (t.others i n (name_off (name k) n ne))) g.0, g.1)) h.2)

  -- ---- where frames are

  over_on : (n : Name) → (name k ≡ n → ⊥) → BlockIsOver s n → BlockIsOver s' n
  over_on n ne h = subst (λ f. BlockHasEnded FrameEnv View s' n (deeds_at f)) (sym (else_at n ne)) (block_on s s' (name k) t.frame e t.here t.goes lasting t.frames t.stolen n (deeds_at (s.frames n)) h)

  over_back : (n : Name) → (name k ≡ n → ⊥) → BlockIsOver s' n → BlockIsOver s n
  over_back n ne h = block_back s s' (name k) t.frame e t.here t.goes lasting t.frames t.stolen n (deeds_at (s.frames n)) (subst (λ f. BlockHasEnded FrameEnv View s' n (deeds_at f)) (else_at n ne) h)

  worker_on : (v : ℕ) (u : Worker) → (let l = b.workers in slice_get l.items v ≡ Some u) → (u' : Worker) × (let l = b'.workers in slice_get l.items v ≡ Some u') × (u'.frame ≡ u.frame) × (u'.offered ≡ u.offered)
  worker_on v u at =
      let l = b.workers in
      let r = viewing_get t.views l.items w v u at in
      (r.0, subst (λ ws. slice_get ws v ≡ Some r.0) (sym t.workers_are) r.1, r.2, r.3)

  where_else : (j : ℕ) (n : Name) (ds : List (Deed FrameEnv)) (x : FrameState) (z : Status) → (name k ≡ n → ⊥) → IsWhere code p inputs name b s j n ds x z → IsWhere code p inputs name b' s' j n ds x z
  where_else j n ds x (Held v) ne h =
      let r = worker_on v h.0 h.1 in
      (r.0, r.1, r.2 ∙ h.2, goes_on s s' (name k) t.frame e t.here t.goes lasting t.frames t.stolen n ds h.3, h.4, (λ m. let g = h.5 m in (g.0, over_on n ne g.1)), h.6)
  where_else j n ds x Calling ne h = (h.0, h.1, h.2, ends_same (n ++ started ds ∷ []) ∙ h.3, h.4, h.5, h.6)
  where_else j n ds x (Offered v) ne h =
      let r = worker_on v h.6 h.7 in
      (h.0, h.1, h.2, ends_same (n ++ started ds ∷ []) ∙ h.3, ap (λ l. l (n ++ started ds ∷ [])) t.stolen ∙ h.4, h.5, r.0, r.1, h.8, subst (λ o. slice_get o.items h.8 ≡ Some j) (sym r.3) h.9, h.10, h.11)
  where_else j n ds x Waiting ne h = (h.0, h.1, h.2, h.3, (λ g. h.4 (over_back n ne g)), goes_on s s' (name k) t.frame e t.here t.goes lasting t.frames t.stolen n ds h.5, h.6, h.7)
  where_else j n ds x Finished ne h = h

  -- ---- the journal

  abbrev entries : List JournalEntry
  entries = let l = b.journal in l.items

  deeds_on : (j : ℕ) (ds : List (Deed FrameEnv)) (es : List numbered_event.Event) → AreDeeds p old_frame_states name s j ds es → AreDeeds p new_frame_states name s' j ds es
  deeds_on j ds es h = subst (λ l. AreDeeds p l name s' j ds es) (sym t.frame_states_are) (deeds_changed change old_frame_states k name p s s' sizes j ds es h)

  not_of : (j : ℕ) → (k ≡ j → ⊥) → nat_eq entry.frame j ≡ false
  not_of j ne = ⊎_elim (λ q. absurd (ne (sym t.by_frame ∙ eqb-true entry.frame j q))) (λ f. f) (cases_Bool (nat_eq entry.frame j))

  written_else : (j : ℕ) → (k ≡ j → ⊥) → (let l = b'.journal in events_of j l.items) ≡ events_of j entries
  written_else j ne = ap (λ l. events_of j l) t.written ∙ events_more j entries entry ∙ ap (λ c. cond c (events_of j entries ++ entry.event ∷ []) (events_of j entries)) (not_of j ne)

  written_here : (let l = b'.journal in events_of k l.items) ≡ events_of k entries ++ entry.event ∷ []
  written_here = ap (λ l. events_of k l) t.written ∙ events_more k entries entry ∙ ap (λ c. cond c (events_of k entries ++ entry.event ∷ []) (events_of k entries)) (eq-eqb entry.frame k t.by_frame)

  -- ---- frame states

  pub other : (j : ℕ) (a : Activation FrameState) → (k ≡ j → ⊥) → slice_get old_frame_states j ≡ Some a → Sits code p inputs name b s j a → Sits code p inputs name b' s' j a
  other j a ne at o =
      let x = a.cursor in
      let f = o.frame in
      let apart = names_differ j (get_low old_frame_states j a at) ne in record {
        frame = o.frame;
        here = else_at (name j) apart ∙ o.here;
        named = o.named;
        number = o.number;
        seen = seen_on a x f.what o.seen;
        creates = o.creates;
        creates_none = o.creates_none;
        stolen = ap (λ l. l (name j)) t.stolen ∙ o.stolen;
        children = o.children;
        last = λ some. let r = o.last some in (subst (λ z. x.last < z) (sym same_length) r.0, r.1);
        strands_are = o.strands_are;
        counted = o.counted;
        due = o.due;
        is_where = where_else j (name j) f.deeds x x.status apart o.is_where;
        block = λ going. block_else (name j) f.deeds x apart (o.block going);
        written = subst (λ es. AreDeeds p new_frame_states name s' j f.deeds es) (sym (written_else j ne)) (deeds_on j f.deeds (events_of j entries) o.written);
      }

  -- the frame is the worker's
  abbrev frame_state_now : FrameState
  frame_state_now = let a = t.frame_state in a.cursor

  status_is : frame_state_now.status ≡ Held w
  status_is =
      let h = sh.holds w k t.worker t.at t.has in
      let same : h.frame_state ≡ t.frame_state = (let q : Some h.frame_state ≡ Some t.frame_state = sym h.here ∙ t.sits in cc) in
      ap (λ (a : Activation FrameState). let x = a.cursor in x.status) (sym same) ∙ h.held

  own_open : (j : JoinView) → (j.closed ≡ true → frame_state_now.status ≡ Waiting) → j.closed ≡ false
  own_open j g = ⊎_elim (λ q. let z : Held w ≡ Waiting = sym status_is ∙ g q in let f : ⊥ = cc in absurd f) (λ f. f) (cases_Bool j.closed)

  plain_block : IsPlain e → HasBlock code p inputs name b s (name k) past frame_state_now → HasBlock code p inputs name b' s' (name k) longer_past (touched true t.begun t.took t.cursor t.answer frame_state_now)
  plain_block is_plain (inl h) = inl (h.0, flags_same (name k) longer_past ∙ stolen_plain (λ q. s.stolen (name k ++ q ∷ [])) 1 [] past e is_plain ∙ h.1, h.2)
  plain_block is_plain (inr h) =
      let l = h.0 in
      let j = shown l.value in
      inr (
        h.0,
        h.1,
        ⊎_elim (λ m. inl m) (λ g. let open_is = own_open j g.1 in inr (
          keeps_on (name k) past longer_past j (flags_same (name k) longer_past ∙ stolen_plain (λ q. s.stolen (name k ++ q ∷ [])) 1 [] past e is_plain)
              (λ i. ap (λ c. cond c (s'.piece (name k) i) (unit_of monoid_of i)) open_is ∙ sym (ap (λ c. cond c (s.piece (name k) i) (unit_of monoid_of i)) open_is)) g.0,
          g.1,
        )) h.2,
      )

  block_here : HasBlock code p inputs name b s (name k) past frame_state_now → HasBlock code p inputs name b' s' (name k) longer_past (change frame_state_now)
  block_here h = by t.same_block t.is_plain
    where
      by : (c : Bool) → IsInBlock c e → HasBlock code p inputs name b' s' (name k) longer_past (touched c t.begun t.took t.cursor t.answer frame_state_now)
      by true is = plain_block is h
      by false is =
          let loose : ℕ → Bool = (λ q. s.stolen (name k ++ q ∷ [])) in
          inl (refl, flags_same (name k) longer_past ∙ ap (λ x. stolen_in loose 1 [] (past ++ Does x ∷ [])) is ∙ stolen_sync loose 1 [] past, refl)

  -- its block hasn't passed then
  merged_now : (let x = change frame_state_now in x.merged) ≡ false
  merged_now = by t.same_block t.unmerged
    where
      by : (c : Bool) → (c ≡ true → frame_state_now.merged ≡ false) → cond c frame_state_now.merged false ≡ false
      by true h = h refl
      by false h = refl

  where_here : IsWhere code p inputs name b' s' k (name k) longer_past (change frame_state_now) frame_state_now.status
  where_here =
      let r = worker_on w t.worker t.at in
      subst (λ z. IsWhere code p inputs name b' s' k (name k) longer_past (change frame_state_now) z) (sym status_is)
      (r.0, r.1, r.2 ∙ t.has, AfterEvent past e refl, ended_more past (Does e) t.goes ∙ lasting, (λ m. absurd (true≢false (sym m ∙ merged_now))), (λ m q. let z : due.Answer t.answer ≡ due.Sync = q in cc))

  pub itself : Sits code p inputs name b s k t.frame_state → Sits code p inputs name b' s' k now
  itself o =
      let x = frame_state_now in
      let same : o.frame ≡ t.frame = (let q : Some o.frame ≡ Some t.frame = sym o.here ∙ t.here in cc) in record {
        frame = record t.frame { deeds = longer_past };
        here = here_at;
        named = subst (λ (f : Frame FrameEnv). (let v = f.what in v.name) ≡ name k) same o.named;
        number = o.number;
        seen = seen_on t.frame_state (change x) what (subst (λ (f : Frame FrameEnv). Seen code p inputs name b s t.frame_state f.what) same o.seen);
        creates = subst (λ (f : Frame FrameEnv). (function : ℕ) → (let a = t.frame_state in a.creator ≡ Some function) → let g = function_frame code.layout function in let v = f.what in g.reducers ≡ own_reducers p v.callee) same o.creates;
        creates_none = subst (λ (f : Frame FrameEnv). (let a = t.frame_state in a.creator ≡ None) → let v = f.what in own_reducers p v.callee ≡ []) same o.creates_none;
        stolen = ap (λ l. l (name k)) t.stolen ∙ o.stolen;
        children = started_does past e ∙ ap (λ (f : Frame FrameEnv). started f.deeds) (sym same) ∙ o.children;
        last = λ some. let r = o.last some in (subst (λ z. x.last < z) (sym same_length) r.0, r.1);
        strands_are = t.strands_are;
        counted = t.took_is ∙ ap (taken p inputs what) (sym (but_last_more past (Does e)));
        due = λ going. (t.cursor, refl, t.told);
        is_where = where_here;
        block = λ going. block_here (o_block same o.block);
        written = subst (λ es. AreDeeds p new_frame_states name s' k longer_past es) (sym written_here)
            (deeds_more p new_frame_states name s' k past (events_of k entries) (Does e) entry.event (deeds_on k past (events_of k entries) (subst (λ (f : Frame FrameEnv). AreDeeds p old_frame_states name s k f.deeds (events_of k entries)) same o.written))
            (subst (λ l. IsDeed p l name s' k (Does e) entry.event) (sym t.frame_states_are) (deed_changed change old_frame_states k name p s s' sizes k (Does e) entry.event t.means)));
      }
    where
      o_block : (same : o.frame ≡ t.frame) → (let f = o.frame in has_ended f.deeds ≡ false → HasBlock code p inputs name b s (name k) f.deeds frame_state_now) → HasBlock code p inputs name b s (name k) past frame_state_now
      o_block same h = subst (λ (f : Frame FrameEnv). has_ended f.deeds ≡ false → HasBlock code p inputs name b s (name k) f.deeds frame_state_now) same h t.goes

  pub frame_states_sit : (j : ℕ) (a : Activation FrameState) → slice_get new_frame_states j ≡ Some a → Sits code p inputs name b' s' j a
  frame_states_sit j a at = by (nat_eq k j) refl
    where
      by : (c : Bool) → nat_eq k j ≡ c → Sits code p inputs name b' s' j a
      by true q =
          let same : k ≡ j = eqb-true k j q in
          let is : now ≡ a = (let z : Some now ≡ Some a = sym now_at ∙ ap (λ i. slice_get new_frame_states i) same ∙ at in cc) in
          subst (λ i. Sits code p inputs name b' s' i a) same (subst (λ z. Sits code p inputs name b' s' k z) is (itself (sh.sits k t.frame_state t.sits)))
      by false q =
          let ne : k ≡ j → ⊥ = (λ r. true≢false (sym (eq-eqb k j r) ∙ q)) in
          other j a ne (off_back j a ne at) (sh.sits j a (off_back j a ne at))

  -- ---- workers

  own_piece : (i : Instance) → carried (monoid_of i) (λ m. s'.piece m i) s'.stolen (name k) (deeds_at (s'.frames (name k))) (let x = change frame_state_now in x.merged) ≡ s'.piece (name k) i
  own_piece i =
      ap (λ f. carried (monoid_of i) (λ m. s'.piece m i) s'.stolen (name k) (deeds_at f) (let x = change frame_state_now in x.merged)) here_at ∙ plain (monoid_of i) (λ m. s'.piece m i) s'.stolen (name k) longer_past (let x = change frame_state_now in x.merged) merged_now (resuming_event past e)

  own_unused : (q : ℕ) → IsUsed s'.stolen (name k) (deeds_at (s'.frames (name k))) (let x = change frame_state_now in x.merged) q → ⊥
  own_unused q h = unused s'.stolen (name k) longer_past (let x = change frame_state_now in x.merged) q merged_now (resuming_event past e) (subst (λ f. IsUsed s'.stolen (name k) (deeds_at f) (let x = change frame_state_now in x.merged) q) here_at h)

  holds_here : (u : Worker) → u.views ≡ t.views → Holds code p inputs name b' s' w u k
  holds_here u views = record {
    frame_state = now;
    here = now_at;
    held = status_is;
    views = λ i j is. subst (λ v. IsViewOf (kind_of i) v (value_in u.views (kind_of i) j)) (sym (own_piece i)) (subst (λ h. IsViewOf (kind_of i) (s'.piece (name k) i) (value_in h (kind_of i) j)) (sym views) (t.views_are i j (instance_back i j is)));
    used = λ q h. absurd (own_unused q h);
    bare = subst (λ n. IsBare n (value_in u.views)) (sym same_length) (subst (λ h. IsBare (length old_frame_states) (value_in h)) (sym views) t.bare_views);
  }

  holds_else : (v j : ℕ) (u u' : Worker) → (k ≡ j → ⊥) → u'.views ≡ u.views → Holds code p inputs name b s v u j → Holds code p inputs name b' s' v u' j
  holds_else v j u u' ne views h =
      let x = (let a = h.frame_state in a.cursor) in
      let at = h.here in
      let apart = names_differ j (get_low old_frame_states j h.frame_state at) ne in
      let frame_is = else_at (name j) apart in record {
        frame_state = h.frame_state;
        here = off_at j h.frame_state ne at;
        held = h.held;
        views = λ i q is.
            let same : carried (monoid_of i) (λ m. s'.piece m i) s'.stolen (name j) (deeds_at (s'.frames (name j))) x.merged ≡ carried (monoid_of i) (λ m. s.piece m i) s.stolen (name j) (deeds_at (s.frames (name j))) x.merged =
            ap (λ f. carried (monoid_of i) (λ m. s'.piece m i) s'.stolen (name j) (deeds_at f) x.merged) frame_is
            ∙ carried_ext (monoid_of i) (λ m. s.piece m i) (λ m. s'.piece m i) s.stolen s'.stolen (name j) (deeds_at (s.frames (name j))) x.merged (t.others i (name j) (name_off (name k) (name j) apart)) (λ q. ap (λ l. l (name j ++ q ∷ [])) t.stolen)
            (λ q is. kid_same (name j ++ q ∷ []) i (h.used q is)) in
            subst (λ z. IsViewOf (kind_of i) (carried (monoid_of i) (λ m. s'.piece m i) s'.stolen (name j) (deeds_at (s'.frames (name j))) x.merged) (value_in z (kind_of i) q)) (sym views)
            (subst (λ z. IsViewOf (kind_of i) z (value_in u.views (kind_of i) q)) (sym same) (h.views i q (instance_back i q is)));
        used = λ q is.
            ends_same (name j ++ q ∷ []) ∙ h.used q (subst (λ l. IsUsed l (name j) (deeds_at (s.frames (name j))) x.merged q) t.stolen (subst (λ f. IsUsed s'.stolen (name j) (deeds_at f) x.merged q) frame_is is));
        bare = subst (λ n. IsBare n (value_in u'.views)) (sym same_length) (subst (λ z. IsBare (length old_frame_states) (value_in z)) (sym views) h.bare);
      }

  -- a frame has one holder
  one_holder : (v : ℕ) (u : Worker) → Holds code p inputs name b s v u k → w ≡ v
  one_holder v u h =
      let same : h.frame_state ≡ t.frame_state = (let q : Some h.frame_state ≡ Some t.frame_state = sym h.here ∙ t.sits in cc) in
      let q : Held w ≡ Held v = sym status_is ∙ ap (λ (a : Activation FrameState). let x = a.cursor in x.status) (sym same) ∙ h.held in
      cc

  still_holds : (v j : ℕ) (u : Worker) → (let l = b'.workers in slice_get l.items v ≡ Some u) → u.frame ≡ Some j → Holds code p inputs name b' s' v u j
  still_holds v j u at has = by (nat_eq k j) refl
    where
      by : (c : Bool) → nat_eq k j ≡ c → Holds code p inputs name b' s' v u j
      by true q =
          let l = b.workers in
          let r = viewing_from t.views l.items w v u (subst (λ ws. slice_get ws v ≡ Some u) t.workers_are at) in
          let same : k ≡ j = eqb-true k j q in
          let mine : w ≡ v = one_holder v r.0 (sh.holds v k r.0 r.1 (sym r.2 ∙ has ∙ ap (λ n. Some n) (sym same))) in
          let views : u.views ≡ t.views = ⊎_elim (λ g. g.1) (λ g. absurd (g.0 mine)) r.4 in
          subst (λ i. Holds code p inputs name b' s' v u i) same (subst (λ i. Holds code p inputs name b' s' i u k) mine (holds_here u views))
      by false q =
          let l = b.workers in
          let r = viewing_from t.views l.items w v u (subst (λ ws. slice_get ws v ≡ Some u) t.workers_are at) in
          let ne : k ≡ j → ⊥ = (λ z. true≢false (sym (eq-eqb k j z) ∙ q)) in
          let o = sh.holds v j r.0 r.1 (sym r.2 ∙ has) in
          let not_mine : w ≡ v → ⊥ = (λ z. ne (let f : Some t.worker ≡ Some r.0 = sym t.at ∙ ap (λ i. slice_get l.items i) z ∙ r.1 in let g : t.worker ≡ r.0 = cc in let c : Some k ≡ Some j = sym t.has ∙ ap (λ (y : Worker). y.frame) g ∙ sym r.2 ∙ has in cc)) in
          let views : u.views ≡ (let y = r.0 in y.views) = ⊎_elim (λ g. absurd (not_mine g.0)) (λ g. g.1) r.4 in
          holds_else v j r.0 u ne views o

  -- ---- the worker table

  status_on : (j : ℕ) (a : Activation FrameState) → slice_get old_frame_states j ≡ Some a → (a' : Activation FrameState) × (slice_get new_frame_states j ≡ Some a') × ((let x = a'.cursor in x.status) ≡ (let x = a.cursor in x.status))
  status_on j a at = by (nat_eq k j) refl
    where
      by : (c : Bool) → nat_eq k j ≡ c → (a' : Activation FrameState) × (slice_get new_frame_states j ≡ Some a') × ((let x = a'.cursor in x.status) ≡ (let x = a.cursor in x.status))
      by true q =
          let same : k ≡ j = eqb-true k j q in
          let is : t.frame_state ≡ a = (let z : Some t.frame_state ≡ Some a = sym t.sits ∙ ap (λ i. slice_get old_frame_states i) same ∙ at in cc) in
          (now, subst (λ i. slice_get new_frame_states i ≡ Some now) same now_at, ap (λ (z : Activation FrameState). let x = z.cursor in x.status) is)
      by false q = (a, off_at j a (λ r. true≢false (sym (eq-eqb k j r) ∙ q)) at, refl)

  worker_was : (v : ℕ) (u : Worker) → (let l = b'.workers in slice_get l.items v ≡ Some u) → (u' : Worker) × (let l = b.workers in slice_get l.items v ≡ Some u') × (u.offered ≡ u'.offered)
  worker_was v u at = let l = b.workers in let r = viewing_from t.views l.items w v u (subst (λ ws. slice_get ws v ≡ Some u) t.workers_are at) in (r.0, r.1, r.3)

  worker_table_is : IsWorkerTable code p inputs name b' d
  worker_table_is =
      let o = sh.worker_table in
      let l = b.workers in record {
        hands = o.hands ∙ sym (ap (λ ws. map (hand_of name) ws) t.workers_are ∙ viewing_hands t.views name l.items w);
        offered = o.offered ∙ sym (ap (λ ws. map (offers_of name) ws) t.workers_are ∙ viewing_offers t.views name l.items w);
        total = t.offered ∙ o.total ∙ ap (λ ns. sum ns) (sym (ap (λ ws. map (λ (u : Worker). let f = u.offered in length f.items) ws) t.workers_are ∙ viewing_counts t.views l.items w));
        places = λ v q j u at has.
            let r = worker_was v u at in
            let g = o.places v q j r.0 r.1 (subst (λ f. slice_get f.items q ≡ Some j) r.2 has) in
            let n = status_on j g.0 g.1 in
            (n.0, n.1, n.2 ∙ g.2);
        once = λ v q i j u at has also. let r = worker_was v u at in o.once v q i j r.0 r.1 (subst (λ f. slice_get f.items q ≡ Some j) r.2 has) (subst (λ f. slice_get f.items i ≡ Some j) r.2 also);
        waiting = λ j a at. let r = was j a at in let g = o.waiting j r.before r.there in ((λ z. g.0 (sym r.status ∙ z)), (λ z. r.status ∙ g.1 z));
        present = λ n is none. o.present n is (absent_back n none);
      }

  -- ---- what is shown

  more_deeds : (P : List (Deed FrameEnv) → Type 0) → (P longer_past → P past) → (m : Name) → P (deeds_at (s'.frames m)) → P (deeds_at (s.frames m))
  more_deeds P back m h = by (same_name (name k) m) refl
    where
      by : (c : Bool) → same_name (name k) m ≡ c → P (deeds_at (s.frames m))
      by true q =
          let same : name k ≡ m = same_name-eq (name k) m q in
          subst (λ z. P (deeds_at (s.frames z))) same (subst (λ f. P (deeds_at f)) (sym t.here) (back (subst (λ f. P (deeds_at f)) here_at (subst (λ z. P (deeds_at (s'.frames z))) (sym same) h))))
      by false q = subst (λ f. P (deeds_at f)) (else_at m (λ r. true≢false (sym (same_name-refl (name k)) ∙ ap (λ z. same_name (name k) z) r ∙ q))) h

  joined_same : IsPlain e → (n : Name) (q : ℕ) → joined_at 1 q (deeds_at (s.frames n)) ≡ joined_at 1 q (deeds_at (s'.frames n))
  joined_same is_plain n q = more_deeds (λ ds. joined_at 1 q ds ≡ joined_at 1 q (deeds_at (s'.frames n))) (λ h. sym (joined_plain 1 q past e is_plain) ∙ h) n refl

  -- a sync's children enter the joins
  joined_more : e ≡ Syncs → (n : Name) (q : ℕ) → times (n ++ q ∷ []) (joined_by {W = FrameEnv} Sync (name k) past) + joined_at 1 q (deeds_at (s.frames n)) ≡ joined_at 1 q (deeds_at (s'.frames n))
  joined_more is n q =
      ap (λ z. times (n ++ q ∷ []) (joined_by {W = FrameEnv} Sync (name k) past) + z) (sym (joined_child s.frames n q))
      ∙ sym (joined_step (name k) s.frames t.frame (Does Syncs) t.here tt (n ++ q ∷ []))
      ∙ ap (λ x. joined (after_deed s.frames (name k) t.frame (Does x)) (n ++ q ∷ [])) (sym is)
      ∙ ap (λ f. joined f (n ++ q ∷ [])) (sym t.frames)
      ∙ joined_child s'.frames n q

  joins_are : (n : Name) (q : ℕ) → times (n ++ q ∷ []) s.joins ≡ joined_at 1 q (deeds_at (s.frames n)) → times (n ++ q ∷ []) s'.joins ≡ joined_at 1 q (deeds_at (s'.frames n))
  joins_are n q old = ap (λ l. times (n ++ q ∷ []) l) t.joins ∙ by t.same_block t.is_plain
    where
      by : (c : Bool) → IsInBlock c e → times (n ++ q ∷ []) (joined_with c (name k) past ++ s.joins) ≡ joined_at 1 q (deeds_at (s'.frames n))
      by true is = old ∙ joined_same is n q
      by false is =
          times-append (n ++ q ∷ []) (joined_by {W = FrameEnv} Sync (name k) past) s.joins
          ∙ ap (λ z. times (n ++ q ∷ []) (joined_by {W = FrameEnv} Sync (name k) past) + z) old ∙ joined_more is n q

  end_before : HasEnd longer_past → HasEnd past
  end_before g = by t.same_block t.is_plain
    where
      by : (c : Bool) → IsInBlock c e → HasEnd past
      by true is = end_plain past e is g
      by false is = end_sync past (subst (λ x. HasEnd (past ++ Does x ∷ [])) is g)

  tells_is : Tells code p inputs name b' s'
  tells_is =
      let o = sh.tells in record {
        named = subst (λ l. AreNamed l name) (sym t.frame_states_are) (named_changed change old_frame_states k name (λ x. (refl, refl)) named);
        here = λ j a at. let z = frame_states_sit j a at in (z.frame, z.here, z.written);
        absent = λ n none. else_at n (λ q. absent_back n none k low q) ∙ o.absent n (absent_back n none);
        joins = λ n q. joins_are n q (o.joins n q);
        going = λ z h. o.going t.was_open (more_deeds (λ ds. HasEnd ds) end_before [] h);
        over = λ z at. let no : None ≡ Some z = sym t.is_open ∙ at in let f : ⊥ = cc in absurd f;
        first = λ a at. let r = was 0 a at in subst (λ z. length p.openings ≤ z) (sym r.base) (o.first r.before r.there);
        ascend = λ i j x y at at' less.
            let f = was i x at in
            let g = was j y at' in
            subst (λ z. z + size_of p (s'.frames (name i)) ≤ y.base) (sym f.base) (subst (λ z. (let a = f.before in a.base) + z ≤ y.base) (sizes (name i)) (subst (λ z. (let a = f.before in a.base) + size_of p (s.frames (name i)) ≤ z) (sym g.base) (o.ascend i j f.before g.before f.there g.there less)));
      }

  -- ---- the whole

  pub shown_after : ShowsBy code p inputs name b' d s'
  shown_after = record {
    tells = tells_is;
    running = t.running ∙ sh.running;
    sits = frame_states_sit;
    unstolen = λ n none. ap (λ l. l n) t.stolen ∙ sh.unstolen n (absent_back n none);
    unwritten = λ n q none. t.unwritten n q (absent_back n none) ∙ sh.unwritten n q (absent_back n none);
    bare = λ n m q kind none there. bare_by n m q kind (absent_back n none) (λ h. there (absent_on m h)) (same_name (name k) m) refl;
    memory = λ c n is. t.memory c n (cell_back c n is);
    within = λ j x at.
        let f = was j x at in
        let l = b'.cells in
        subst (λ z. z + size_of p (s'.frames (name j)) ≤ length l.items) (sym f.base) (subst (λ z. (let a = f.before in a.base) + z ≤ length l.items) (sizes (name j)) (subst (λ z. (let a = f.before in a.base) + size_of p (s.frames (name j)) ≤ z) (sym t.cells) (sh.within j f.before f.there)));
    holds = λ v j u at has. still_holds v j u at has;
    worker_table = worker_table_is;
    ticks = t.ticks;
    events = t.events ∙ ap (λ n. n + 1) sh.events ∙ sym (ap (λ (l : List JournalEntry). length l) t.written ∙ length_more entries entry);
    frames = t.frame_total ∙ sh.frames ∙ sym same_length;
    cells = t.cell_total ∙ sh.cells ∙ sym t.cells;
    few_frames = subst (λ n. n ≤ MAX_FRAMES) (sym t.frame_total) sh.few_frames;
    few_cells = subst (λ n. n ≤ MAX_CELLS) (sym t.cell_total) sh.few_cells;
    eventless = λ j far. let l = low in let e = same_length in written_else j (λ q. omega (arith, l, e, far, q)) ∙ sh.eventless j (omega (arith, e, far));
  }
    where
      bare_by : (n m : Name) (q : ℕ) (kind : MonoidKind) → IsAbsent old_frame_states name n → (IsAbsent old_frame_states name m → ⊥) → (c : Bool) → same_name (name k) m ≡ c → s'.piece m (Reducer n q kind) ≡ unit_of monoid_of (Reducer n q kind)
      bare_by n m q kind none there true is = subst (λ z. s'.piece z (Reducer n q kind) ≡ unit_of monoid_of (Reducer n q kind)) (same_name-eq (name k) m is) (t.bare n q kind none)
      bare_by n m q kind none there false is = t.others (Reducer n q kind) m is ∙ sh.bare n m q kind none there

pub touched_is : (code : CodeView) (p : Source) (inputs : List ℤ) → TouchesAreShown code p inputs
touched_is code p inputs name b b' d s s' w k e entry sh t = shown_after code p inputs name b b' d s s' w k e entry sh t
