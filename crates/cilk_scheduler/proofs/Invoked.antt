-- A frame starts another.
--
-- - `else_at`, `here_at`, `kid_at`, `ends_same`, `piece_kid`, `piece_off`: frames by name, and
--   their views;
-- - `which`, `split_instance`: the earlier frames and reducers, and the new frame's;
-- - `other`, `itself`: the states of other frames, and of the one that starts the new one;
-- - `still_holds`, `worker_table_is`, `tells_is`: workers, the worker table, what is shown;
-- - `shown_then`, `settles`: the whole, and the choice.
use Rattle.std.proofs.Common.{◌≡◌, ◌⊎◌, inl, inr, ⊎_elim, ◌+◌, ◌<◌, ◌≤◌, ℕ, suc, nat_eq, eq-eqb, eqb-true, Bool, true, false, true≢false, cond, ℤ, pos, List, [], ◌∷◌, ◌++◌, length, map, replicate, set, slice_get, sum, Option, Some, None, refl, sym, ap, ap₂, ◌∙◌, subst, arith}
use Rattle.std.specs.Option.{option_map}
use Rattle.std.proofs.lemmas.Bool.{cases_Bool, cases_lt}
use Rattle.std.proofs.lemmas.List.{map-append}
use Rattle.cilk_types.specs.declared.event.Event as numbered_event
use Rattle.cilk_types.specs.declared.event.Instance as numbered
use Rattle.cilk_types.specs.declared.invocation.Invocation.{Invocation}
use Rattle.cilk_types.specs.declared.invocation.Invocation.TheVariants.{Call, Spawn}
use Rattle.cilk_types.specs.declared.limits.TheConstants.{MAX_CELLS, MAX_FRAMES}
use Rattle.cilk_monoid.specs.declared.kind.MonoidKind.{MonoidKind}
use Rattle.cilk_program.specs.declared.ask.Ask.TheVariants as asks
use Rattle.cilk_program.specs.declared.ask.Callee.{Callee}
use Rattle.cilk_program.specs.SerialRun.{cells_of, invocation}
use Rattle.cilk_program.specs.Syntax.{Source}
use Rattle.cilk_lower.specs.Code.{CodeView}
use Rattle.cilk_lower.specs.Layout.{LaysOut}
use Rattle.cilk_frames.specs.Cursor.{CursorView}
use Rattle.cilk_frames.specs.Following.{Fits}
use Rattle.cilk_frames.specs.declared.cursor.Answer.TheVariants.{Done}
use Rattle.cilk_frames.specs.declared.activation.Activation.{Activation}
use Rattle.cilk_hypermap.specs.Hypermap.{value_in}
use Rattle.cilk_join.specs.Joins.{JoinView}
use Rattle.cilk_join.specs.Products.{Product}
use Rattle.cilk_join.specs.Waits.{shown}
use Rattle.cilk_determinacy.specs.Cuts.{times}
use Rattle.cilk_determinacy.specs.Costs.{Total, TickTotal, EventTotal, FrameTotal, CellTotal, cost}
use Rattle.cilk_determinacy.specs.Machine.{Frame, State, Makes, after_deed, after_views, begun, deed_of, deeds_at, effect, joined_by, started}
use Rattle.cilk_determinacy.specs.Monoids.{numbers_of, unit_of}
use Rattle.cilk_determinacy.specs.Progress.{BlockHasEnded}
use Rattle.cilk_determinacy.specs.Runs.{Name, same_name, Cell, Own, Instance, Output, Reducer, Invoke, Deed, Invokes}
use Rattle.cilk_determinacy.proofs.Basics.{same_name-refl, same_name-eq}
use Rattle.cilk_determinacy.proofs.Started.{started_invokes}
use Rattle.cilk_scheduler.specs.KeptCursors.{IsTold}
use Rattle.cilk_determinacy.specs.FrameEnvMachine.{costs, has_ended, next, taken}
use Rattle.cilk_determinacy.specs.Reducers.{View, kind_of, monoid_of, views_of}
use Rattle.cilk_determinacy.specs.Steps.{Next}
use Rattle.cilk_determinacy.specs.FrameEnvViews.{IsViewOf}
use Rattle.cilk_determinacy.specs.FrameEnvs.{FrameEnv, child_env}
use Rattle.cilk_determinacy.proofs.Histories.{but_last_more, ended_more}
use Rattle.cilk_determinacy.proofs.FrameEnvViews.{are_multiplied}
use Rattle.cilk_scheduler.specs.declared.scheduler.Scheduler.{Scheduler}
use Rattle.cilk_scheduler.specs.declared.choice.Choice.TheVariants.{Run}
use Rattle.cilk_scheduler.specs.declared.frame_state.Due.TheVariants as due
use Rattle.cilk_scheduler.specs.declared.frame_state.JournalEntry.{JournalEntry}
use Rattle.cilk_scheduler.specs.declared.frame_state.FrameState.{FrameState}
use Rattle.cilk_scheduler.specs.declared.frame_state.Status.{Status}
use Rattle.cilk_scheduler.specs.declared.frame_state.Status.TheVariants.{Held, Calling, Offered, Waiting, Finished}
use Rattle.cilk_scheduler.specs.declared.frame_state.Worker.{Worker}
use Rattle.cilk_scheduler.specs.Blocks.{stolen_in, Lays}
use Rattle.cilk_scheduler.specs.Schedulers.{carried, IsUsed, greatest, IsBare, hand_of, offers_of, is_resuming, is_there, stolen_at_block, run_at, waits_at, Keeps, HasBlock, IsWhere, Sits, Holds, IsWorkerTable, Tells, ShowsBy}
use Rattle.cilk_scheduler.specs.WorkerTables.{WorkerTable, BlockIsOver, IsIn, Did, Chooses, Settles, does, calls, spawns, newest_of}
use Rattle.cilk_scheduler.specs.Histories.{DidAsAsked}
use Rattle.cilk_scheduler.specs.Invocations.{GoesToChild, left_at, newly_offered, offering}
use Rattle.cilk_scheduler.specs.Numbered.{AreNamed, IsAbsent, size_of, IsInstance, IsDeed, AreDeeds, events_of}
use Rattle.cilk_scheduler.specs.Ordinals.{AreCounted}
use Rattle.cilk_scheduler.specs.FrameStates.{changed, counted, seated, started_at}
use Rattle.cilk_scheduler.specs.Steps.{HasCome}
use Rattle.cilk_scheduler.proofs.Altered as altering
use Rattle.cilk_scheduler.proofs.Carried.{plain, unused, carried_ext}
use Rattle.cilk_scheduler.proofs.Carries as carries
use Rattle.cilk_scheduler.proofs.Changing.{changed_here, changed_off, changed_length}
use Rattle.cilk_scheduler.proofs.Children.{stolen_child, strands_child, lays_units, carried_unit, first_part, part_of, newest_is, sum_more, still_offered, was_offered, offered_length, offers_by, not_waiting, cells_length}
use Rattle.cilk_scheduler.proofs.Forked as forked
use Rattle.cilk_scheduler.proofs.Forked.{off_by}
use Rattle.cilk_scheduler.proofs.Grown.{Grows, grown}
use Rattle.cilk_scheduler.proofs.Kept.{events_more, deeds_more}
use Rattle.cilk_scheduler.proofs.Onward.{name_off}
use Rattle.cilk_scheduler.proofs.Placed.{get_some}
use Rattle.cilk_scheduler.proofs.NewNames.{WasStarted, all_started, named_more}
use Rattle.cilk_scheduler.proofs.Plain.{get_low, length_more, lays_same}
use Rattle.cilk_scheduler.proofs.Ready as ready
use Rattle.cilk_scheduler.proofs.Starting.{carries_more, last_there, more_length, sizes_more}
use Rattle.cilk_scheduler.proofs.Stepped as stepped
use Rattle.cilk_scheduler.proofs.Within.{no_fault_then}

module _ (code : CodeView) (p : Source) (inputs : List ℤ) (name : ℕ → Name) (b b' : Scheduler) (d : WorkerTable) (s s' : State FrameEnv View) (w k : ℕ) (how : Invocation) (callee : Callee)
    (lays : LaysOut p code.layout) (sh : ShowsBy code p inputs name b d s) (asked : DidAsAsked p inputs s) (h : HasCome code p inputs b w k (asks.Invoke how callee)) (t : GoesToChild code p inputs b b' w k how callee h)
    (m : Makes FrameEnv View monoid_of (Next p inputs) (costs p inputs) s (name k) s')
    (last_name : (let f = b.frames in let g = (let o = sh.sits k h.frame_state h.sits in o.frame) in name (length f.items) ≡ name k ++ suc (started g.deeds) ∷ []))
    (fresh : (let g = (let o = sh.sits k h.frame_state h.sits in o.frame) in s.frames (name k ++ suc (started g.deeds) ∷ []) ≡ None))
    (counts : AreCounted s.frames) (child_sits : (let f = b.frames in Sits code p inputs name b' s' (length f.items) t.child)) where
  abbrev old_frame_states : List (Activation FrameState)
  old_frame_states = let f = b.frames in f.items

  abbrev new_frame_states : List (Activation FrameState)
  new_frame_states = let f = b'.frames in f.items

  abbrev old_workers : List Worker
  old_workers = let l = b.workers in l.items

  abbrev new_workers : List Worker
  new_workers = let l = b'.workers in l.items

  abbrev last : ℕ
  last = let f = b.frames in length f.items

  abbrev frame_state : FrameState
  frame_state = let a = h.frame_state in a.cursor

  abbrev came : FrameState
  came = h.came

  abbrev frame : Frame FrameEnv
  frame = let o = sh.sits k h.frame_state h.sits in o.frame

  abbrev what : FrameEnv
  what = let f = (let o = sh.sits k h.frame_state h.sits in o.frame) in f.what

  abbrev past : List (Deed FrameEnv)
  past = let f = (let o = sh.sits k h.frame_state h.sits in o.frame) in f.deeds

  abbrev kid : Name
  kid = name k ++ suc (started (let f = (let o = sh.sits k h.frame_state h.sits in o.frame) in f.deeds)) ∷ []

  abbrev child_is : FrameEnv
  child_is = child_env p (let f = (let o = sh.sits k h.frame_state h.sits in o.frame) in f.what) (suc (started (let f = (let o = sh.sits k h.frame_state h.sits in o.frame) in f.deeds))) callee

  abbrev deed : Deed FrameEnv
  deed = Invokes how child_is

  abbrev longer_past : List (Deed FrameEnv)
  longer_past = past ++ Invokes how child_is ∷ []

  sitting : Sits code p inputs name b s k h.frame_state
  sitting = sh.sits k h.frame_state h.sits

  named : AreNamed old_frame_states name
  named = let q = sh.tells in q.named

  here : s.frames (name k) ≡ Some frame
  here = let o = sh.sits k h.frame_state h.sits in o.here

  low : k < last
  low = get_low old_frame_states k h.frame_state h.sits

  no_sync : asks.Invoke how callee ≡ asks.Sync → ⊥
  no_sync q = cc

  going : has_ended past ≡ false
  going = stepped.goes code p inputs name b d s w k (asks.Invoke how callee) lays sh h no_sync

  unmerged : frame_state.merged ≡ false
  unmerged = stepped.unmerged code p inputs name b d s w k (asks.Invoke how callee) lays sh h no_sync

  named_as : (next p inputs what past ≡ Some (Invoke how child_is)) × (came.took ≡ taken p inputs what past)
  named_as = stepped.named_as code p inputs name b d s w k (asks.Invoke how callee) lays sh h no_sync

  calm : is_resuming past ≡ false
  calm = ready.quiet code p inputs name b d s w k (asks.Invoke how callee) lays sh h no_sync asked (λ q. cc)

  status_was : frame_state.status ≡ Held w
  status_was =
      let g = sh.holds w k h.worker h.at h.has in
      let same : g.frame_state ≡ h.frame_state = (let q : Some g.frame_state ≡ Some h.frame_state = sym g.here ∙ h.sits in cc) in
      ap (λ (a : Activation FrameState). let y = a.cursor in y.status) (sym same) ∙ g.held

  -- ---- the step

  frame_is : m.frame ≡ frame
  frame_is = let a = m.asking in let q : Some m.frame ≡ Some frame = sym a.here ∙ here in cc

  ask_is : m.ask ≡ Invoke how child_is
  ask_is =
      let a = m.asking in
      let n : next p inputs what past ≡ Some m.ask = subst (λ (f : Frame FrameEnv). next p inputs f.what f.deeds ≡ Some m.ask) frame_is a.next in
      let q : Some m.ask ≡ Some (Invoke how child_is) = sym n ∙ named_as.0 in
      cc

  deed_is : deed_of s.memory (numbers_of monoid_of (s.piece (name k))) m.ask ≡ deed
  deed_is = ap (λ a. deed_of s.memory (numbers_of monoid_of (s.piece (name k))) a) ask_is

  made : s'.frames ≡ after_deed s.frames (name k) frame deed
  made = m.frames ∙ ap₂ (λ f a. after_deed s.frames (name k) f a) frame_is deed_is

  memory_same : (c : Cell) → s'.memory c ≡ s.memory c
  memory_same c = ap (λ z. z c) m.memory ∙ ap (λ a. effect a c (s.memory c)) deed_is

  total_at : (total : Total) → s'.totals total ≡ s.totals total + cost (costs p inputs) total what past (Invoke how child_is)
  total_at total = m.totals total ∙ ap₂ (λ (f : Frame FrameEnv) a. s.totals total + cost (costs p inputs) total f.what f.deeds a) frame_is ask_is

  -- ---- frames by name

  kid_at : s'.frames kid ≡ Some (begun child_is)
  kid_at = forked.kid_at p s s' (name k) frame how child_is here fresh going made

  here_at : s'.frames (name k) ≡ Some (record frame { deeds = longer_past })
  here_at = forked.here_at p s s' (name k) frame how child_is here fresh going made

  else_at : (n : Name) → (name k ≡ n → ⊥) → (kid ≡ n → ⊥) → s'.frames n ≡ s.frames n
  else_at = forked.else_at p s s' (name k) frame how child_is here fresh going made

  ends_same : (n : Name) → has_ended (deeds_at (s'.frames n)) ≡ has_ended (deeds_at (s.frames n))
  ends_same = forked.ends_same p s s' (name k) frame how child_is here fresh going made

  sizes : (n : Name) (q : ℕ) → q < size_of p (s.frames n) → q < size_of p (s'.frames n)
  sizes = sizes_more p s s' (name k) frame how child_is here fresh made

  size_off : (n : Name) → (kid ≡ n → ⊥) → size_of p (s'.frames n) ≡ size_of p (s.frames n)
  size_off = forked.size_off p s s' (name k) frame how child_is here fresh going made

  size_kid : size_of p (s'.frames kid) ≡ cells_of p callee
  size_kid = forked.size_kid p s s' (name k) frame how child_is here fresh going made

  -- no frame of the scheduler had the new one's name
  kid_absent : IsAbsent old_frame_states name kid
  kid_absent j less same =
      let r = get_some old_frame_states j less in
      let o = sh.sits j r.0 r.1 in
      let no : None ≡ Some o.frame = sym fresh ∙ ap s.frames (sym same) ∙ o.here in
      cc

  kid_apart : (j : ℕ) → j < last → kid ≡ name j → ⊥
  kid_apart j less q = kid_absent j less (sym q)

  names_differ : (i j : ℕ) → i < last → j < last → (i ≡ j → ⊥) → name i ≡ name j → ⊥
  names_differ i j at at' ne q = ne (named.apart i j at at' q)

  ended_there : (n : Name) → has_ended (deeds_at (s.frames n)) ≡ true → IsAbsent old_frame_states name n → ⊥
  ended_there n is none = let o = sh.tells in true≢false (sym is ∙ ap (λ f. has_ended (deeds_at f)) (o.absent n none))

  -- ---- views by name

  piece_at : (i : Instance) (n : Name) → s'.piece n i ≡ cond (same_name kid n) (s.piece (name k) i) (s.piece n i)
  piece_at i n = m.piece i n ∙ ap₂ (λ (f : Frame FrameEnv) x. after_views (monoid_of i) i s.stolen (name k) f.deeds x (λ y. s.piece y i) n) frame_is deed_is

  piece_kid : (i : Instance) → s'.piece kid i ≡ s.piece (name k) i
  piece_kid i = piece_at i kid ∙ rw (same_name-refl kid) refl

  piece_off : (i : Instance) (n : Name) → (kid ≡ n → ⊥) → s'.piece n i ≡ s.piece n i
  piece_off i n ne = piece_at i n ∙ rw (name_off kid n ne) refl

  kid_same : (i : Instance) (n : Name) → has_ended (deeds_at (s.frames n)) ≡ true → s'.piece n i ≡ s.piece n i
  kid_same i n there = piece_off i n (λ q. true≢false (sym there ∙ ap (λ z. has_ended (deeds_at (s.frames z))) (sym q) ∙ ap (λ f. has_ended (deeds_at f)) fresh))

  -- ---- where frames are

  abbrev left : FrameState
  left = let y = h.came in let a = h.frame_state in let x = a.cursor in
      record x { children = x.children + 1; last = (let f = b.frames in length f.items); due = due.Answer Done; status = left_at how w; cursor = y.cursor; took = y.took; counted = y.took }

  abbrev now : Activation FrameState
  now = let a = h.frame_state in record a { cursor = left }

  abbrev written_frame_state : FrameState → FrameState
  written_frame_state _ = counted (started_at (left_at how w) (let f = b.frames in length f.items) h.came)

  left_is : counted (started_at (left_at how w) last came) ≡ left
  left_is = ap (λ (y : FrameState). counted (started_at (left_at how w) last y)) (stepped.kept code p inputs name b d s w k (asks.Invoke how callee) lays sh h no_sync)

  now_at : slice_get new_frame_states k ≡ Some now
  now_at =
      let a = h.frame_state in
      let B : FrameState → Option (Activation FrameState) = (λ y. Some (record a { cursor = y })) in
      ap (λ l. slice_get l k) t.frames ∙ first_part (changed written_frame_state old_frame_states k) (t.child ∷ []) k now (changed_here written_frame_state old_frame_states k h.frame_state h.sits ∙ ap B left_is)

  child_at : slice_get new_frame_states last ≡ Some t.child
  child_at = ap (λ l. slice_get l last) t.frames ∙ subst (λ n. slice_get (changed written_frame_state old_frame_states k ++ t.child ∷ []) n ≡ Some t.child) (changed_length written_frame_state old_frame_states k) (last_there (changed written_frame_state old_frame_states k) t.child)

  old_at : (j : ℕ) (a : Activation FrameState) → (k ≡ j → ⊥) → slice_get old_frame_states j ≡ Some a → slice_get new_frame_states j ≡ Some a
  old_at j a ne at = ap (λ l. slice_get l j) t.frames ∙ first_part (changed written_frame_state old_frame_states k) (t.child ∷ []) j a (changed_off written_frame_state old_frame_states k j ne ∙ at)

  one_more : length new_frame_states ≡ suc last
  one_more = ap (λ (l : List (Activation FrameState)). length l) t.frames ∙ more_length (changed written_frame_state old_frame_states k) t.child ∙ ap suc (changed_length written_frame_state old_frame_states k)

  on : carries.Carries old_frame_states new_frame_states
  on = subst (λ l. carries.Carries old_frame_states l) (sym t.frames)
      (carries.carries_then old_frame_states (changed written_frame_state old_frame_states k) (changed written_frame_state old_frame_states k ++ t.child ∷ []) (carries.carries_changed written_frame_state old_frame_states k) (carries_more (changed written_frame_state old_frame_states k) t.child))

  -- a frame is this one, the new one, or another that stays
  pub data Which (j : ℕ) (a : Activation FrameState) : Type 0 where
    parent_is : k ≡ j → now ≡ a → Which j a
    new_is : last ≡ j → t.child ≡ a → Which j a
    stays : (k ≡ j → ⊥) → slice_get old_frame_states j ≡ Some a → Which j a

  which : (j : ℕ) (a : Activation FrameState) → slice_get new_frame_states j ≡ Some a → Which j a
  which j a at = ⊎_elim (λ g. by g (nat_eq k j) refl) (λ g. new_is (sym (g.0 ∙ changed_length written_frame_state old_frame_states k)) g.1) (part_of (changed written_frame_state old_frame_states k) t.child j a (sym (ap (λ l. slice_get l j) t.frames) ∙ at))
    where
      by : slice_get (changed written_frame_state old_frame_states k) j ≡ Some a → (c : Bool) → nat_eq k j ≡ c → Which j a
      by g true q = let same : k ≡ j = eqb-true k j q in parent_is same (let z : Some now ≡ Some a = sym now_at ∙ ap (λ i. slice_get new_frame_states i) same ∙ at in cc)
      by g false q = let ne : k ≡ j → ⊥ = (λ z. true≢false (sym (eq-eqb k j z) ∙ q)) in stays ne (sym (changed_off written_frame_state old_frame_states k j ne) ∙ g)

  -- it was there, or it is the new one
  base_was : (j : ℕ) (a : Activation FrameState) → slice_get new_frame_states j ≡ Some a → ((z : Activation FrameState) × (slice_get old_frame_states j ≡ Some z) × (a.base ≡ z.base)) ⊎ ((last ≡ j) × (t.child ≡ a))
  base_was j a at = by (which j a at)
    where
      by : Which j a → ((z : Activation FrameState) × (slice_get old_frame_states j ≡ Some z) × (a.base ≡ z.base)) ⊎ ((last ≡ j) × (t.child ≡ a))
      by (parent_is same is) = inl (h.frame_state, ap (λ i. slice_get old_frame_states i) (sym same) ∙ h.sits, ap (λ (z : Activation FrameState). z.base) (sym is))
      by (new_is same is) = inr (same, is)
      by (stays ne at') = inl (a, at', refl)

  -- ---- numbers

  -- a reducer of the new frame's
  abbrev IsKids : Instance → numbered.Instance → Type 0
  IsKids i j = (q : ℕ) × (kind : MonoidKind) × (i ≡ Reducer kid q kind) × (last < j.frame)

  split_instance : (i : Instance) (j : numbered.Instance) → IsInstance p new_frame_states name i j → IsInstance p old_frame_states name i j ⊎ IsKids i j
  split_instance Output j g = inl g
  split_instance (Reducer n q kind) j g = ⊎_elim (λ less. inl (g.0, less, g.2, g.3, g.4)) (λ most. inr (by most)) (cases_lt g.0 last)
    where
      by : last ≤ g.0 → IsKids (Reducer n q kind) j
      by most =
          let e = one_more in
          let below = g.1 in
          let at : g.0 ≡ last = omega (arith, e, below, most) in
          let f = g.3 in
          (q, kind, ap (λ z. Reducer z q kind) (sym g.2 ∙ ap name at ∙ last_name), omega (arith, f, most))

  piece_none : (i : Instance) (j : numbered.Instance) → IsKids i j → (n : Name) → (IsAbsent old_frame_states name n → ⊥) → s.piece n i ≡ (views_of (kind_of i)).unit
  piece_none i j g n there = subst (λ z. s.piece n z ≡ (views_of (kind_of z)).unit) (sym g.2) (sh.bare kid n g.0 g.1 kid_absent there)

  bare_more : (v : Product) → IsBare last v → IsBare (length new_frame_states) v
  bare_more v f = λ kind j lt. let e = one_more in f kind j (omega (arith, e, lt))

  absent_back : (n : Name) → IsAbsent new_frame_states name n → IsAbsent old_frame_states name n
  absent_back n none = λ j at. let e = one_more in none j (omega (arith, e, at))

  absent_on : (n : Name) → (kid ≡ n → ⊥) → IsAbsent old_frame_states name n → IsAbsent new_frame_states name n
  absent_on n ne none = λ j at q.
      let e = one_more in
      ⊎_elim (λ less. none j less q) (λ most. let same : j ≡ last = omega (arith, e, at, most) in ne (sym last_name ∙ ap name (sym same) ∙ q)) (cases_lt j last)

  last_low : last < length new_frame_states
  last_low = let e = one_more in omega (arith, e)

  -- ---- blocks

  flags_same : (n : Name) (ds : List (Deed FrameEnv)) → stolen_at_block code p inputs name b' s' n ds ≡ stolen_at_block code p inputs name b s n ds
  flags_same n ds = ap (λ (l : Name → Bool). stolen_in (λ q. l (n ++ q ∷ [])) 1 [] ds) m.stolen

  keeps_on : (n : Name) (ds ds' : List (Deed FrameEnv)) (j : JoinView) → (IsAbsent old_frame_states name n → ⊥) → stolen_at_block code p inputs name b' s' n ds' ≡ stolen_at_block code p inputs name b s n ds → Keeps code p inputs name b s n ds j
      → Keeps code p inputs name b' s' n ds' j
  keeps_on n ds ds' j there flags g = record {
    lays = λ i q is.
        let r = j.row in
        ⊎_elim (λ o. lays_old i q o)
        (λ o.
        lays_units (kind_of i) q (kind_of Output) (record { frame = 0; place = 0 }) (λ z. s'.piece (n ++ z ∷ []) i) (λ z. s'.piece (n ++ z ∷ []) Output) (is_there code p inputs name b' s' n) (cond j.closed (s'.piece n i) (unit_of monoid_of i))
        (cond j.closed (s'.piece n Output) (unit_of monoid_of Output)) (either j.closed (s'.piece n i) (unit_of monoid_of i) (own_same i ∙ piece_none i q o n there) refl)
        (λ z is_there. let e : has_ended (deeds_at (s.frames (n ++ z ∷ []))) ≡ true = sym (ends_same (n ++ z ∷ [])) ∙ is_there in kid_same i (n ++ z ∷ []) e ∙ piece_none i q o (n ++ z ∷ []) (ended_there (n ++ z ∷ []) e))
        (unit_of monoid_of i) (unit_of monoid_of Output) (stolen_at_block code p inputs name b' s' n ds') r.run r.waits refl (λ v at. g.bare v at (kind_of i) q o.3) (λ z a at v has. g.bare_later z a v at has (kind_of i) q o.3)
        (lays_old Output (record { frame = 0; place = 0 }) (refl, refl))) (split_instance i q is);
    stolen = g.stolen ∙ ap greatest (sym flags);
    arrived = g.arrived;
    bare = λ run at. bare_more run (g.bare run at);
    bare_later = λ q a run at has. bare_more run (g.bare_later q a run at has);
  }
    where
      either : {A : Type 0} (c : Bool) (u v : A) {z : A} → u ≡ z → v ≡ z → cond c u v ≡ z
      either true u v f e = f
      either false u v f e = e

      own_same : (i : Instance) → s'.piece n i ≡ s.piece n i
      own_same i = piece_off i n (λ e. there (λ l less q. kid_absent l less (q ∙ sym e)))

      lays_old : (i : Instance) (q : numbered.Instance) → IsInstance p old_frame_states name i q → let r = j.row in
          Lays (kind_of i) (λ z. s'.piece (n ++ z ∷ []) i) (is_there code p inputs name b' s' n) (cond j.closed (s'.piece n i) (unit_of monoid_of i)) (unit_of monoid_of i) (stolen_at_block code p inputs name b' s' n ds') (run_at (kind_of i) q r.run) (waits_at (kind_of i) q r.waits)
      lays_old i q is =
          let r = j.row in
          subst (λ ks. Lays (kind_of i) (λ z. s'.piece (n ++ z ∷ []) i) (is_there code p inputs name b' s' n) (cond j.closed (s'.piece n i) (unit_of monoid_of i)) (unit_of monoid_of i) ks (run_at (kind_of i) q r.run) (waits_at (kind_of i) q r.waits)) (sym flags)
          (lays_same (kind_of i) (λ z. s.piece (n ++ z ∷ []) i) (λ z. s'.piece (n ++ z ∷ []) i) (is_there code p inputs name b s n) (is_there code p inputs name b' s' n) (cond j.closed (s.piece n i) (unit_of monoid_of i)) (cond j.closed (s'.piece n i) (unit_of monoid_of i))
          (λ z. ends_same (n ++ z ∷ [])) (λ z there. kid_same i (n ++ z ∷ []) there) (ap (λ v. cond j.closed v (unit_of monoid_of i)) (own_same i)) (unit_of monoid_of i) (stolen_at_block code p inputs name b s n ds) (run_at (kind_of i) q r.run) (waits_at (kind_of i) q r.waits) (g.lays i q is))

  block_on : (n : Name) (ds ds' : List (Deed FrameEnv)) (x x' : FrameState) → (IsAbsent old_frame_states name n → ⊥) → x'.join ≡ x.join → x'.merged ≡ x.merged → (x.status ≡ Waiting → x'.status ≡ Waiting) → stolen_at_block code p inputs name b' s' n ds' ≡ stolen_at_block code p inputs name b s n ds
      → HasBlock code p inputs name b s n ds x → HasBlock code p inputs name b' s' n ds' x'
  block_on n ds ds' x x' there join merged waits flags (inl g) = inl (join ∙ g.0, flags ∙ g.1, merged ∙ g.2)
  block_on n ds ds' x x' there join merged waits flags (inr g) =
      let l = g.0 in
      inr (g.0, join ∙ g.1, ⊎_elim (λ z. inl (merged ∙ z)) (λ z. inr (keeps_on n ds ds' (shown l.value) there flags z.0, (λ q. waits (z.1 q)))) g.2)

  -- ---- where frames are

  over_on : (n : Name) → (name k ≡ n → ⊥) → (kid ≡ n → ⊥) → BlockIsOver s n → BlockIsOver s' n
  over_on n ne ne' g = subst (λ f. BlockHasEnded FrameEnv View s' n (deeds_at f)) (sym (else_at n ne ne')) (carries.block_on s s' (λ z e. ends_same z ∙ e) n (deeds_at (s.frames n)) g)

  over_back : (n : Name) → (name k ≡ n → ⊥) → (kid ≡ n → ⊥) → BlockIsOver s' n → BlockIsOver s n
  over_back n ne ne' g = carries.block_on s' s (λ z e. sym (ends_same z) ∙ e) n (deeds_at (s.frames n)) (subst (λ f. BlockHasEnded FrameEnv View s' n (deeds_at f)) (else_at n ne ne') g)

  stolen_on : (n : Name) (q : ℕ) → s.stolen (n ++ q ∷ []) ≡ true → s'.stolen (n ++ q ∷ []) ≡ true
  stolen_on n q is = ap (λ l. l (n ++ q ∷ [])) m.stolen ∙ is

  -- ---- workers

  worker_on : (v : ℕ) (u : Worker) → slice_get old_workers v ≡ Some u → (u' : Worker) × (slice_get new_workers v ≡ Some u') × altering.Then (λ _. t.worker) w v u u'
  worker_on v u at = let q = altering.altered_on (λ _. t.worker) old_workers w v u at in (q.0, ap (λ l. slice_get l v) t.workers ∙ q.1, q.2)

  worker_was : (v : ℕ) (u' : Worker) → slice_get new_workers v ≡ Some u' → (u : Worker) × (slice_get old_workers v ≡ Some u) × altering.Then (λ _. t.worker) w v u u'
  worker_was v u' at = altering.altered_from (λ _. t.worker) old_workers w v u' (sym (ap (λ l. slice_get l v) t.workers) ∙ at)

  is_worker : (v : ℕ) (u : Worker) → slice_get old_workers v ≡ Some u → w ≡ v → u ≡ h.worker
  is_worker v u at e = let q : Some u ≡ Some h.worker = sym at ∙ ap (λ i. slice_get old_workers i) (sym e) ∙ h.at in cc

  -- its worker had the frame alone
  own_worker : (v j : ℕ) (u : Worker) → slice_get old_workers v ≡ Some u → u.frame ≡ Some j → w ≡ v → k ≡ j
  own_worker v j u at has e = let z : Some k ≡ Some j = sym h.has ∙ ap (λ (y : Worker). y.frame) (sym (is_worker v u at e)) ∙ has in cc

  worker_now : slice_get new_workers w ≡ Some t.worker
  worker_now = let r = worker_on w h.worker h.at in ap (λ l. slice_get l w) (refl) ∙ r.1 ∙ ⊎_elim (λ g. ap (λ u. Some u) g.1) (λ g. absurd (g.0 refl)) r.2

  offers_on : (v : ℕ) (u u' : Worker) → slice_get old_workers v ≡ Some u → altering.Then (λ _. t.worker) w v u u' → (q j : ℕ) → (let o = u.offered in slice_get o.items q ≡ Some j) → let o = u'.offered in slice_get o.items q ≡ Some j
  offers_on v u u' at z q j has =
      ⊎_elim (λ g.
      let y = h.worker in
      let o = y.offered in
      ap (λ (a : Worker). let f = a.offered in slice_get f.items q) g.1 ∙ ap (λ (l : List ℕ). slice_get l q) t.offers ∙ still_offered how k o.items q j (ap (λ (a : Worker). let f = a.offered in slice_get f.items q) (sym (is_worker v u at g.0)) ∙ has))
      (λ g. ap (λ (a : Worker). let f = a.offered in slice_get f.items q) g.1 ∙ has) z

  -- what is offered was, or is the frame's continuation
  offers_back : (v : ℕ) (u u' : Worker) → slice_get old_workers v ≡ Some u → altering.Then (λ _. t.worker) w v u u' → (q j : ℕ) → (let o = u'.offered in slice_get o.items q ≡ Some j)
      → (let o = u.offered in slice_get o.items q ≡ Some j) ⊎ ((w ≡ v) × (how ≡ Spawn) × (let o = u.offered in q ≡ length o.items) × (k ≡ j))
  offers_back v u u' at z q j has =
      ⊎_elim (λ g.
      let y = h.worker in
      let o = y.offered in
      let is = is_worker v u at g.0 in
      ⊎_elim (λ e. inl (ap (λ (a : Worker). let f = a.offered in slice_get f.items q) is ∙ e)) (λ e. inr (g.0, e.0, e.1 ∙ ap (λ (a : Worker). let f = a.offered in length f.items) (sym is), e.2))
      (was_offered how k o.items q j (ap (λ (l : List ℕ). slice_get l q) (sym t.offers) ∙ ap (λ (a : Worker). let f = a.offered in slice_get f.items q) (sym g.1) ∙ has)))
      (λ g. inl (ap (λ (a : Worker). let f = a.offered in slice_get f.items q) (sym g.1) ∙ has)) z

  where_else : (j : ℕ) (n : Name) (ds : List (Deed FrameEnv)) (x : FrameState) (z : Status) → (k ≡ j → ⊥) → (name k ≡ n → ⊥) → (kid ≡ n → ⊥) → IsWhere code p inputs name b s j n ds x z → IsWhere code p inputs name b' s' j n ds x z
  where_else j n ds x (Held v) off ne ne' g =
      let r = worker_on v g.0 g.1 in
      (r.0, r.1, ⊎_elim (λ y. absurd (off (own_worker v j g.0 g.1 g.2 y.0))) (λ y. ap (λ (u : Worker). u.frame) y.1 ∙ g.2) r.2, carries.goes_on s s' (λ z e. ends_same z ∙ e) n (stolen_on n) ds g.3, g.4, (λ y. let q = g.5 y in (q.0, over_on n ne ne' q.1)), g.6)
  where_else j n ds x Calling off ne ne' g = (g.0, g.1, g.2, ends_same (n ++ started ds ∷ []) ∙ g.3, g.4, g.5, g.6)
  where_else j n ds x (Offered v) off ne ne' g =
      let r = worker_on v g.6 g.7 in
      (g.0, g.1, g.2, ends_same (n ++ started ds ∷ []) ∙ g.3, ap (λ l. l (n ++ started ds ∷ [])) m.stolen ∙ g.4, g.5, r.0, r.1, g.8, offers_on v g.6 r.0 g.7 r.2 g.8 j g.9, g.10, g.11)
  where_else j n ds x Waiting off ne ne' g = (g.0, g.1, g.2, g.3, (λ y. g.4 (over_back n ne ne' y)), carries.goes_on s s' (λ z e. ends_same z ∙ e) n (stolen_on n) ds g.5, g.6, g.7)
  where_else j n ds x Finished off ne ne' g = g

  -- ---- the journal

  abbrev entries : List JournalEntry
  entries = let l = b.journal in l.items

  abbrev event : numbered_event.Event
  event = invocation how (suc (let f = b.frames in length f.items))

  written_else : (j : ℕ) → (k ≡ j → ⊥) → (let l = b'.journal in events_of j l.items) ≡ events_of j entries
  written_else j ne =
      ap (λ l. events_of j l) t.journal ∙ events_more j entries (record { frame = k; event = event })
      ∙ ap (λ c. cond c (events_of j entries ++ event ∷ []) (events_of j entries)) (⊎_elim (λ q. absurd (ne (eqb-true k j q))) (λ f. f) (cases_Bool (nat_eq k j)))

  written_here : (let l = b'.journal in events_of k l.items) ≡ events_of k entries ++ event ∷ []
  written_here = ap (λ l. events_of k l) t.journal ∙ events_more k entries (record { frame = k; event = event }) ∙ ap (λ c. cond c (events_of k entries ++ event ∷ []) (events_of k entries)) (eq-eqb k k refl)

  event_is : (c : Invocation) → IsDeed p new_frame_states name s' k (Invokes c child_is) (invocation c (suc last))
  event_is Call = (last, last_low, last_name ∙ ap (λ n. n ++ suc (started past) ∷ []) (let o = sh.sits k h.frame_state h.sits in sym o.named), refl)
  event_is Spawn = (last, last_low, last_name ∙ ap (λ n. n ++ suc (started past) ∷ []) (let o = sh.sits k h.frame_state h.sits in sym o.named), refl)

  -- ---- frame states

  there_at : (j : ℕ) → j < last → IsAbsent old_frame_states name (name j) → ⊥
  there_at j less none = none j less refl

  other : (j : ℕ) (a : Activation FrameState) → (k ≡ j → ⊥) → slice_get old_frame_states j ≡ Some a → Sits code p inputs name b s j a → Sits code p inputs name b' s' j a
  other j a off at o =
      let x = a.cursor in
      let f = o.frame in
      let lower = get_low old_frame_states j a at in
      let ne = names_differ k j low lower off in
      let ne' = kid_apart j lower in record {
        frame = o.frame;
        here = else_at (name j) ne ne' ∙ o.here;
        named = o.named;
        number = o.number;
        seen = carries.seen_on code p inputs name b b' s s' on sizes a x f.what o.seen;
        creates = o.creates;
        creates_none = o.creates_none;
        stolen = ap (λ l. l (name j)) m.stolen ∙ o.stolen;
        children = o.children;
        last = λ some. let r = o.last some in let e = one_more in let v = r.0 in (omega (arith, v, e), r.1);
        strands_are = o.strands_are;
        counted = o.counted;
        due = o.due;
        is_where = where_else j (name j) f.deeds x x.status off ne ne' o.is_where;
        block = λ lasts. block_on (name j) f.deeds f.deeds x x (there_at j lower) refl refl (λ q. q) (flags_same (name j) f.deeds) (o.block lasts);
        written = subst (λ es. AreDeeds p new_frame_states name s' j f.deeds es) (sym (written_else j off)) (carries.deeds_on old_frame_states new_frame_states on name p s s' sizes j f.deeds (events_of j entries) o.written);
      }

  -- ---- the frame that starts it

  not_there : is_there code p inputs name b' s' (name k) (started longer_past) ≡ false
  not_there = ap (λ q. has_ended (deeds_at (s'.frames (name k ++ q ∷ [])))) (started_invokes past how child_is) ∙ ap (λ f. has_ended (deeds_at f)) kid_at

  unstolen_kid : s.stolen kid ≡ false
  unstolen_kid = sh.unstolen kid kid_absent

  where_left : (c : Invocation) → how ≡ c → IsWhere code p inputs name b' s' k (name k) longer_past left (left_at c w)
  where_left Call q = (past, child_is, ap (λ c. past ++ Invokes c child_is ∷ []) q, not_there, unmerged, ended_more past deed going, (λ z. let y : due.Answer Done ≡ due.Sync = z in cc))
  where_left Spawn q =
      let u = h.worker in
      let o = u.offered in (
        past,
        child_is,
        ap (λ c. past ++ Invokes c child_is ∷ []) q,
        not_there,
        ap (λ z. s'.stolen (name k ++ z ∷ [])) (started_invokes past how child_is) ∙ ap (λ l. l kid) m.stolen ∙ unstolen_kid,
        unmerged,
        t.worker,
        worker_now,
        length o.items,
        ap (λ (l : List ℕ). slice_get l (length o.items)) (t.offers ∙ ap (λ c. offering c k o.items) q) ∙ last_there o.items k,
        ended_more past deed going,
        (λ z. let y : due.Answer Done ≡ due.Sync = z in cc),
      )

  due_left : (c : CursorView) × (came.cursor ≡ Some c) × IsTold code p inputs what longer_past c Done came.took
  due_left =
      let o = sh.sits k h.frame_state h.sits in
      let dues = o.due going in
      let z = stepped.standing code p inputs what past frame_state came dues.0 (asks.Invoke how callee) frame_state.due going dues.1 dues.2 h.went in
      (z.cursor, z.is, record { past = past; last = deed; deeds_are = refl; stands = z.stands tt; fits = subst (λ o. Fits o Done) (sym (z.owes tt)) tt; answers = refl; took_is = named_as.1; small = z.small })

  itself : Sits code p inputs name b' s' k now
  itself =
      let o = sh.sits k h.frame_state h.sits in
      let n = o.children in
      let e = started_invokes past how child_is in record {
        frame = record frame { deeds = longer_past };
        here = here_at;
        named = o.named;
        number = o.number;
        seen = carries.seen_on code p inputs name b b' s s' on sizes h.frame_state left what o.seen;
        creates = o.creates;
        creates_none = o.creates_none;
        stolen = ap (λ l. l (name k)) m.stolen ∙ o.stolen;
        children = omega (arith, n, e);
        last = λ some. (last_low, last_name ∙ ap (λ q. name k ++ q ∷ []) (let z : suc (started past) ≡ frame_state.children + 1 = omega (arith, n) in z));
        strands_are = strands_child past how child_is ∙ o.strands_are;
        counted = named_as.1 ∙ ap (taken p inputs what) (sym (but_last_more past deed));
        due = λ lasts. due_left;
        is_where = where_left how refl;
        block = λ lasts. block_on (name k) past longer_past frame_state left (there_at k low) refl refl (λ q. let z : Held w ≡ Waiting = sym status_was ∙ q in let f : ⊥ = cc in absurd f)
            (flags_same (name k) longer_past ∙ stolen_child (λ q. s.stolen (name k ++ q ∷ [])) 1 [] past how child_is (ap (λ q. s.stolen (name k ++ q ∷ [])) (let z : 1 + started past ≡ suc (started past) = omega arith in z) ∙ unstolen_kid)) (o.block going);
        written = subst (λ es. AreDeeds p new_frame_states name s' k longer_past es) (sym written_here)
            (deeds_more p new_frame_states name s' k past (events_of k entries) deed event (carries.deeds_on old_frame_states new_frame_states on name p s s' sizes k past (events_of k entries) o.written) (event_is how));
      }

  frame_states_sit : (j : ℕ) (a : Activation FrameState) → slice_get new_frame_states j ≡ Some a → Sits code p inputs name b' s' j a
  frame_states_sit j a at = by (which j a at)
    where
      by : Which j a → Sits code p inputs name b' s' j a
      by (parent_is same is) = subst (λ i. Sits code p inputs name b' s' i a) same (subst (λ z. Sits code p inputs name b' s' k z) is itself)
      by (new_is same is) = subst (λ i. Sits code p inputs name b' s' i a) same (subst (λ z. Sits code p inputs name b' s' last z) is child_sits)
      by (stays ne at') = other j a ne at' (sh.sits j a at')

  -- ---- workers

  came_children : came.children ≡ frame_state.children
  came_children = ap (λ (y : FrameState). y.children) (stepped.kept code p inputs name b d s w k (asks.Invoke how callee) lays sh h no_sync)

  child_frame_state : (c : CursorView) × ((let a = t.child in a.cursor) ≡ seated k (came.children + 1) how w c)
  child_frame_state = let i = t.is_child in let a = h.frame_state in (i.cursor, i.frame_state (record a { cursor = came }) (changed_here (λ _. came) old_frame_states k h.frame_state h.sits))

  abbrev child_merged : Bool
  child_merged = let a = t.child in let y = a.cursor in y.merged

  carried_child : (i : Instance) → carried (monoid_of i) (λ z. s'.piece z i) s'.stolen (name last) (deeds_at (s'.frames (name last))) child_merged ≡ s.piece (name k) i
  carried_child i =
      ap (λ n. carried (monoid_of i) (λ z. s'.piece z i) s'.stolen n (deeds_at (s'.frames n)) child_merged) last_name
      ∙ ap (λ f. carried (monoid_of i) (λ z. s'.piece z i) s'.stolen kid (deeds_at f) child_merged) kid_at
      ∙ plain {W = FrameEnv} (monoid_of i) (λ z. s'.piece z i) s'.stolen kid [] child_merged (let c = child_frame_state in ap (λ (y : FrameState). y.merged) c.1) refl
      ∙ piece_kid i

  unit_view : (i : Instance) (j : numbered.Instance) (u : Worker) (v : View) → IsKids i j → IsBare last (value_in u.views) → v ≡ (views_of (kind_of i)).unit → IsViewOf (kind_of i) v (value_in u.views (kind_of i) j)
  unit_view i j u v g bare e =
      let a = are_multiplied in
      subst (λ z. IsViewOf (kind_of i) z (value_in u.views (kind_of i) j)) (sym e) (subst (λ z. IsViewOf (kind_of i) ((views_of (kind_of i)).unit) z) (sym (bare (kind_of i) j g.3)) (a.unit (kind_of i)))

  holds_child : Holds code p inputs name b' s' w t.worker last
  holds_child =
      let u = h.worker in
      let v = t.worker in
      let c = child_frame_state in
      let bare = stepped.bare_now code p inputs name b d s w k (asks.Invoke how callee) lays sh h no_sync in record {
        frame_state = t.child;
        here = child_at;
        held = ap (λ (y : FrameState). y.status) c.1;
        views = λ i j is.
            subst (λ x. IsViewOf (kind_of i) x (value_in v.views (kind_of i) j)) (sym (carried_child i)) (subst (λ x. IsViewOf (kind_of i) (s.piece (name k) i) (value_in x (kind_of i) j)) (sym t.views)
            (⊎_elim (λ o. ready.own_views code p inputs name b d s w k (asks.Invoke how callee) lays sh h no_sync calm i j o) (λ o. unit_view i j u (s.piece (name k) i) o bare (piece_none i j o (name k) (there_at k low))) (split_instance i j is)));
        used = λ q g.
            absurd (unused {W = FrameEnv} s'.stolen kid [] child_merged q (ap (λ (y : FrameState). y.merged) c.1) refl (subst (λ f. IsUsed s'.stolen kid (deeds_at f) child_merged q) kid_at (subst (λ n. IsUsed s'.stolen n (deeds_at (s'.frames n)) child_merged q) last_name g)));
        bare = subst (λ x. IsBare (length new_frame_states) (value_in x)) (sym t.views) (bare_more (value_in u.views) bare);
      }

  holds_else : (v j : ℕ) (u : Worker) → (k ≡ j → ⊥) → Holds code p inputs name b s v u j → Holds code p inputs name b' s' v u j
  holds_else v j u off g =
      let x = (let a = g.frame_state in a.cursor) in
      let lower = get_low old_frame_states j g.frame_state g.here in
      let ne = names_differ k j low lower off in
      let ne' = kid_apart j lower in record {
        frame_state = g.frame_state;
        here = old_at j g.frame_state off g.here;
        held = g.held;
        views = λ i q is.
            let same : carried (monoid_of i) (λ z. s'.piece z i) s'.stolen (name j) (deeds_at (s'.frames (name j))) x.merged ≡ carried (monoid_of i) (λ z. s.piece z i) s.stolen (name j) (deeds_at (s.frames (name j))) x.merged =
            ap (λ f. carried (monoid_of i) (λ z. s'.piece z i) s'.stolen (name j) (deeds_at f) x.merged) (else_at (name j) ne ne')
            ∙ carried_ext (monoid_of i) (λ z. s.piece z i) (λ z. s'.piece z i) s.stolen s'.stolen (name j) (deeds_at (s.frames (name j))) x.merged (piece_off i (name j) ne') (λ z. ap (λ l. l (name j ++ z ∷ [])) m.stolen)
            (λ z there. kid_same i (name j ++ z ∷ []) (g.used z there)) in
            subst (λ z. IsViewOf (kind_of i) z (value_in u.views (kind_of i) q)) (sym same)
            (⊎_elim (λ o. g.views i q o)
            (λ o. unit_view i q u (carried (monoid_of i) (λ z. s.piece z i) s.stolen (name j) (deeds_at (s.frames (name j))) x.merged) o g.bare
            (carried_unit (kind_of i) (λ z. s.piece z i) s.stolen (name j) (deeds_at (s.frames (name j))) x.merged (piece_none i q o (name j) (there_at j lower)) (λ z there. piece_none i q o (name j ++ z ∷ []) (ended_there (name j ++ z ∷ []) (g.used z there))))) (split_instance i q is));
        used = λ q is. ends_same (name j ++ q ∷ []) ∙ g.used q (subst (λ l. IsUsed l (name j) (deeds_at (s.frames (name j))) x.merged q) m.stolen (subst (λ f. IsUsed s'.stolen (name j) (deeds_at f) x.merged q) (else_at (name j) ne ne') is));
        bare = bare_more (value_in u.views) g.bare;
      }

  still_holds : (v j : ℕ) (u : Worker) → slice_get new_workers v ≡ Some u → u.frame ≡ Some j → Holds code p inputs name b' s' v u j
  still_holds v j u at has =
      let r = worker_was v u at in
      ⊎_elim (λ g. let is : last ≡ j = (let z : Some last ≡ Some j = sym t.has ∙ ap (λ (y : Worker). y.frame) (sym g.1) ∙ has in cc) in
      subst (λ i. Holds code p inputs name b' s' v u i) is (subst (λ z. Holds code p inputs name b' s' v z last) (sym g.1) (subst (λ i. Holds code p inputs name b' s' i t.worker last) g.0 holds_child)))
      (λ g. let is : slice_get old_workers v ≡ Some u = r.1 ∙ ap (λ z. Some z) (sym g.1) in let o = sh.holds v j u is has in
      holds_else v j u (λ e. g.0 (one_holder v j u e o)) o) r.2
    where
      one_holder : (v j : ℕ) (u : Worker) → k ≡ j → Holds code p inputs name b s v u j → w ≡ v
      one_holder v j u e o =
          let y : Some h.frame_state ≡ Some o.frame_state = sym h.sits ∙ ap (λ i. slice_get old_frame_states i) e ∙ o.here in
          let x : h.frame_state ≡ o.frame_state = cc in
          let z : Held w ≡ Held v = sym status_was ∙ ap (λ (a : Activation FrameState). let c = a.cursor in c.status) x ∙ o.held in
          cc

  -- ---- the worker table

  abbrev pub worker_table_now : WorkerTable
  worker_table_now = record { hands = set d.hands w (Some kid); offered = offers_by how d.offered w (name k); waiting = d.waiting }

  not_offered : (v : ℕ) (j : ℕ) (a : Activation FrameState) → slice_get old_frame_states j ≡ Some a → (let x = a.cursor in x.status ≡ Offered v) → k ≡ j → ⊥
  not_offered v j a at is e =
      let y : Some h.frame_state ≡ Some a = sym h.sits ∙ ap (λ i. slice_get old_frame_states i) e ∙ at in
      let x : h.frame_state ≡ a = cc in
      let z : Held w ≡ Offered v = sym status_was ∙ ap (λ (a : Activation FrameState). let c = a.cursor in c.status) x ∙ is in
      cc

  waits_as : (j : ℕ) (a : Activation FrameState) → slice_get new_frame_states j ≡ Some a → ((let x = a.cursor in x.status ≡ Waiting) → IsIn (name j) d.waiting) × (IsIn (name j) d.waiting → let x = a.cursor in x.status ≡ Waiting)
  waits_as j a at = by (which j a at)
    where
      by : Which j a → ((let x = a.cursor in x.status ≡ Waiting) → IsIn (name j) d.waiting) × (IsIn (name j) d.waiting → let x = a.cursor in x.status ≡ Waiting)
      by (parent_is same is) = (
        (λ q. absurd (not_waiting how w (ap (λ (y : Activation FrameState). let x = y.cursor in x.status) is ∙ q))),
        (λ q. let o = sh.worker_table in let g = o.waiting k h.frame_state h.sits in let z : Held w ≡ Waiting = sym status_was ∙ g.1 (subst (λ i. IsIn (name i) d.waiting) (sym same) q) in let f : ⊥ = cc in absurd f),
      )
      by (new_is same is) = (
        (λ q. let c = child_frame_state in let z : Held w ≡ Waiting = sym (ap (λ (y : FrameState). y.status) c.1) ∙ ap (λ (y : Activation FrameState). let x = y.cursor in x.status) is ∙ q in let f : ⊥ = cc in absurd f),
        (λ q. let o = sh.worker_table in absurd (o.present kid (subst (λ n. IsIn n d.waiting) last_name (subst (λ i. IsIn (name i) d.waiting) (sym same) q)) kid_absent)),
      )
      by (stays ne at') = let o = sh.worker_table in o.waiting j a at'

  offers_now : (c : Invocation) → how ≡ c → offers_by c d.offered w (name k) ≡ map (offers_of name) new_workers
  offers_now Call q =
      let o = sh.worker_table in
      let u = h.worker in
      let f = u.offered in
      o.offered ∙ sym (altering.altered_map_at (λ _. t.worker) (offers_of name) old_workers w h.worker h.at (ap (λ l. map name l) (t.offers ∙ ap (λ c. offering c k f.items) q))) ∙ ap (λ ws. map (offers_of name) ws) (sym t.workers)
  offers_now Spawn q =
      let o = sh.worker_table in
      let u = h.worker in
      let f = u.offered in
      ap (λ ls. newest_of ls w (name k)) o.offered
      ∙ newest_is name (name k) t.worker old_workers w h.worker h.at (ap (λ l. map name l) (t.offers ∙ ap (λ c. offering c k f.items) q) ∙ map-append name f.items (k ∷ []))
      ∙ ap (λ ws. map (offers_of name) ws) (sym t.workers)

  abbrev count : Worker → ℕ
  count u = let o = u.offered in length o.items

  total_now : b'.offered ≡ sum (map count new_workers)
  total_now =
      let o = sh.worker_table in
      let u = h.worker in
      let f = u.offered in
      t.offered ∙ ap (λ n. n + newly_offered how) o.total
      ∙ sym (sum_more count (λ _. t.worker) old_workers w h.worker (newly_offered how) h.at (ap (λ (l : List ℕ). length l) t.offers ∙ offered_length how k f.items)) ∙ ap (λ ws. sum (map count ws)) (sym t.workers)

  worker_table_is : IsWorkerTable code p inputs name b' worker_table_now
  worker_table_is =
      let o = sh.worker_table in record {
        hands = ap (λ hs. set hs w (Some kid)) o.hands ∙ sym (altering.altered_set (λ _. t.worker) (hand_of name) (Some kid) old_workers w (λ u. ap (λ f. option_map name f) t.has ∙ ap (λ n. Some n) last_name))
            ∙ ap (λ ws. map (hand_of name) ws) (sym t.workers);
        offered = offers_now how refl;
        total = total_now;
        places = λ v q j u at has.
            let r = worker_was v u at in
            ⊎_elim (λ g. let z = o.places v q j r.0 r.1 g in (z.0, old_at j z.0 (not_offered v j z.0 z.1 z.2) z.1, z.2))
            (λ g. (now, ap (λ i. slice_get new_frame_states i) (sym g.3) ∙ now_at, ap (λ c. left_at c w) g.1 ∙ ap (λ n. Offered n) g.0)) (offers_back v r.0 u r.1 r.2 q j has);
        once = λ v q i j u at has also.
            let r = worker_was v u at in
            let off = (λ (z : ℕ) (e : (let f = (let y = r.0 in y.offered) in slice_get f.items z ≡ Some j)). (let y = o.places v z j r.0 r.1 e in not_offered v j y.0 y.1 y.2)) in
            ⊎_elim (λ g. ⊎_elim (λ e. o.once v q i j r.0 r.1 g e) (λ e. absurd (off q g e.3)) (offers_back v r.0 u r.1 r.2 i j also))
            (λ g. ⊎_elim (λ e. absurd (off i e g.3)) (λ e. g.2 ∙ sym e.2) (offers_back v r.0 u r.1 r.2 i j also)) (offers_back v r.0 u r.1 r.2 q j has);
        waiting = waits_as;
        present = λ n is none. o.present n is (absent_back n none);
      }

  -- ---- cells

  abbrev cells : List ℤ
  cells = let c = b.cells in c.items

  abbrev new_cells : List ℤ
  new_cells = let c = b'.cells in c.items

  cells_are : new_cells ≡ cells ++ replicate (cells_of p callee) (pos 0)
  cells_are = t.cells ∙ ap (λ n. cells ++ replicate n (pos 0)) (lays.cells callee)

  child_base : (let a = t.child in a.base) ≡ length cells
  child_base = let i = t.is_child in i.base_is

  -- ---- what is shown

  named_now : AreNamed new_frame_states name
  named_now =
      let c = child_frame_state in
      let o = sh.sits k h.frame_state h.sits in
      named_more old_frame_states new_frame_states name t.child k (started past) named low one_more was_started (ap (λ (y : FrameState). y.parent) c.1) (ap (λ (y : FrameState). y.ordinal) c.1 ∙ sym ordinal_is) last_name kid_absent
      (all_started code p inputs name b s sh.tells counts k h.frame_state h.sits frame here o.children o.last)
    where
      ordinal_is : suc (started past) ≡ came.children + 1
      ordinal_is = let o = sh.sits k h.frame_state h.sits in let n = o.children in let e = came_children in omega (arith, n, e)

      was_started : (j : ℕ) (a : Activation FrameState) → slice_get new_frame_states j ≡ Some a → WasStarted old_frame_states j a ⊎ ((last ≡ j) × (t.child ≡ a))
      was_started j a at = by (which j a at)
        where
          by : Which j a → WasStarted old_frame_states j a ⊎ ((last ≡ j) × (t.child ≡ a))
          by (parent_is same is) =
              inl (
              record {
                frame_state = h.frame_state;
                at = ap (λ i. slice_get old_frame_states i) (sym same) ∙ h.sits;
                parent = ap (λ (z : Activation FrameState). let y = z.cursor in y.parent) (sym is);
                ordinal = ap (λ (z : Activation FrameState). let y = z.cursor in y.ordinal) (sym is);
              }
              )
          by (new_is same is) = inr (same, is)
          by (stays ne at') = inl (record { frame_state = a; at = at'; parent = refl; ordinal = refl })

  grows : Grows p name old_frame_states new_frame_states cells new_cells s s'
  grows =
      grown p name old_frame_states new_frame_states t.child cells new_cells s s' kid (cells_of p callee) base_was one_more last_name kid_absent size_off size_kid child_base cells_are memory_same (λ q. sh.unwritten kid q kid_absent) sh.memory (let o = sh.tells in o.ascend) sh.within

  tells_is : Tells code p inputs name b' s'
  tells_is =
      let o = sh.tells in record {
        named = named_now;
        here = λ j a at. let z = frame_states_sit j a at in (z.frame, z.here, z.written);
        absent = λ n none. else_at n (λ q. absent_back n none k low q) (λ q. none last last_low (last_name ∙ q)) ∙ o.absent n (absent_back n none);
        joins = λ n q. ap (λ l. times (n ++ q ∷ []) l) (m.joins ∙ ap₂ (λ a (f : Frame FrameEnv). joined_by a (name k) f.deeds ++ s.joins) ask_is frame_is) ∙ o.joins n q ∙ forked.joined_same p s s' (name k) frame how child_is here fresh going made n q;
        going = λ z g. o.going h.was_open (forked.end_before p s s' (name k) frame how child_is here fresh going made [] g);
        over = λ z at. let no : None ≡ Some z = sym h.was_open ∙ sym t.outcome ∙ at in let f : ⊥ = cc in absurd f;
        first = λ a at. ⊎_elim (λ f. subst (λ z. length p.openings ≤ z) (sym f.2) (o.first f.0 f.1)) (λ f. let l = low in let is = f.0 in absurd (omega (arith, l, is))) (base_was 0 a at);
        ascend = let g = grows in g.ascend;
      }

  -- ---- the whole

  bare_by : (n z : Name) (q : ℕ) (kind : MonoidKind) → IsAbsent old_frame_states name n → (IsAbsent new_frame_states name z → ⊥) → (c : Bool) → same_name kid z ≡ c → s'.piece z (Reducer n q kind) ≡ unit_of monoid_of (Reducer n q kind)
  bare_by n z q kind none there true is = ap (λ v. s'.piece v (Reducer n q kind)) (sym (same_name-eq kid z is)) ∙ piece_kid (Reducer n q kind) ∙ sh.bare n (name k) q kind none (there_at k low)
  bare_by n z q kind none there false is = piece_off (Reducer n q kind) z (off_by kid z is) ∙ sh.bare n z q kind none (λ g. there (absent_on z (off_by kid z is) g))

  pub shown_then : ShowsBy code p inputs name b' worker_table_now s'
  shown_then =
      let fine = no_fault_then (costs p inputs) s.totals what past (Invoke how child_is) (stepped.no_fault code p inputs name b d s w k (asks.Invoke how callee) lays sh h no_sync) in record {
        tells = tells_is;
        running = m.stopped ∙ sh.running;
        sits = frame_states_sit;
        unstolen = λ n none. ap (λ l. l n) m.stolen ∙ sh.unstolen n (absent_back n none);
        unwritten = λ n q none. memory_same (Own n q) ∙ sh.unwritten n q (absent_back n none);
        bare = λ n z q kind none there. bare_by n z q kind (absent_back n none) there (same_name kid z) refl;
        memory = let g = grows in g.memory;
        within = let g = grows in g.within;
        holds = still_holds;
        worker_table = worker_table_is;
        ticks = total_at TickTotal ∙ sym (stepped.spent_is code p inputs name b d s w k (asks.Invoke how callee) lays sh h no_sync) ∙ sym t.ticks;
        events = total_at EventTotal ∙ ap (λ n. n + 1) sh.events ∙ sym (ap (λ (l : List JournalEntry). length l) t.journal ∙ length_more entries (record { frame = k; event = event }));
        frames = let e = one_more in let n = total_at FrameTotal in let f = sh.frames in omega (arith, e, n, f);
        cells = total_at CellTotal ∙ ap (λ n. n + cells_of p callee) sh.cells ∙ sym (ap (λ (l : List ℤ). length l) cells_are ∙ cells_length cells (cells_of p callee));
        few_frames = subst (λ n. n ≤ MAX_FRAMES) (sym (total_at FrameTotal)) (fine.1 FrameTotal);
        few_cells = subst (λ n. n ≤ MAX_CELLS) (sym (total_at CellTotal)) (fine.1 CellTotal);
        eventless = λ j far. let l = low in let e = one_more in written_else j (λ q. omega (arith, l, e, far, q)) ∙ sh.eventless j (omega (arith, e, far));
      }

  pub settles : Chooses p inputs s d (Run (suc w)) Did s' worker_table_now
  settles =
      does w (name k) s' worker_table_now (stepped.hand_is code p inputs name b d s w k (asks.Invoke how callee) lays sh h no_sync) m
      (subst (λ (f : Frame FrameEnv). Settles s' d w (name k) f.deeds m.ask worker_table_now) (sym frame_is) (subst (λ a. Settles s' d w (name k) past a worker_table_now) (sym ask_is) (by how)))
    where
      by : (c : Invocation) → Settles s' d w (name k) past (Invoke c child_is) (record { hands = set d.hands w (Some kid); offered = offers_by c d.offered w (name k); waiting = d.waiting })
      by Call = calls child_is
      by Spawn = spawns child_is
