-- Choices that stop the run, and those that can't be made.
--
-- - `tellings_stay`: what a scheduler shows stays;
-- - `sync_named`, `asking`: a frame whose next ask is refused;
-- - `stops_are_shown`: a fault in place of an event;
-- - `blocks_are_over`: a sync that need not wait;
-- - `skips_are_shown`: choices that can't be made.
use Rattle.std.proofs.Common.{◌≡◌, inl, inr, ⊎_elim, ◌+◌, ◌-◌, ◌<◌, ◌≤◌, ℕ, zero, suc, Bool, true, false, true≢false, cond, if◌then◌else◌, ℤ, List, [], ◌∷◌, ◌++◌, length, map, slice_get, sum, Option, Some, None, refl, sym, ap, ap₂, ◌∙◌, subst, arith, length-append}
use Rattle.std.specs.Option.{is_some, option_map}
use Rattle.std.proofs.lemmas.Bool.{cases_lt, ltb-false, ltb-true}
use Rattle.std.proofs.lemmas.List.Sums.{sum_by-cons}
use Rattle.std.proofs.lemmas.Option.{slice_get-map, slice_get_past}
use Rattle.cilk_types.specs.declared.fault.Fault.{Fault}
use Rattle.cilk_types.specs.declared.fault.Fault.TheVariants.{TooManyCells, TooManyEvents, TooManyFrames}
use Rattle.cilk_types.specs.declared.outcome.Outcome.{Outcome}
use Rattle.cilk_program.specs.declared.ask.Ask as language
use Rattle.cilk_program.specs.declared.ask.Ask.TheVariants as asks
use Rattle.cilk_program.specs.Syntax.{Source}
use Rattle.cilk_lower.specs.Code.{CodeView}
use Rattle.cilk_lower.specs.Layout.{LaysOut}
use Rattle.cilk_frames.specs.Cursor.{CursorView}
use Rattle.cilk_frames.specs.declared.activation.Activation.{Activation}
use Rattle.cilk_determinacy.specs.Costs.{Total, TickTotal, EventTotal, FrameTotal, CellTotal, cost, fault_of, is_over, own_fault}
use Rattle.cilk_determinacy.specs.Machine.{Frame, IsAsking, State, Stop, Stops, deeds_at, started, strand_of}
use Rattle.cilk_determinacy.specs.Progress.{BlockHasEnded, HasStop, MayAsk}
use Rattle.cilk_determinacy.specs.Runs.{Ask, End, Fail, Invoke, Name, Pass, Read, Sync, Write, Deed}
use Rattle.cilk_determinacy.proofs.Progress.{progress}
use Rattle.cilk_determinacy.specs.FrameEnvMachine.{costs, named_ask, next, taken}
use Rattle.cilk_determinacy.specs.Reducers.{View, monoid_of}
use Rattle.cilk_determinacy.specs.Steps.{Next}
use Rattle.cilk_determinacy.specs.FrameEnvs.{FrameEnv}
use Rattle.cilk_scheduler.specs.declared.scheduler.Scheduler.{Scheduler}
use Rattle.cilk_scheduler.specs.declared.choice.Choice.{Choice}
use Rattle.cilk_scheduler.specs.declared.choice.Choice.TheVariants.{Run, Steal}
use Rattle.cilk_scheduler.specs.declared.frame_state.FrameState.{FrameState}
use Rattle.cilk_scheduler.specs.declared.frame_state.Status.TheVariants.{Held}
use Rattle.cilk_scheduler.specs.declared.frame_state.Worker.{Worker}
use Rattle.cilk_scheduler.specs.Asking.{refusal}
use Rattle.cilk_scheduler.specs.Schedulers.{IsDue, IsWhere, ShowsBy, Tells, hand_of}
use Rattle.cilk_scheduler.specs.WorkerTables.{BlockIsOver, Chooses, WorkerTable, Skipped, all_offered, skips}
use Rattle.cilk_scheduler.specs.Noting.{HasFrame}
use Rattle.cilk_scheduler.specs.Numbered.{AreDeeds, children_among, events_of, parent_at}
use Rattle.cilk_scheduler.specs.FrameStates.{changed}
use Rattle.cilk_scheduler.specs.Stopping.{IsRefused, SkipsAreShown, StandAsBefore, StopsAreShown, TellingsStay, latest}
use Rattle.cilk_scheduler.specs.Workers.{frame_in, held_by, is_free, is_idle, offers}
use Rattle.cilk_scheduler.proofs.Altered as altering
use Rattle.cilk_scheduler.proofs.Carries as carries
use Rattle.cilk_scheduler.proofs.Changing.{changed_known, changed_length}
use Rattle.cilk_scheduler.proofs.Kept.{changed_from}
use Rattle.cilk_scheduler.proofs.Nexts.{named_next}
use Rattle.cilk_scheduler.proofs.Placed.{get_some}
use Rattle.cilk_scheduler.proofs.Plain.{get_low}
use Rattle.cilk_scheduler.proofs.Refused.{refused_is}
use Rattle.cilk_scheduler.proofs.Siblings.{among_same}
use Rattle.cilk_scheduler.proofs.Stepped.{kept_by}

-- ---- what is shown

module _ (code : CodeView) (p : Source) (inputs : List ℤ) where
  module _ (name : ℕ → Name) (b b' : Scheduler) (s : State FrameEnv View) (stopped : Option Stop) (t : Tells code p inputs name b s) (same : (let f = b.frames in let g = b'.frames in StandAsBefore f.items g.items))
      (journal : (let e = b.journal in let l = b'.journal in l.items ≡ e.items)) (outcome : b'.outcome ≡ b.outcome) where
    abbrev old : List (Activation FrameState)
    old = let f = b.frames in f.items

    abbrev new : List (Activation FrameState)
    new = let f = b'.frames in f.items

    abbrev halted : State FrameEnv View
    halted = record s { stopped = stopped }

    on : carries.Carries old new
    on j a at =
        let low : j < length new = subst (λ n. j < n) (sym same.as_many) (get_low old j a at) in
        let z = get_some new j low in
        let r = same.each j z.0 z.1 in
        let is : r.0 ≡ a = (let q : Some r.0 ≡ Some a = sym r.1 ∙ at in cc) in (
          (let c = z.0 in c.cursor),
          z.1 ∙ ap (λ (y : Activation FrameState). Some y) r.2 ∙ ap (λ (y : Activation FrameState). Some (record y { cursor = (let c = z.0 in c.cursor) })) is,
        )

    written : (k : ℕ) → (let e = b'.journal in events_of k e.items) ≡ (let e = b.journal in events_of k e.items)
    written k = ap (λ l. events_of k l) journal

    base_is : (a z : Activation FrameState) → a ≡ record z { cursor = a.cursor } → a.base ≡ z.base
    base_is a z e = ap (λ (y : Activation FrameState). y.base) e

    parents : (j : ℕ) → parent_at new j ≡ parent_at old j
    parents j = ⊎_elim there past (cases_lt j (length new))
      where
        P : Option (Activation FrameState) → Option ℕ
        P o = option_map (λ (a : Activation FrameState). let x = a.cursor in x.parent) o

        there : j < length new → parent_at new j ≡ parent_at old j
        there low =
            let z = get_some new j low in
            let r = same.each j z.0 z.1 in
            ap P z.1 ∙ ap (λ n. Some n) r.3.0 ∙ sym (ap P r.1)

        past : length new ≤ j → parent_at new j ≡ parent_at old j
        past far = ap P (slice_get_past new j far) ∙ sym (ap P (slice_get_past old j (subst (λ n. n ≤ j) same.as_many far)))

    told : Tells code p inputs name b' halted
    told =
        let was = t.named in record {
          named = record {
            root = was.root;
            child = λ k a at.
                let r = same.each (suc k) a at in
                let z = was.child k r.0 r.1 in
                (subst (λ n. n < suc k) (sym r.3.0) z.0, z.1 ∙ ap₂ (λ n q. name n ++ q ∷ []) (sym r.3.0) (sym r.3.1));
            ordinal = λ k a at.
                let r = same.each (suc k) a at in
                r.3.1 ∙ was.ordinal k r.0 r.1 ∙ ap (λ n. suc (length (children_among old n (suc k)))) (sym r.3.0) ∙ ap (λ (l : List ℕ). suc (length l)) (sym (among_same old new parents (let x = a.cursor in x.parent) (suc k)));
            apart = λ i j low low' e. was.apart i j (subst (λ n. i < n) same.as_many low) (subst (λ n. j < n) same.as_many low') e;
          };
          here = λ k a at.
              let r = same.each k a at in
              let h = t.here k r.0 r.1 in
              let e = b.journal in
              (h.0, h.1, subst (λ es. AreDeeds p new name halted k (let f = h.0 in f.deeds) es) (sym (written k)) (carries.deeds_on old new on name p s halted (λ m q lt. lt) k (let f = h.0 in f.deeds) (events_of k e.items) h.2));
          absent = λ n none. t.absent n (λ j at. none j (subst (λ z. j < z) (sym same.as_many) at));
          joins = t.joins;
          going = λ e. t.going (sym outcome ∙ e);
          over = λ o e. t.over o (sym outcome ∙ e);
          first = λ a at. let r = same.each 0 a at in subst (λ z. length p.openings ≤ z) (sym (base_is a r.0 r.2)) (t.first r.0 r.1);
          ascend = λ i j x y at at' less.
              let f = same.each i x at in
              let g = same.each j y at' in
              let e = base_is x f.0 f.2 in
              let u = base_is y g.0 g.2 in
              let was_so = t.ascend i j f.0 g.0 f.1 g.1 less in
              omega (arith, was_so, e, u);
        }

  pub tellings_stay : TellingsStay code p inputs
  tellings_stay name b b' s stopped t same journal outcome = told name b b' s stopped t same journal outcome

-- ---- a fault in place of an event

module _ (p : Source) (w : FrameEnv) (j : ℕ) where
  -- a request that is a sync by name is a sync
  sync_named : (k : language.Ask) → named_ask p w j k ≡ Sync → k ≡ asks.Sync
  sync_named asks.Sync q = refl
  sync_named asks.Begin q = absurd (let f : ⊥ = cc in f)
  sync_named (asks.Read x) q = absurd (let f : ⊥ = cc in f)
  sync_named (asks.Write x v) q = absurd (let f : ⊥ = cc in f)
  sync_named (asks.Create r) q = absurd (let f : ⊥ = cc in f)
  sync_named (asks.Update r v) q = absurd (let f : ⊥ = cc in f)
  sync_named (asks.Set r v) q = absurd (let f : ⊥ = cc in f)
  sync_named (asks.Value r) q = absurd (let f : ⊥ = cc in f)
  sync_named (asks.Print v) q = absurd (let f : ⊥ = cc in f)
  sync_named (asks.Invoke how callee) q = absurd (let f : ⊥ = cc in f)
  sync_named asks.Resume q = absurd (let f : ⊥ = cc in f)
  sync_named (asks.Result v) q = absurd (let f : ⊥ = cc in f)
  sync_named (asks.End v) q = absurd (let f : ⊥ = cc in f)
  sync_named (asks.Fault x) q = absurd (let f : ⊥ = cc in f)

-- a frame that may make a request, which isn't accepted, still makes it
module _ (p : Source) (inputs : List ℤ) (s : State FrameEnv View) (n : Name) (f : Frame FrameEnv) (a : Ask FrameEnv) (on : s.stopped ≡ None) (may : MayAsk FrameEnv View monoid_of (Next p inputs) (costs p inputs) s n f a) where
  abbrev Asks : Type 0
  Asks = IsAsking FrameEnv View monoid_of (Next p inputs) (costs p inputs) s n f a

  -- who stops there asks this
  by_stop : (x : Fault) → HasStop FrameEnv View monoid_of (Next p inputs) (costs p inputs) s n f x → Asks
  by_stop x h =
      let t = h.stops in
      let q = t.asking in
      let frame : t.frame ≡ f = (let z : Some t.frame ≡ Some f = sym q.here ∙ may.here in cc) in
      let known : next p inputs f.what f.deeds ≡ Some t.ask = subst (λ (g : Frame FrameEnv). next p inputs g.what g.deeds ≡ Some t.ask) frame q.next in
      let ask : t.ask ≡ a = (let z : Some t.ask ≡ Some a = sym known ∙ may.next in cc) in
      subst (λ b. IsAsking FrameEnv View monoid_of (Next p inputs) (costs p inputs) s n f b) ask (subst (λ g. IsAsking FrameEnv View monoid_of (Next p inputs) (costs p inputs) s n g t.ask) frame q)

  over : (total : Total) → is_over (costs p inputs) total s.totals f.what f.deeds a ≡ true → Asks
  over total h =
      let P = progress FrameEnv View monoid_of (Next p inputs) (costs p inputs) in
      let C = costs p inputs in
      let r = P.exceeds s n f a total on may (ltb-true (C.limit total) (s.totals total + cost C total f.what f.deeds a) h) in
      by_stop r.0 r.1

  asking : (x : Fault) → fault_of (costs p inputs) s.totals f.what f.deeds a ≡ Some x → Asks
  asking x h = by (is_over (costs p inputs) TickTotal s.totals f.what f.deeds a) refl (is_over (costs p inputs) EventTotal s.totals f.what f.deeds a) refl (is_over (costs p inputs) FrameTotal s.totals f.what f.deeds a) refl (is_over (costs p inputs) CellTotal s.totals f.what f.deeds a) refl h
    where
      by : (t : Bool) → is_over (costs p inputs) TickTotal s.totals f.what f.deeds a ≡ t → (e : Bool) → is_over (costs p inputs) EventTotal s.totals f.what f.deeds a ≡ e → (fr : Bool) → is_over (costs p inputs) FrameTotal s.totals f.what f.deeds a ≡ fr
          → (c : Bool) → is_over (costs p inputs) CellTotal s.totals f.what f.deeds a ≡ c
          → cond t (Some TooManyEvents) (own_fault a (cond e (Some TooManyEvents) (cond fr (Some TooManyFrames) (cond c (Some TooManyCells) None)))) ≡ Some x → Asks
      by true q e q' fr r c r' h = over TickTotal q
      by false q true q' fr r c r' h = over EventTotal q'
      by false q false q' true r c r' h = over FrameTotal r
      by false q false q' false r true r' h = over CellTotal r'
      by false q false q' false r false r' h = fault a refl h
        where
          fault : (z : Ask FrameEnv) → a ≡ z → own_fault z None ≡ Some x → Asks
          fault (Fail y) is e =
              let P = progress FrameEnv View monoid_of (Next p inputs) (costs p inputs) in
              let may' = subst (λ b. MayAsk FrameEnv View monoid_of (Next p inputs) (costs p inputs) s n f b) is may in
              let low = ltb-false ((costs p inputs).limit TickTotal) (s.totals TickTotal + cost (costs p inputs) TickTotal f.what f.deeds a) q in
              by_stop y (P.fails s n f y on may' (subst (λ b. s.totals TickTotal + cost (costs p inputs) TickTotal f.what f.deeds b ≤ (let C = costs p inputs in C.limit TickTotal)) is low))
          fault (Read c) is e = let f : ⊥ = cc in absurd f
          fault (Write c v) is e = let f : ⊥ = cc in absurd f
          fault (Invoke how v) is e = let f : ⊥ = cc in absurd f
          fault Sync is e = let f : ⊥ = cc in absurd f
          fault (End v gone) is e = let f : ⊥ = cc in absurd f
          fault (Pass m) is e = let f : ⊥ = cc in absurd f

module _ (code : CodeView) (p : Source) (inputs : List ℤ) (name : ℕ → Name) (b b' : Scheduler) (d : WorkerTable) (s : State FrameEnv View) (w k : ℕ) (ask : language.Ask) (fault : Fault) (lays : LaysOut p code.layout) (sh : ShowsBy code p inputs name b d s)
    (h : IsRefused code p inputs b w k ask fault) (over_at : ask ≡ asks.Sync → BlockIsOver s (name k)) where
  abbrev x : FrameState
  x = let a = h.frame_state in a.cursor

  abbrev frame : Frame FrameEnv
  frame = let o = sh.sits k h.frame_state h.sits in o.frame

  abbrev what : FrameEnv
  what = let f = (let o = sh.sits k h.frame_state h.sits in o.frame) in f.what

  abbrev past : List (Deed FrameEnv)
  past = let f = (let o = sh.sits k h.frame_state h.sits in o.frame) in f.deeds

  abbrev named : Ask FrameEnv
  named = named_ask p what (suc (started past)) ask

  here : s.frames (name k) ≡ Some frame
  here = let o = sh.sits k h.frame_state h.sits in o.here

  status_is : x.status ≡ Held w
  status_is =
      let g = sh.holds w k h.worker h.at h.has in
      let same : g.frame_state ≡ h.frame_state = (let q : Some g.frame_state ≡ Some h.frame_state = sym g.here ∙ h.sits in cc) in
      ap (λ (a : Activation FrameState). let y = a.cursor in y.status) (sym same) ∙ g.held

  held : IsWhere code p inputs name b s k (name k) past x (Held w)
  held = let o = sh.sits k h.frame_state h.sits in subst (λ z. IsWhere code p inputs name b s k (name k) past x z) status_is o.is_where

  dues : (c : CursorView) × (x.cursor ≡ Some c) × IsDue code p inputs what past x.due c x.took
  dues = let o = sh.sits k h.frame_state h.sits in o.due held.4

  named_as : (next p inputs what past ≡ Some named) × ((let y = h.came in y.took) ≡ taken p inputs what past)
  named_as = named_next code p inputs what past x h.came dues.0 ask held.4 dues.1 dues.2 h.went

  kept : h.came ≡ (let y = h.came in record x { cursor = y.cursor; took = y.took })
  kept = kept_by code p inputs x h.came ask x.due h.went

  abbrev spent : ℕ
  spent = let y = h.came in b.ticks + (y.took - y.counted)

  spent_is : spent ≡ (let C = costs p inputs in s.totals TickTotal + C.ticks what past)
  spent_is =
      let o = sh.sits k h.frame_state h.sits in
      ap₂ (λ n m. n + m) (sym sh.ticks) (ap₂ (λ n m. n - m) named_as.1 (ap (λ (y : FrameState). y.counted) kept ∙ o.counted))

  why : fault_of (costs p inputs) s.totals what past named ≡ Some fault
  why =
      let e = b.journal in
      let f = b.frames in
      let c = b.cells in
      sym (refused_is p inputs code.layout what past ask s.totals spent spent_is sh.few_frames sh.few_cells lays.cells)
      ∙ subst (λ n. refusal spent n (s.totals FrameTotal) (s.totals CellTotal) code.layout ask ≡ Some fault) (sym sh.events)
      (subst (λ n. refusal spent (length e.items) n (s.totals CellTotal) code.layout ask ≡ Some fault) (sym sh.frames) (subst (λ n. refusal spent (length e.items) (length f.items) n code.layout ask ≡ Some fault) (sym sh.cells) h.refused))

  may : MayAsk FrameEnv View monoid_of (Next p inputs) (costs p inputs) s (name k) frame named
  may = record { here = here; next = named_as.0; goes_on = held.3; block = λ q. subst (λ f. BlockHasEnded FrameEnv View s (name k) (deeds_at f)) here (over_at (sync_named p what (suc (started past)) ask q)) }

  abbrev stop : Stop
  stop = record { frame = name k; strand = strand_of past; fault = fault }

  stops : Stops FrameEnv View monoid_of (Next p inputs) (costs p inputs) s (name k) (record s { stopped = Some stop })
  stops = record { frame = frame; ask = named; fault = fault; asking = asking p inputs s (name k) frame named sh.running may fault why; why = why; after = refl }

  strand_is : strand_of past ≡ latest x.strands
  strand_is = let o = sh.sits k h.frame_state h.sits in ap latest o.strands_are

  hand_is : slice_get d.hands w ≡ Some (Some (name k))
  hand_is =
      let o = sh.worker_table in
      let l = b.workers in
      ap (λ hs. slice_get hs w) o.hands ∙ slice_get-map (hand_of name) l.items w ∙ ap (λ u. option_map (hand_of name) u) h.at ∙ ap (λ f. Some (option_map name f)) h.has

  -- the frame is where it was
  stand : (let f = b.frames in let g = b'.frames in g.items ≡ changed (λ _. h.came) f.items k) → (let f = b.frames in let g = b'.frames in StandAsBefore f.items g.items)
  stand is =
      let f = b.frames in
      let y = h.came in
      let G : FrameState → FrameState = (λ z. record z { cursor = y.cursor; took = y.took }) in
      let known = is ∙ changed_known (λ _. h.came) G f.items k h.frame_state h.sits kept in record {
        as_many = ap (λ (l : List (Activation FrameState)). length l) known ∙ changed_length G f.items k;
        each = λ j a at.
            let r = changed_from G f.items k j a (ap (λ l. slice_get l j) (sym known) ∙ at) in
            let z = r.0 in
            let c = z.cursor in
            (z, r.1, r.2, ⊎_elim (λ e. (ap (λ (q : FrameState). q.parent) e, ap (λ (q : FrameState). q.ordinal) e)) (λ e. (ap (λ (q : FrameState). q.parent) e, ap (λ (q : FrameState). q.ordinal) e)) r.3);
      }

pub stops_are_shown : (code : CodeView) (p : Source) (inputs : List ℤ) → StopsAreShown code p inputs
stops_are_shown code p inputs name b b' d s w k ask fault lays sh h over_at frames journal outcome =
    let st = stop code p inputs name b b' d s w k ask fault lays sh h over_at in (
      record s { stopped = Some st },
      (name k, hand_is code p inputs name b b' d s w k ask fault lays sh h over_at, stops code p inputs name b b' d s w k ask fault lays sh h over_at),
      ap (λ n. Some (record { frame = name k; strand = n; fault = fault })) (strand_is code p inputs name b b' d s w k ask fault lays sh h over_at),
      tellings_stay code p inputs name b b' s (Some st) sh.tells (stand code p inputs name b b' d s w k ask fault lays sh h over_at frames) journal outcome,
    )

-- ---- choices that can't be made

module _ (code : CodeView) (p : Source) (inputs : List ℤ) (name : ℕ → Name) (b : Scheduler) (d : WorkerTable) (s : State FrameEnv View) (sh : ShowsBy code p inputs name b d s) where
  abbrev workers : List Worker
  workers = let l = b.workers in l.items

  hand_at : (w : ℕ) → slice_get d.hands w ≡ option_map (hand_of name) (slice_get workers w)
  hand_at w = let o = sh.worker_table in ap (λ hs. slice_get hs w) o.hands ∙ slice_get-map (hand_of name) workers w

  offered_at : (place : ℕ) → slice_get (all_offered d.offered) place ≡ option_map name (slice_get (offers workers) place)
  offered_at place = let o = sh.worker_table in ap (λ l. slice_get (all_offered l) place) o.offered ∙ ap (λ l. slice_get l place) (altering.offered_are name workers) ∙ slice_get-map name (offers workers) place

  no_hand : (o : Option Worker) → frame_in o ≡ None → (n : Name) → option_map (hand_of name) o ≡ Some (Some n) → ⊥
  no_hand None h n q = let f : ⊥ = cc in f
  no_hand (Some u) h n q =
      let z : Some (option_map name u.frame) ≡ Some (Some n) = q in
      let y : option_map name u.frame ≡ Some n = cc in
      let e : None ≡ Some n = ap (λ f. option_map name f) (sym h) ∙ y in
      let f : ⊥ = cc in
      f

  nobody : (w : ℕ) → held_by workers w ≡ None → Chooses p inputs s d (Run w) Skipped s d
  nobody zero h = skips (Run zero) tt
  nobody (suc w) h = skips (Run (suc w)) (inl (λ n q. no_hand (slice_get workers w) h n (sym (hand_at w) ∙ q)))

  not_free : (o : Option Worker) → is_free o ≡ false → option_map (hand_of name) o ≡ Some None → ⊥
  not_free None h q = let f : ⊥ = cc in f
  not_free (Some u) h q = by u.frame h (let z : Some (option_map name u.frame) ≡ Some None = q in cc)
    where
      by : (f : Option ℕ) → (if is_some f then false else true) ≡ false → option_map name f ≡ None → ⊥
      by None e g = true≢false e
      by (Some k) e g = let f : ⊥ = cc in f

  busy : (w place : ℕ) → is_idle workers w ≡ false → Chooses p inputs s d (Steal w place) Skipped s d
  busy zero place h = skips (Steal zero place) tt
  busy (suc w) place h = skips (Steal (suc w) place) (inl (λ q. not_free (slice_get workers w) h (sym (hand_at w) ∙ q)))

  unoffered : (w place : ℕ) → slice_get (offers workers) place ≡ None → Chooses p inputs s d (Steal w place) Skipped s d
  unoffered zero place h = skips (Steal zero place) tt
  unoffered (suc w) place h = skips (Steal (suc w) place) (inr (inl (offered_at place ∙ ap (λ o. option_map name o) h)))

  over_now : (c : Choice) (o : Outcome) → b.outcome ≡ Some o → Chooses p inputs s d c Skipped s d
  over_now (Run zero) o h = skips (Run zero) tt
  over_now (Run (suc w)) o h = skips (Run (suc w)) (inr (let t = sh.tells in let r = t.over o h in r.0))
  over_now (Steal zero place) o h = skips (Steal zero place) tt
  over_now (Steal (suc w) place) o h = skips (Steal (suc w) place) (inr (inr (let t = sh.tells in let r = t.over o h in r.0)))

  count_is : (ws : List Worker) → length (offers ws) ≡ sum (map (λ (u : Worker). let o = u.offered in length o.items) ws)
  count_is [] = refl
  count_is (u ∷ ws) =
      let o = u.offered in
      let e = length-append o.items (offers ws) in
      let h = count_is ws in
      let g = sum_by-cons {X = ℕ} (λ a. a) (length o.items) (map (λ (u : Worker). let o = u.offered in length o.items) ws) in
      omega (arith, e, h, g)

  past_all : (place : ℕ) → b.offered ≤ place → slice_get (offers workers) place ≡ None
  past_all place le = let o = sh.worker_table in let e = o.total in let c = count_is workers in slice_get_past (offers workers) place (omega (arith, e, c, le))

  has_worker : (o : Option Worker) (k : ℕ) → frame_in o ≡ Some k → (u : Worker) × (o ≡ Some u) × (u.frame ≡ Some k)
  has_worker None k h = let f : ⊥ = cc in absurd f
  has_worker (Some u) k h = (u, refl, h)

  held_there : (w k : ℕ) → held_by workers (suc w) ≡ Some k → (f : HasFrame b w k) × (c : CursorView) × (let a = f.frame_state in let x = a.cursor in x.cursor ≡ Some c)
  held_there w k h =
      let u = has_worker (slice_get workers w) k h in
      let g = sh.holds w k u.0 u.1 u.2 in
      let o = sh.sits k g.frame_state g.here in
      let a = g.frame_state in
      let x = a.cursor in
      let f = o.frame in
      let is : IsWhere code p inputs name b s k (name k) f.deeds x (Held w) = subst (λ z. IsWhere code p inputs name b s k (name k) f.deeds x z) g.held o.is_where in
      let c = o.due is.4 in
      (record { worker = u.0; frame_state = g.frame_state; at = u.1; has = u.2; sits = g.here }, c.0, c.1)

pub skips_are_shown : (code : CodeView) (p : Source) (inputs : List ℤ) → SkipsAreShown code p inputs
skips_are_shown code p inputs = record {
  nobody = λ name b d s w sh. nobody code p inputs name b d s sh w;
  busy = λ name b d s w place sh. busy code p inputs name b d s sh w place;
  unoffered = λ name b d s w place sh. unoffered code p inputs name b d s sh w place;
  past = λ name b d s place sh. past_all code p inputs name b d s sh place;
  over = λ name b d s c o sh. over_now code p inputs name b d s sh c o;
  held = λ name b d s w k sh. held_there code p inputs name b d s sh w k;
}
