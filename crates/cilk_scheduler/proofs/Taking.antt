-- A steal: the changes of frame states, workers and the worker table.
--
-- - `was`, `starts`, `not_yet`, `thief_goes`: the frame that is offered, and the free machine's
--   step;
-- - `now_at`, `which`, `frame_state_later`, `same_length`, `on`: the frame states before and after;
-- - `worker_on`, `worker_was`, `not_thief`: the workers before and after;
-- - `worker_table_is`, `named_now`: the worker table, and the names of frames;
-- - `hand_is`, `offered_is`: the choice.
use Rattle.std.proofs.Common.{◌≡◌, ◌⊎◌, inl, inr, ⊎_elim, ◌+◌, ◌<◌, ℕ, suc, nat_eq, eq-eqb, eqb-true, Bool, true, false, true≢false, ℤ, List, [], ◌∷◌, ◌++◌, length, map, set, slice_get, sum, Option, Some, None, refl, sym, ap, ◌∙◌, subst, arith}
use Rattle.std.specs.Prelude.{remove}
use Rattle.std.specs.Option.{option_map}
use Rattle.std.proofs.lemmas.List.Edits.{length-remove}
use Rattle.std.proofs.lemmas.Option.{slice_get-map}
use Rattle.cilk_types.specs.declared.invocation.Invocation.TheVariants.{Spawn}
use Rattle.cilk_program.specs.Syntax.{Source}
use Rattle.cilk_lower.specs.Code.{CodeView}
use Rattle.cilk_frames.specs.declared.activation.Activation.{Activation}
use Rattle.cilk_determinacy.specs.Machine.{Frame, State, deeds_at, started}
use Rattle.cilk_determinacy.specs.Progress.{child_after, HasThief}
use Rattle.cilk_determinacy.specs.Runs.{Name, Deed}
use Rattle.cilk_determinacy.proofs.Basics.{same_name-refl}
use Rattle.cilk_determinacy.proofs.Progress.{progress}
use Rattle.cilk_determinacy.proofs.Started.{started_invokes}
use Rattle.cilk_determinacy.specs.FrameEnvMachine.{costs, has_ended}
use Rattle.cilk_determinacy.specs.Reducers.{View, monoid_of}
use Rattle.cilk_determinacy.specs.Steps.{Next}
use Rattle.cilk_determinacy.specs.FrameEnvs.{FrameEnv}
use Rattle.cilk_scheduler.specs.declared.scheduler.Scheduler.{Scheduler}
use Rattle.cilk_scheduler.specs.declared.frame_state.FrameState.{FrameState}
use Rattle.cilk_scheduler.specs.declared.frame_state.Status.TheVariants.{Held, Offered, Waiting}
use Rattle.cilk_scheduler.specs.declared.frame_state.Worker.{Worker}
use Rattle.cilk_scheduler.specs.Schedulers.{hand_of, offers_of, IsWhere, Sits, IsWorkerTable, ShowsBy}
use Rattle.cilk_scheduler.specs.WorkerTables.{WorkerTable, IsIn, withdrawn, without, all_offered, holds}
use Rattle.cilk_scheduler.specs.Numbered.{AreNamed}
use Rattle.cilk_scheduler.specs.FrameStates.{changed, moved_to, robbed}
use Rattle.cilk_scheduler.specs.Thieves.{IsOffered, TakesOver}
use Rattle.cilk_scheduler.specs.Workers.{altered, holding, offers}
use Rattle.cilk_scheduler.proofs.Altered as altering
use Rattle.cilk_scheduler.proofs.Carries as carries
use Rattle.cilk_scheduler.proofs.Changing.{changed_here, changed_off, changed_length, changed_known}
use Rattle.cilk_scheduler.proofs.Kept.{named_changed}
use Rattle.cilk_scheduler.proofs.Onward.{name_off, longer}
use Rattle.cilk_scheduler.proofs.Plain.{get_low}

module _ (code : CodeView) (p : Source) (inputs : List ℤ) (name : ℕ → Name) (b b' : Scheduler) (d : WorkerTable) (s : State FrameEnv View) (w place k : ℕ) (sh : ShowsBy code p inputs name b d s) (h : IsOffered b w place k) (t : TakesOver b b' w place k h) where
  abbrev pub old_frame_states : List (Activation FrameState)
  old_frame_states = let f = b.frames in f.items

  abbrev pub new_frame_states : List (Activation FrameState)
  new_frame_states = let f = b'.frames in f.items

  abbrev pub old_workers : List Worker
  old_workers = let l = b.workers in l.items

  abbrev pub new_workers : List Worker
  new_workers = let l = b'.workers in l.items

  abbrev pub frame_state : FrameState
  frame_state = let a = h.frame_state in a.cursor

  abbrev pub frame : Frame FrameEnv
  frame = let o = sh.sits k h.frame_state h.sits in o.frame

  abbrev pub past : List (Deed FrameEnv)
  past = let f = (let o = sh.sits k h.frame_state h.sits in o.frame) in f.deeds

  sitting : Sits code p inputs name b s k h.frame_state
  sitting = sh.sits k h.frame_state h.sits

  pub named : AreNamed old_frame_states name
  named = let q = sh.tells in q.named

  pub low : k < length old_frame_states
  low = get_low old_frame_states k h.frame_state h.sits

  pub status_was : frame_state.status ≡ Offered h.victim
  status_was =
      let o = sh.worker_table in
      let g = o.places h.victim h.at k h.owner h.owns h.stands in
      let same : g.0 ≡ h.frame_state = (let q : Some g.0 ≡ Some h.frame_state = sym g.1 ∙ h.sits in cc) in
      ap (λ (a : Activation FrameState). let x = a.cursor in x.status) (sym same) ∙ g.2

  pub was : IsWhere code p inputs name b s k (name k) past frame_state (Offered h.victim)
  was = let o = sh.sits k h.frame_state h.sits in subst (λ z. IsWhere code p inputs name b s k (name k) past frame_state z) status_was o.is_where

  abbrev pub before : List (Deed FrameEnv)
  before = was.0

  abbrev pub ordinal : ℕ
  ordinal = suc (started was.0)

  abbrev pub child : Name
  child = name k ++ suc (started was.0) ∷ []

  pub starts : started past ≡ ordinal
  starts = ap (λ ds. started ds) was.2 ∙ started_invokes was.0 Spawn was.1

  pub children_are : frame_state.children ≡ ordinal
  children_are = let o = sh.sits k h.frame_state h.sits in sym o.children ∙ starts

  pub last_is : (frame_state.last < length old_frame_states) × (name frame_state.last ≡ child)
  last_is =
      let o = sh.sits k h.frame_state h.sits in
      let e = children_are in
      let r = o.last (omega (arith, e)) in
      (r.0, r.1 ∙ ap (λ q. name k ++ q ∷ []) e)

  pub going : has_ended (deeds_at (s.frames (name k))) ≡ false
  going = let o = sh.sits k h.frame_state h.sits in ap (λ f. has_ended (deeds_at f)) o.here ∙ was.10

  pub not_yet : s.stolen child ≡ false
  not_yet = ap (λ q. s.stolen (name k ++ q ∷ [])) (sym starts) ∙ was.4

  pub thief_goes : HasThief FrameEnv View monoid_of (Next p inputs) (costs p inputs) s (name k) (child_after (name k) was.0)
  thief_goes =
      let P = progress FrameEnv View monoid_of (Next p inputs) (costs p inputs) in
      let o = sh.sits k h.frame_state h.sits in
      P.steals s (name k) frame was.0 was.1 sh.running o.here was.2 not_yet

  -- ---- names of frames

  pub names_differ : (i j : ℕ) → i < length old_frame_states → j < length old_frame_states → (i ≡ j → ⊥) → name i ≡ name j → ⊥
  names_differ i j at at' ne q = ne (named.apart i j at at' q)

  child_apart : k ≡ frame_state.last → ⊥
  child_apart q = longer (name k) ordinal (sym last_is.1 ∙ ap name (sym q))

  -- ---- where frames are

  abbrev pub taken : FrameState
  taken = record frame_state { status = Held w; join = (let y = t.awaiting in y.join) }

  abbrev pub now : Activation FrameState
  now = let a = h.frame_state in record a { cursor = record frame_state { status = Held w; join = (let y = t.awaiting in y.join) } }

  abbrev mid : List (Activation FrameState)
  mid = changed (λ _. t.awaiting) (let f = b.frames in f.items) k

  abbrev later : List (Activation FrameState)
  later = changed robbed (changed (λ _. t.awaiting) (let f = b.frames in f.items) k) frame_state.last

  pub now_at : slice_get new_frame_states k ≡ Some now
  now_at =
      let a = h.frame_state in
      let x = a.cursor in
      let B : FrameState → Option (Activation FrameState) = (λ y. Some (record a { cursor = moved_to (Held w) y })) in
      let g = t.awaits in
      ap (λ l. slice_get l k) t.frames
      ∙ changed_here (moved_to (Held w)) later k (record a { cursor = t.awaiting }) (changed_off robbed mid frame_state.last k (λ q. child_apart (sym q)) ∙ changed_here (λ _. t.awaiting) old_frame_states k h.frame_state h.sits)
      ∙ ap B g.1

  child_at : (a : Activation FrameState) → slice_get old_frame_states frame_state.last ≡ Some a → slice_get new_frame_states frame_state.last ≡ Some (record a { cursor = robbed a.cursor })
  child_at a at = ap (λ l. slice_get l frame_state.last) t.frames ∙ changed_off (moved_to (Held w)) later k frame_state.last child_apart ∙ changed_here robbed mid frame_state.last a (changed_off (λ _. t.awaiting) old_frame_states k frame_state.last child_apart ∙ at)

  else_at : (j : ℕ) → (k ≡ j → ⊥) → (frame_state.last ≡ j → ⊥) → slice_get new_frame_states j ≡ slice_get old_frame_states j
  else_at j ne ne' = ap (λ l. slice_get l j) t.frames ∙ changed_off (moved_to (Held w)) later k j ne ∙ changed_off robbed mid frame_state.last j ne' ∙ changed_off (λ _. t.awaiting) old_frame_states k j ne

  pub same_length : length new_frame_states ≡ length old_frame_states
  same_length = ap (λ (l : List (Activation FrameState)). length l) t.frames ∙ changed_length (moved_to (Held w)) later k ∙ changed_length robbed mid frame_state.last ∙ changed_length (λ _. t.awaiting) old_frame_states k

  pub on : carries.Carries old_frame_states new_frame_states
  on = subst (λ l. carries.Carries old_frame_states l) (sym t.frames)
      (carries.carries_then old_frame_states mid (changed (moved_to (Held w)) later k) (carries.carries_changed (λ _. t.awaiting) old_frame_states k)
      (carries.carries_then mid later (changed (moved_to (Held w)) later k) (carries.carries_changed robbed mid frame_state.last) (carries.carries_changed (moved_to (Held w)) later k)))

  -- a frame is this one, its last child, or another that stays
  pub data Which (j : ℕ) (a : Activation FrameState) : Type 0 where
    taken_over : k ≡ j → now ≡ a → Which j a
    marked : (x : Activation FrameState) → (k ≡ j → ⊥) → slice_get old_frame_states j ≡ Some x → frame_state.last ≡ j → a ≡ record x { cursor = robbed x.cursor } → Which j a
    stays : (k ≡ j → ⊥) → slice_get old_frame_states j ≡ Some a → (frame_state.last ≡ j → ⊥) → Which j a

  pub which : (j : ℕ) (a : Activation FrameState) → slice_get new_frame_states j ≡ Some a → Which j a
  which j a at = by (nat_eq k j) refl (nat_eq frame_state.last j) refl
    where
      by : (c : Bool) → nat_eq k j ≡ c → (e : Bool) → nat_eq frame_state.last j ≡ e → Which j a
      by true q e r =
          let same : k ≡ j = eqb-true k j q in
          taken_over same (let z : Some now ≡ Some a = sym now_at ∙ ap (λ i. slice_get new_frame_states i) same ∙ at in cc)
      by false q true r =
          let same : frame_state.last ≡ j = eqb-true frame_state.last j r in
          let old = carries.carried_back old_frame_states new_frame_states on same_length j a at in
          let here : slice_get old_frame_states frame_state.last ≡ Some old.0 = ap (λ i. slice_get old_frame_states i) same ∙ old.1 in
          marked old.0 (λ z. true≢false (sym (eq-eqb k j z) ∙ q)) old.1 same (let z : Some (record old.0 { cursor = robbed (let y = old.0 in y.cursor) }) ≡ Some a = sym (child_at old.0 here) ∙ ap (λ i. slice_get new_frame_states i) same ∙ at in cc)
      by false q false r =
          let ne : k ≡ j → ⊥ = (λ z. true≢false (sym (eq-eqb k j z) ∙ q)) in
          let ne' : frame_state.last ≡ j → ⊥ = (λ z. true≢false (sym (eq-eqb frame_state.last j z) ∙ r)) in
          stays ne (sym (else_at j ne ne') ∙ at) ne'

  -- ---- workers

  -- what a worker has, before and after
  pub record Had (v : ℕ) (u u' : Worker) : Type 0 where
    pub frame_is : (w ≡ v → ⊥) → u'.frame ≡ u.frame
    pub views_are : (w ≡ v → ⊥) → u'.views ≡ u.views
    pub mine : w ≡ v → (u'.frame ≡ Some k) × (u'.views ≡ t.views)
    pub offers_are : ((h.victim ≡ v → ⊥) × ((let o = u'.offered in o.items) ≡ (let o = u.offered in o.items))) ⊎ ((h.victim ≡ v) × (u ≡ h.owner) × ((let o = u'.offered in o.items) ≡ remove (let o = u.offered in o.items) h.at))

  abbrev halfway : List Worker
  halfway = altered (λ _. t.without) (let l = b.workers in l.items) h.victim

  had : (v : ℕ) (u m u' : Worker) → slice_get old_workers v ≡ Some u → altering.Then (λ _. t.without) h.victim v u m → altering.Then (holding k t.views) w v m u' → Had v u u'
  had v u m u' at first second = record {
    frame_is = λ ne. last_frame ne ∙ first_frame;
    views_are = λ ne. last_views ne ∙ first_views;
    mine = λ q. ⊎_elim (λ g. (ap (λ (z : Worker). z.frame) g.1, ap (λ (z : Worker). z.views) g.1)) (λ g. absurd (g.0 q)) second;
    offers_are = ⊎_elim (λ g. inr (g.0, owner_is g.0, last_offers ∙ ap (λ (z : Worker). let o = z.offered in o.items) g.1 ∙ t.withdrawn ∙ ap (λ (z : Worker). remove (let o = z.offered in o.items) h.at) (sym (owner_is g.0))))
        (λ g. inl (g.0, last_offers ∙ ap (λ (z : Worker). let o = z.offered in o.items) g.1)) first;
  }
    where
      owner_is : h.victim ≡ v → u ≡ h.owner
      owner_is e = let q : Some u ≡ Some h.owner = sym at ∙ ap (λ i. slice_get old_workers i) (sym e) ∙ h.owns in cc

      last_offers : (let o = u'.offered in o.items) ≡ (let o = m.offered in o.items)
      last_offers = ⊎_elim (λ g. ap (λ (z : Worker). let o = z.offered in o.items) g.1) (λ g. ap (λ (z : Worker). let o = z.offered in o.items) g.1) second

      last_frame : (w ≡ v → ⊥) → u'.frame ≡ m.frame
      last_frame ne = ⊎_elim (λ g. absurd (ne g.0)) (λ g. ap (λ (z : Worker). z.frame) g.1) second

      last_views : (w ≡ v → ⊥) → u'.views ≡ m.views
      last_views ne = ⊎_elim (λ g. absurd (ne g.0)) (λ g. ap (λ (z : Worker). z.views) g.1) second

      first_frame : m.frame ≡ u.frame
      first_frame = ⊎_elim (λ g. ap (λ (z : Worker). z.frame) g.1 ∙ t.same_frame ∙ ap (λ (z : Worker). z.frame) (sym (owner_is g.0))) (λ g. ap (λ (z : Worker). z.frame) g.1) first

      first_views : m.views ≡ u.views
      first_views = ⊎_elim (λ g. ap (λ (z : Worker). z.views) g.1 ∙ t.same_views ∙ ap (λ (z : Worker). z.views) (sym (owner_is g.0))) (λ g. ap (λ (z : Worker). z.views) g.1) first

  pub worker_on : (v : ℕ) (u : Worker) → slice_get old_workers v ≡ Some u → (u' : Worker) × (slice_get new_workers v ≡ Some u') × Had v u u'
  worker_on v u at =
      let r = altering.altered_on (λ _. t.without) old_workers h.victim v u at in
      let q = altering.altered_on (holding k t.views) halfway w v r.0 r.1 in
      (q.0, ap (λ l. slice_get l v) t.workers ∙ q.1, had v u r.0 q.0 at r.2 q.2)

  pub worker_was : (v : ℕ) (u' : Worker) → slice_get new_workers v ≡ Some u' → (u : Worker) × (slice_get old_workers v ≡ Some u) × Had v u u'
  worker_was v u' at =
      let q = altering.altered_from (holding k t.views) halfway w v u' (sym (ap (λ l. slice_get l v) t.workers) ∙ at) in
      let r = altering.altered_from (λ _. t.without) old_workers h.victim v q.0 q.1 in
      (r.0, r.1, had v r.0 q.0 u' r.1 r.2 q.2)

  -- the thief was idle
  pub not_thief : (v j : ℕ) (u : Worker) → slice_get old_workers v ≡ Some u → u.frame ≡ Some j → w ≡ v → ⊥
  not_thief v j u at has e =
      let same : h.thief ≡ u = (let q : Some h.thief ≡ Some u = sym h.idles ∙ ap (λ i. slice_get old_workers i) e ∙ at in cc) in
      let z : None ≡ Some j = sym h.free ∙ ap (λ (y : Worker). y.frame) same ∙ has in
      let f : ⊥ = cc in
      f

  pub frame_state_later : (j : ℕ) (a : Activation FrameState) → (k ≡ j → ⊥) → slice_get old_frame_states j ≡ Some a
      → (z : Activation FrameState) × (slice_get new_frame_states j ≡ Some z) × ((let y = z.cursor in y.status) ≡ (let x = a.cursor in x.status)) × ((let y = z.cursor in y.merged) ≡ (let x = a.cursor in x.merged))
  frame_state_later j a ne at = by (nat_eq frame_state.last j) refl
    where
      by : (c : Bool) → nat_eq frame_state.last j ≡ c → (z : Activation FrameState) × (slice_get new_frame_states j ≡ Some z) × ((let y = z.cursor in y.status) ≡ (let x = a.cursor in x.status)) × ((let y = z.cursor in y.merged) ≡ (let x = a.cursor in x.merged))
      by true q =
          let same : frame_state.last ≡ j = eqb-true frame_state.last j q in
          (record a { cursor = robbed a.cursor }, ap (λ i. slice_get new_frame_states i) (sym same) ∙ child_at a (ap (λ i. slice_get old_frame_states i) same ∙ at), refl, refl)
      by false q = (a, else_at j ne (λ z. true≢false (sym (eq-eqb frame_state.last j z) ∙ q)) ∙ at, refl, refl)

  -- ---- the worker table

  abbrev pub worker_table_now : WorkerTable
  worker_table_now = holds (record d { offered = withdrawn d.offered (name k) }) w (name k)

  same_place : (j : ℕ) → j < length old_frame_states → name j ≡ name k → j ≡ k
  same_place j at e = named.apart j k at low e

  offerer : (v q j : ℕ) (u : Worker) → slice_get old_workers v ≡ Some u → (let o = u.offered in slice_get o.items q ≡ Some j) → j < length old_frame_states
  offerer v q j u at has = let o = sh.worker_table in let g = o.places v q j u at has in get_low old_frame_states j g.0 g.1

  -- only the victim offers the frame, and only there
  only_there : (v q : ℕ) (u : Worker) → slice_get old_workers v ≡ Some u → (let o = u.offered in slice_get o.items q ≡ Some k) → h.victim ≡ v
  only_there v q u at has =
      let o = sh.worker_table in
      let g = o.places v q k u at has in
      let same : g.0 ≡ h.frame_state = (let z : Some g.0 ≡ Some h.frame_state = sym g.1 ∙ h.sits in cc) in
      let z : Offered h.victim ≡ Offered v = sym status_was ∙ ap (λ (a : Activation FrameState). let x = a.cursor in x.status) (sym same) ∙ g.2 in
      cc

  offers_now : (v : ℕ) (u : Worker) → slice_get old_workers v ≡ Some u → (h.victim ≡ v → without (offers_of name u) (name k) ≡ offers_of name t.without) × ((h.victim ≡ v → ⊥) → without (offers_of name u) (name k) ≡ offers_of name u)
  offers_now v u at = (
    (λ e.
        let o = h.owner in
        let l = o.offered in
        let same : u ≡ h.owner = (let q : Some u ≡ Some h.owner = sym at ∙ ap (λ i. slice_get old_workers i) (sym e) ∙ h.owns in cc) in
        ap (λ (z : Worker). without (offers_of name z) (name k)) same
        ∙ altering.without_one name (name k) l.items h.at k h.stands (same_name-refl (name k))
        (λ q j here ne. name_off (name j) (name k) (λ z. ne (let y = sh.worker_table in y.once h.victim h.at q k h.owner h.owns h.stands (here ∙ ap (λ i. Some i) (same_place j (offerer h.victim q j h.owner h.owns here) z)))))
        ∙ ap (λ (ns : List ℕ). map name ns) (sym t.withdrawn)),
    (λ ne.
        let l = u.offered in
        altering.without_none name (name k) l.items
        (λ q j here. name_off (name j) (name k) (λ z. ne (only_there v q u at (here ∙ ap (λ i. Some i) (same_place j (offerer v q j u at here) z)))))),
  )

  abbrev count : Worker → ℕ
  count u = let o = u.offered in length o.items

  fewer : count t.without + 1 ≡ count h.owner
  fewer =
      let u = h.owner in
      let o = u.offered in
      ap (λ (ns : List ℕ). length ns + 1) t.withdrawn ∙ length-remove o.items h.at (get_low o.items h.at k h.stands)

  total_now : b'.offered ≡ sum (map (λ (u : Worker). let o = u.offered in length o.items) new_workers)
  total_now =
      let o = sh.worker_table in
      let a = altering.altered_sum (λ _. t.without) (λ (u : Worker). let o = u.offered in length o.items) old_workers h.victim h.owner h.owns fewer in
      let c = ap (λ ws. sum (map (λ (u : Worker). let o = u.offered in length o.items) ws)) t.workers ∙ ap (λ ns. sum ns) (altering.altered_map (holding k t.views) (λ (u : Worker). let o = u.offered in length o.items) halfway w (λ u. refl)) in
      let e = o.total in
      let f = t.offered in
      omega (arith, a, c, e, f)

  -- where a worker offered it before
  place_was : (v q j : ℕ) (u u' : Worker) → Had v u u' → (let o = u'.offered in slice_get o.items q ≡ Some j) → (r : ℕ) × (let o = u.offered in slice_get o.items r ≡ Some j) × (h.victim ≡ v → r ≡ h.at → ⊥)
  place_was v q j u u' o has =
      ⊎_elim (λ g. (q, ap (λ l. slice_get l q) (sym g.1) ∙ has, (λ e. absurd (g.0 e))))
      (λ g.
      let y = h.owner in
      let z = y.offered in
      let l = u.offered in
      let inside : h.at < length l.items = subst (λ (a : Worker). let l = a.offered in h.at < length l.items) (sym g.1) (get_low z.items h.at k h.stands) in
      (altering.skip h.at q, sym (altering.remove_get l.items h.at q inside) ∙ ap (λ l. slice_get l q) (sym g.2) ∙ has, (λ e x. altering.skip_off h.at q x))) o.offers_are

  once_now : (v q r j : ℕ) (u u' : Worker) → slice_get old_workers v ≡ Some u → Had v u u' → (let o = u'.offered in slice_get o.items q ≡ Some j) → (let o = u'.offered in slice_get o.items r ≡ Some j) → q ≡ r
  once_now v q r j u u' at o has also =
      let y = sh.worker_table in
      ⊎_elim (λ g. y.once v q r j u at (ap (λ l. slice_get l q) (sym g.1) ∙ has) (ap (λ l. slice_get l r) (sym g.1) ∙ also))
      (λ g.
      let x = h.owner in
      let z = x.offered in
      let l = u.offered in
      let inside : h.at < length l.items = subst (λ (a : Worker). let l = a.offered in h.at < length l.items) (sym g.1) (get_low z.items h.at k h.stands) in
      altering.skip_one h.at q r (y.once v (altering.skip h.at q) (altering.skip h.at r) j u at (sym (altering.remove_get l.items h.at q inside) ∙ ap (λ l. slice_get l q) (sym g.2) ∙ has)
      (sym (altering.remove_get l.items h.at r inside) ∙ ap (λ l. slice_get l r) (sym g.2) ∙ also))) o.offers_are

  waits_as : (j : ℕ) (a : Activation FrameState) → slice_get new_frame_states j ≡ Some a → ((let x = a.cursor in x.status ≡ Waiting) → IsIn (name j) d.waiting) × (IsIn (name j) d.waiting → let x = a.cursor in x.status ≡ Waiting)
  waits_as j a at = by (which j a at)
    where
      by : Which j a → ((let x = a.cursor in x.status ≡ Waiting) → IsIn (name j) d.waiting) × (IsIn (name j) d.waiting → let x = a.cursor in x.status ≡ Waiting)
      by (taken_over same is) = (
        (λ q. let z : Held w ≡ Waiting = ap (λ (y : Activation FrameState). let x = y.cursor in x.status) is ∙ q in let f : ⊥ = cc in absurd f),
        (λ q. let o = sh.worker_table in let g = o.waiting k h.frame_state h.sits in let z : Offered h.victim ≡ Waiting = sym status_was ∙ g.1 (subst (λ i. IsIn (name i) d.waiting) (sym same) q) in let f : ⊥ = cc in absurd f),
      )
      by (marked x ne at' same is) =
          let o = sh.worker_table in
          let g = o.waiting j x at' in
          let e : (let c = a.cursor in c.status) ≡ (let c = x.cursor in c.status) = ap (λ (y : Activation FrameState). let c = y.cursor in c.status) is in
          ((λ q. g.0 (sym e ∙ q)), (λ q. e ∙ g.1 q))
      by (stays ne at' ne') = let o = sh.worker_table in o.waiting j a at'

  pub worker_table_is : IsWorkerTable code p inputs name b' worker_table_now
  worker_table_is =
      let o = sh.worker_table in record {
        hands = ap (λ hs. set hs w (Some (name k))) (o.hands ∙ sym (altering.altered_map_at (λ _. t.without) (hand_of name) old_workers h.victim h.owner h.owns (ap (λ f. option_map name f) t.same_frame)))
            ∙ sym (altering.altered_set (holding k t.views) (hand_of name) (Some (name k)) halfway w (λ u. refl)) ∙ ap (λ ws. map (hand_of name) ws) (sym t.workers);
        offered = ap (λ l. withdrawn l (name k)) o.offered ∙ altering.withdrawn_is name (name k) (λ _. t.without) old_workers h.victim offers_now
            ∙ sym (altering.altered_map (holding k t.views) (offers_of name) halfway w (λ u. refl)) ∙ ap (λ ws. map (offers_of name) ws) (sym t.workers);
        total = total_now;
        places = λ v q j u at has.
            let r = worker_was v u at in
            let z = place_was v q j r.0 u r.2 has in
            let g = o.places v z.0 j r.0 r.1 z.1 in
            let ne : k ≡ j → ⊥ = (λ e.
            let mine : h.victim ≡ v = only_there v z.0 r.0 r.1 (z.1 ∙ ap (λ i. Some i) (sym e)) in
            let same : r.0 ≡ h.owner = (let y : Some r.0 ≡ Some h.owner = sym r.1 ∙ ap (λ i. slice_get old_workers i) (sym mine) ∙ h.owns in cc) in
            z.2 mine (o.once h.victim z.0 h.at k h.owner h.owns (ap (λ (y : Worker). let l = y.offered in slice_get l.items z.0) (sym same) ∙ z.1 ∙ ap (λ i. Some i) (sym e)) h.stands)) in
            let y = frame_state_later j g.0 ne g.1 in
            (y.0, y.1, y.2 ∙ g.2);
        once = λ v q r j u at has also. let z = worker_was v u at in once_now v q r j z.0 u z.1 z.2 has also;
        waiting = waits_as;
        present = λ n is none. o.present n is (λ j at. none j (subst (λ z. j < z) (sym same_length) at));
      }

  -- ---- names

  pub named_now : AreNamed new_frame_states name
  named_now =
      let g = t.awaits in
      let J : FrameState → FrameState = (λ y. record y { join = (let z = t.awaiting in z.join) }) in
      let first : AreNamed mid name = subst (λ l. AreNamed l name) (sym (changed_known (λ _. t.awaiting) J old_frame_states k h.frame_state h.sits g.1)) (named_changed J old_frame_states k name (λ x. (refl, refl)) named) in
      subst (λ l. AreNamed l name) (sym t.frames) (named_changed (moved_to (Held w)) later k name (λ x. (refl, refl)) (named_changed robbed mid frame_state.last name (λ x. (refl, refl)) first))

  -- ---- the choice

  pub hand_is : slice_get d.hands w ≡ Some None
  hand_is =
      let o = sh.worker_table in
      ap (λ hs. slice_get hs w) o.hands ∙ slice_get-map (hand_of name) old_workers w ∙ ap (λ u. option_map (hand_of name) u) h.idles ∙ ap (λ f. Some (option_map name f)) h.free

  pub offered_is : slice_get (all_offered d.offered) place ≡ Some (name k)
  offered_is =
      let o = sh.worker_table in
      ap (λ l. slice_get (all_offered l) place) o.offered ∙ ap (λ l. slice_get l place) (altering.offered_are name old_workers) ∙ slice_get-map name (offers old_workers) place ∙ ap (λ j. option_map name j) h.is_place
