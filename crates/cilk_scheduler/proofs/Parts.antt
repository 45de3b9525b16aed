-- Steals, waits and syncs, put together from the contracts of the functions.
--
-- - `altered_viewing`, `altered_at`: workers of whom one changes;
-- - `taken`, `offered`: a continuation that is located is offered, and stolen by what the functions
--   change;
-- - `calm`, `may_arrive`: a frame that has come to its sync;
-- - `stays`, `passes_on`: it waits, or its block passes and it makes its sync.
use Rattle.std.proofs.Common.{◌≡◌, inr, ◌+◌, ◌<◌, ℕ, zero, suc, Bool, true, false, true≢false, if◌then◌else◌, ℤ, List, [], ◌∷◌, ◌++◌, length, slice_get, slice_index_or, slice_set, Option, Some, None, refl, sym, ap, ap₂, ◌∙◌, subst, arith}
use Rattle.std.specs.Option.{is_some}
use Rattle.cilk_types.specs.declared.event.Event.TheVariants as events
use Rattle.cilk_program.specs.declared.ask.Ask.TheVariants as asks
use Rattle.cilk_program.specs.Syntax.{Source}
use Rattle.cilk_lower.specs.Code.{CodeView}
use Rattle.cilk_frames.specs.declared.activation.Activation.{Activation}
use Rattle.cilk_hypermap.specs.declared.hypermap.Hypermap.{Hypermap}
use Rattle.cilk_join.specs.Joins.{MayArrive, arrived_at, has_awaited, passes}
use Rattle.cilk_join.specs.Products.{product}
use Rattle.cilk_join.specs.Waits.{shown}
use Rattle.cilk_determinacy.specs.Machine.{State, deeds_at, started}
use Rattle.cilk_determinacy.specs.Runs.{Name, Ask, Pass, Resume, Sync, Deed}
use Rattle.cilk_determinacy.proofs.Started.{started_invokes}
use Rattle.cilk_types.specs.declared.invocation.Invocation.TheVariants.{Spawn}
use Rattle.cilk_determinacy.specs.FrameEnvMachine.{next}
use Rattle.cilk_determinacy.specs.Reducers.{View}
use Rattle.cilk_determinacy.specs.FrameEnvs.{FrameEnv}
use Rattle.cilk_scheduler.specs.declared.scheduler.Scheduler.{Scheduler}
use Rattle.cilk_scheduler.specs.declared.frame_state.FrameState.{FrameState}
use Rattle.cilk_scheduler.specs.declared.frame_state.Status.TheVariants.{Held, Offered, Waiting}
use Rattle.cilk_scheduler.specs.declared.frame_state.Worker.{Worker}
use Rattle.cilk_scheduler.specs.Asking.{WentOn}
use Rattle.cilk_scheduler.specs.Schedulers.{IsWhere, ShowsBy, Sits, is_resuming}
use Rattle.cilk_scheduler.specs.WorkerTables.{WorkerTable}
use Rattle.cilk_scheduler.specs.Events.{Arrives, block_in}
use Rattle.cilk_scheduler.specs.Histories.{DidAsAsked}
use Rattle.cilk_scheduler.specs.Noting.{HasFrame}
use Rattle.cilk_scheduler.specs.Parts.{Alone, Brought, BringsOwn, ContinuationsAreOffered, ContinuationsAreTaken, FramesPass, FramesStayBehind, OwnPiecesMayArrive, Passed, freed, must_wait, working}
use Rattle.cilk_scheduler.specs.FrameStates.{changed, moved_to, robbed, synced, waiting}
use Rattle.cilk_scheduler.specs.Steps.{HasCome, Notes}
use Rattle.cilk_scheduler.specs.Syncing.{AllArrived, HadPassed, NothingStolen, PassesWith}
use Rattle.cilk_scheduler.specs.Waiting.{StaysBehind}
use Rattle.cilk_scheduler.specs.Workers.{altered, is_free, viewing}
use Rattle.cilk_scheduler.proofs.Changing.{changed_twice}
use Rattle.cilk_scheduler.proofs.Histories.{does_as_asked}
use Rattle.cilk_scheduler.proofs.Nexts.{named_next}
use Rattle.cilk_scheduler.proofs.Noted.{noted, views_set}
use Rattle.cilk_scheduler.proofs.OpenBlocks.{last_open, own_fresh, own_passes}
use Rattle.cilk_scheduler.proofs.Stepped.{kept_by}

-- ---- workers

pub altered_viewing : (f : Worker → Worker) (h : Hypermap) (ws : List Worker) (w : ℕ) → altered f (viewing h ws w) w ≡ altered (λ u. f (record u { views = h })) ws w
altered_viewing f h [] w = refl
altered_viewing f h (u ∷ ws) zero = refl
altered_viewing f h (u ∷ ws) (suc w) = ap (λ l. u ∷ l) (altered_viewing f h ws w)

-- by a write at its place
pub altered_at : (f : Worker → Worker) (ws : List Worker) (w : ℕ) (u : Worker) → u ≡ slice_index_or ws w u → w < length ws → slice_set ws w (f u) ≡ altered f ws w
altered_at f [] w u e low = absurd (omega (arith, low))
altered_at f (x ∷ ws) zero u e low = ap (λ y. f y ∷ ws) e
altered_at f (x ∷ ws) (suc w) u e low = ap (λ l. x ∷ l) (altered_at f ws w u e (omega (arith, low)))

no_frame : (f : Option ℕ) → (if is_some f then false else true) ≡ true → f ≡ None
no_frame None h = refl
no_frame (Some k) h = absurd (true≢false (sym h))

free_worker : (o : Option Worker) → is_free o ≡ true → (u : Worker) × (o ≡ Some u) × (u.frame ≡ None)
free_worker None h = absurd (true≢false (sym h))
free_worker (Some u) h = (u, refl, no_frame u.frame h)

-- ---- a continuation is taken over

pub taken : ContinuationsAreTaken
taken b b' w place k h awaiting without views awaited marked withdrawn cleared awaits awaited_is marked_is without_is items workers_mid empty cleared_is workers_is frames_is offered cells journal ticks outcome =
    let f = b.frames in
    let l = b.workers in
    let x = (let a = h.frame_state in a.cursor) in
    let last : awaiting.last ≡ x.last = ap (λ (y : FrameState). y.last) awaits.1 in
    record {
      awaiting = awaiting;
      awaits = awaits;
      without = without;
      same_frame = ap (λ (u : Worker). u.frame) without_is;
      same_views = ap (λ (u : Worker). u.views) without_is;
      withdrawn = items;
      views = views;
      empty = empty;
      frames = frames_is ∙ ap (λ z. changed (moved_to (Held w)) z k) (marked_is ∙ ap₂ (λ z q. changed robbed z q) awaited_is last);
      workers = workers_is ∙ ap (λ z. altered (working k) z w) (cleared_is ∙ ap (λ z. viewing views z w) workers_mid) ∙ altered_viewing (working k) views (altered (λ _. without) l.items h.victim) w;
      offered = offered;
      cells = cells;
      journal = journal;
      ticks = ticks;
      outcome = outcome;
    }

module _ (code : CodeView) (p : Source) (inputs : List ℤ) where
  pub offered : ContinuationsAreOffered code p inputs
  offered name b d s w place victim at sh open_yet idle g =
      let l = b.workers in
      let thief = free_worker (slice_get l.items w) idle in
      let worker_table = sh.worker_table in
      let k = g.1 in
      let it = worker_table.places victim at k g.0 g.2 g.3 in
      let o = sh.sits k it.0 it.1 in
      let f = o.frame in
      let x = (let a = it.0 in a.cursor) in
      let was : IsWhere code p inputs name b s k (name k) f.deeds x (Offered victim) = subst (λ z. IsWhere code p inputs name b s k (name k) f.deeds x z) it.2 o.is_where in
      let count : started f.deeds ≡ suc (started was.0) = ap (λ ds. started ds) was.2 ∙ started_invokes was.0 Spawn was.1 in
      let children = o.children in
      let last = o.last (omega (arith, count, children)) in (
        record { thief = thief.0; owner = g.0; victim = victim; at = at; frame_state = it.0; idles = thief.1; free = thief.2; owns = g.2; stands = g.3; is_place = g.4; sits = it.1; was_open = open_yet },
        refl,
        refl,
        refl,
        (
          last_open code p inputs name b s k it.0 o was.10 was.5 (λ q. let z : Offered victim ≡ Waiting = sym it.2 ∙ q in let n : ⊥ = cc in n) was.0 was.1 was.2 (ap (λ q. s.stolen (name k ++ q ∷ [])) (sym count) ∙ was.4),
          last.0,
        ),
      )

  -- ---- a frame that has come to its sync

  module _ (name : ℕ → Name) (b : Scheduler) (d : WorkerTable) (s : State FrameEnv View) (w k : ℕ) (came : FrameState) (sh : ShowsBy code p inputs name b d s) (f : HasFrame b w k) (went : (let a = f.frame_state in WentOn code inputs a.cursor asks.Sync came)) where
    abbrev x : FrameState
    x = let a = f.frame_state in a.cursor

    sits : Sits code p inputs name b s k f.frame_state
    sits = sh.sits k f.frame_state f.sits

    abbrev past : List (Deed FrameEnv)
    past = let g = (let o = sh.sits k f.frame_state f.sits in o.frame) in g.deeds

    status_is : x.status ≡ Held w
    status_is =
        let g = sh.holds w k f.worker f.at f.has in
        let same : g.frame_state ≡ f.frame_state = (let q : Some g.frame_state ≡ Some f.frame_state = sym g.here ∙ f.sits in cc) in
        ap (λ (a : Activation FrameState). let y = a.cursor in y.status) (sym same) ∙ g.held

    held : IsWhere code p inputs name b s k (name k) past x (Held w)
    held = let o = sh.sits k f.frame_state f.sits in subst (λ z. IsWhere code p inputs name b s k (name k) past x z) status_is o.is_where

    kept : came ≡ record x { cursor = came.cursor; took = came.took }
    kept = kept_by code p inputs x came asks.Sync x.due went

    awake : x.status ≡ Waiting → ⊥
    awake q = let z : Held w ≡ Waiting = sym status_is ∙ q in let n : ⊥ = cc in n

    merged_is : came.merged ≡ x.merged
    merged_is = ap (λ (y : FrameState). y.merged) kept

    key_is : came.children ≡ x.children
    key_is = ap (λ (y : FrameState). y.children) kept

    block_is : block_in came.join ≡ block_in x.join
    block_is = ap (λ (y : FrameState). block_in y.join) kept

    asks_sync : next p inputs (let g = (let o = sh.sits k f.frame_state f.sits in o.frame) in g.what) past ≡ Some Sync
    asks_sync =
        let o = sh.sits k f.frame_state f.sits in
        let g = o.frame in
        let c = o.due held.4 in
        let n = named_next code p inputs g.what g.deeds x came c.0 asks.Sync held.4 c.1 c.2 went in
        n.0

    calm : DidAsAsked p inputs s → is_resuming (deeds_at (s.frames (name k))) ≡ false
    calm asked = let o = sh.sits k f.frame_state f.sits in ap (λ q. is_resuming (deeds_at q)) o.here ∙ by (is_resuming past) refl
      where
        by : (t : Bool) → is_resuming past ≡ t → is_resuming past ≡ false
        by true e =
            let o = sh.sits k f.frame_state f.sits in
            let law = does_as_asked p inputs in
            let ask : Ask FrameEnv = Sync in
            let it = law.order s (name k) o.frame ask asked o.here asks_sync (λ y q. cc) in
            let no : ask ≡ Pass Resume = it.resumes_there e in
            let z : ⊥ = cc in
            absurd z
        by false e = e

    may_arrive : came.merged ≡ false → MayArrive (block_in came.join) (came.children + 1) true
    may_arrive q =
        let o = sh.sits k f.frame_state f.sits in
        subst (λ j. MayArrive j (came.children + 1) true) (sym block_is)
        (subst (λ n. MayArrive (block_in x.join) (n + 1) true) (sym key_is) (inr (own_fresh code p inputs name b s k f.frame_state o held.4 (sym merged_is ∙ q) awake)))

    -- the block passes with the own piece exactly where nothing is awaited
    decides : came.merged ≡ false → (views : Hypermap) → passes (arrived_at (block_in came.join) (came.children + 1) true (product views)) ≡ (if has_awaited (block_in came.join) then false else true)
    decides q views =
        let o = sh.sits k f.frame_state f.sits in
        subst (λ j. passes (arrived_at j (came.children + 1) true (product views)) ≡ (if has_awaited j then false else true)) (sym block_is)
        (subst (λ n. passes (arrived_at (block_in x.join) (n + 1) true (product views)) ≡ (if has_awaited (block_in x.join) then false else true)) (sym key_is)
        (own_passes code p inputs name b s k f.frame_state o held.4 (sym merged_is ∙ q) awake (product views)))

  pub may_bring : OwnPiecesMayArrive code p inputs
  may_bring name b d s w k came t f went = (calm name b d s w k came t.shows f went t.asked, may_arrive name b d s w k came t.shows f went)

  must_none : (x : FrameState) → x.merged ≡ true → must_wait x ≡ true → ⊥
  must_none x q m = true≢false (sym m ∙ rw q refl)

  must_alone : (x : FrameState) → x.merged ≡ false → x.join ≡ None → must_wait x ≡ true → ⊥
  must_alone x q none m = true≢false (sym m ∙ rw (q, none) refl)

  pub must_await : (x : FrameState) → x.merged ≡ false → must_wait x ≡ has_awaited (block_in x.join)
  must_await x q = rw q refl

  pub stays : FramesStayBehind code p inputs
  stays name b b' d s w k came brought views went arrived viewed sh f open_yet gone went_is must brings arrived_is frames_is viewed_is workers_is offered_is cells_is journal_is ticks_is outcome_is = by brings
    where
      by : (let u = f.worker in BringsOwn came u.views brought views) → StaysBehind code p inputs b b' w k
      by (Passed q same views_same) = absurd (must_none came q must)
      by (Alone q none same views_same) = absurd (must_alone came q none must)
      by (Brought q l l' whole at is arrives) =
          let u = f.worker in
          let fr = b.frames in
          let ws = b.workers in
          let j = ap (λ z. block_in z) at in
          let waits = decides name b d s w k came sh f gone q u.views ∙ ap (λ t. if t then false else true) (sym (must_await came q) ∙ must) in
          record {
            worker = f.worker;
            frame_state = f.frame_state;
            came = came;
            after = (let y = waiting came in record y { join = Some l' });
            views = views;
            at = f.at;
            has = f.has;
            sits = f.sits;
            was_open = open_yet;
            went = gone;
            unmerged = sym (merged_is name b d s w k came sh f gone) ∙ q;
            arrives = waited whole waits (subst (λ z. Arrives z (came.children + 1) true (product u.views) whole (shown l'.value) views) (sym j) arrives);
            after_is = refl;
            frames = frames_is
                ∙ ap (λ z. changed waiting z k) (arrived_is ∙ ap (λ z. changed (λ _. brought) z k) went_is ∙ changed_twice (λ _. brought) (λ _. came) fr.items k)
                ∙ changed_twice waiting (λ _. brought) fr.items k ∙ ap (λ y. changed (λ _. waiting y) fr.items k) is;
            workers = workers_is ∙ ap (λ z. altered freed z w) viewed_is ∙ altered_viewing freed views ws.items w;
            offered = offered_is;
            cells = cells_is;
            journal = journal_is;
            ticks = ticks_is;
            outcome = outcome_is;
          }
        where
          waited : (t : Bool) → (let u = f.worker in passes (arrived_at (block_in came.join) (came.children + 1) true (product u.views)) ≡ false) → (let u = f.worker in Arrives (block_in came.join) (came.children + 1) true (product u.views) t (shown l'.value) views)
              → (let u = f.worker in Arrives (block_in came.join) (came.children + 1) true (product u.views) false (shown l'.value) views)
          waited true off h = absurd (true≢false (sym h.0 ∙ off))
          waited false off h = h

  -- ---- its block passes

  module _ (name : ℕ → Name) (b : Scheduler) (d : WorkerTable) (s : State FrameEnv View) (w k : ℕ) (brought : FrameState) (views : Hypermap) (sh : ShowsBy code p inputs name b d s) (h : HasCome code p inputs b w k asks.Sync) where
    has_frame : HasFrame b w k
    has_frame = record { worker = h.worker; frame_state = h.frame_state; at = h.at; has = h.has; sits = h.sits }

    abbrev before : FrameState
    before = let a = h.frame_state in a.cursor

    abbrev now : FrameState
    now = h.came

    kept_as : now ≡ record before { cursor = now.cursor; took = now.took }
    kept_as = kept_by code p inputs before now asks.Sync before.due h.went

    sync_decides : now.merged ≡ false → (let u = h.worker in passes (arrived_at (block_in now.join) (now.children + 1) true (product u.views)) ≡ (if has_awaited (block_in now.join) then false else true))
    sync_decides q = let u = h.worker in decides name b d s w k h.came sh (record { worker = h.worker; frame_state = h.frame_state; at = h.at; has = h.has; sits = h.sits }) h.went q u.views

    views_pass : must_wait now ≡ false → (let u = h.worker in BringsOwn now u.views brought views) → (let u = h.worker in PassesWith before u.views views)
    views_pass must (Passed q same views_same) = HadPassed (sym (ap (λ (y : FrameState). y.merged) kept_as) ∙ q) views_same
    views_pass must (Alone q none same views_same) = NothingStolen (sym (ap (λ (y : FrameState). y.merged) kept_as) ∙ q) (sym (ap (λ (y : FrameState). y.join) kept_as) ∙ none) views_same
    views_pass must (Brought q l l' whole at is arrives) =
        let u = h.worker in
        let all = sync_decides q ∙ ap (λ t. if t then false else true) (sym (must_await now q) ∙ must) in
        let there = passed whole all (subst (λ z. Arrives z (now.children + 1) true (product u.views) whole (shown l'.value) views) (sym (ap (λ z. block_in z) at)) arrives) in
        AllArrived (sym (ap (λ (y : FrameState). y.merged) kept_as) ∙ q) (shown l'.value)
        (subst (λ z. Arrives z (before.children + 1) true (product u.views) true (shown l'.value) views) (ap (λ (y : FrameState). block_in y.join) kept_as)
        (subst (λ n. Arrives (block_in now.join) (n + 1) true (product u.views) true (shown l'.value) views) (ap (λ (y : FrameState). y.children) kept_as) there))
      where
        passed : (t : Bool) → (let u = h.worker in passes (arrived_at (block_in now.join) (now.children + 1) true (product u.views)) ≡ true) → (let u = h.worker in Arrives (block_in now.join) (now.children + 1) true (product u.views) t (shown l'.value) views)
            → (let u = h.worker in Arrives (block_in now.join) (now.children + 1) true (product u.views) true (shown l'.value) views)
        passed true on g = g
        passed false on g = absurd (true≢false (sym on ∙ g.0))

    -- its own piece changes nothing that stays after the sync
    same_sync : (let u = h.worker in BringsOwn now u.views brought views) → synced brought ≡ synced now
    same_sync (Passed q same views_same) = ap (λ y. synced y) same
    same_sync (Alone q none same views_same) = ap (λ y. synced y) same
    same_sync (Brought q l l' whole at is arrives) = ap (λ y. synced y) is

  pub passes_on : FramesPass code p inputs
  passes_on name b b' d s w k brought views went arrived acted sh h went_is must brings arrived_is acted_is frames_is ticks_is journal_is cells_is workers_is offered_is outcome_is = (views_pass name b d s w k brought views sh h must brings, notes)
    where
      acted_then : acted ≡ changed synced went k
      acted_then =
          let l = b.frames in
          acted_is ∙ ap (λ z. changed synced z k) (arrived_is ∙ ap (λ z. changed (λ _. brought) z k) went_is ∙ changed_twice (λ _. brought) (λ _. h.came) l.items k)
          ∙ changed_twice synced (λ _. brought) l.items k ∙ ap (λ y. changed (λ _. y) l.items k) (same_sync name b d s w k brought views sh h brings)
          ∙ sym (ap (λ z. changed synced z k) went_is ∙ changed_twice synced (λ _. h.came) l.items k)

      notes : let c = b.cells in Notes code p inputs b b' w k h.came (synced h.came) events.Sync c.items views
      notes =
          let c = b.cells in
          let l = b.workers in
          noted code p inputs b b' w k asks.Sync h synced events.Sync c.items views went acted (λ y. (refl, refl)) went_is acted_then frames_is ticks_is journal_is cells_is (inr (workers_is ∙ sym (views_set code p inputs l.items w h.worker views h.at))) offered_is outcome_is
