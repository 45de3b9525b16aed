-- A wait at a sync makes no step of the free machine, and a sync is one step.
--
-- - `acts_apart`, `none_of`: other events are no syncs;
-- - `must_unmerged`, `sits_on`: a frame that has stepped to its sync;
-- - `own_brings`: the arrival of its own piece;
-- - `waits_are_steps`, `syncs_are_steps`: from what the functions change, by numbers, to the laws
--   of waits and syncs.
use Rattle.std.proofs.Common.{◌≡◌, ◌+◌, ◌-◌, ◌++◌, ◌∷◌, [], ℕ, suc, Bool, true, false, if◌then◌else◌, ℤ, List, length, slice_get, Some, None, Result, Ok, Err, IfOk, refl, sym, ap, ◌∙◌, subst}
use Rattle.cilk_types.specs.declared.event.Event as numbered
use Rattle.cilk_types.specs.declared.event.Event.TheVariants as events
use Rattle.cilk_program.specs.Syntax.{Source}
use Rattle.cilk_program.specs.declared.ask.Ask.{Ask}
use Rattle.cilk_program.specs.declared.ask.Ask.TheVariants as asks
use Rattle.cilk_lower.specs.Code.{CodeView}
use Rattle.cilk_frames.specs.declared.activation.Activation.{Activation}
use Rattle.cilk_hypermap.specs.declared.hypermap.Hypermap.{Hypermap}
use Rattle.cilk_determinacy.specs.Machine.{State}
use Rattle.cilk_determinacy.specs.Runs.{Name}
use Rattle.cilk_determinacy.specs.Reducers.{View}
use Rattle.cilk_determinacy.specs.FrameEnvs.{FrameEnv}
use Rattle.cilk_scheduler.specs.Acting.{IsShown}
use Rattle.cilk_scheduler.specs.Asking.{WentOn, refusal}
use Rattle.cilk_scheduler.specs.Schedulers.{ShowsBy}
use Rattle.cilk_scheduler.specs.WorkerTables.{WorkerTable, Chooses, Did, Waited}
use Rattle.cilk_scheduler.specs.GoneOn.{HaveGoneOn}
use Rattle.cilk_scheduler.specs.Noting.{HasFrame}
use Rattle.cilk_scheduler.specs.Parts.{BringsOwn, must_wait}
use Rattle.cilk_scheduler.specs.FrameStates.{changed}
use Rattle.cilk_scheduler.specs.Steps.{IsDone}
use Rattle.cilk_scheduler.specs.Workers.{viewing}
use Rattle.cilk_scheduler.specs.declared.scheduler.Scheduler.{Scheduler}
use Rattle.cilk_scheduler.specs.declared.choice.Choice.TheVariants as choices
use Rattle.cilk_scheduler.specs.declared.choice.Stop.{Stop}
use Rattle.cilk_scheduler.specs.declared.choice.Told.{Told}
use Rattle.cilk_scheduler.specs.declared.choice.Told.TheVariants as told
use Rattle.cilk_scheduler.specs.declared.frame_state.FrameState.{FrameState}
use Rattle.cilk_scheduler.specs.declared.frame_state.Worker.{Worker}
use Rattle.cilk_scheduler.proofs.Changing.{changed_here}
use Rattle.cilk_scheduler.proofs.Noted.{frames_come}
use Rattle.cilk_scheduler.proofs.Parts.{may_bring, passes_on, stays}
use Rattle.cilk_scheduler.proofs.Synced.{syncs_are_shown}
use Rattle.cilk_scheduler.proofs.Waiting.{waits_are_shown}
use Rattle.cilk_schedule.specs.Acts.{Acts, MakesEvent, WentTo, begins, resumes, reads, writes, gives, creates, updates, sets, values, prints}
use Rattle.cilk_schedule.specs.Choices.{IsReadyAt}
use Rattle.cilk_schedule.specs.Passing.{MayBringOwn, OwnComes, StaysAt, SyncsAreSteps, WaitsAreSteps, WroteSync}
use Rattle.cilk_schedule.specs.Sound.{IsAccepted}
use Rattle.cilk_schedule.proofs.Stepping.{held_place}
use Rattle.cilk_schedule.proofs.Workers.{same_at}

-- ---- other events

acts_apart : (frames : List (Activation FrameState)) (cells : List ℤ) (views : Hypermap) (k : ℕ) (ask : Ask) (act : FrameState → FrameState) (event : numbered.Event) (cells' : List ℤ) (views' : Hypermap) → Acts frames cells views k ask act event cells' views' → event ≡ events.Sync → ⊥
acts_apart frames cells views k ask act event cells' views' begins q = let z : events.Begin (k + 1) ≡ events.Sync = q in cc
acts_apart frames cells views k ask act event cells' views' resumes q = let z : events.Resume (k + 1) ≡ events.Sync = q in cc
acts_apart frames cells views k ask act event cells' views' (reads place n v means at) q = let z : events.Read n v ≡ events.Sync = q in cc
acts_apart frames cells views k ask act event cells' views' (writes place n v means) q = let z : events.Write n v ≡ events.Sync = q in cc
acts_apart frames cells views k ask act event cells' views' (gives n v a at is) q = let z : events.Write n v ≡ events.Sync = q in cc
acts_apart frames cells views k ask act event cells' views' (creates r j vs means is) q = let z : events.Create j ≡ events.Sync = q in cc
acts_apart frames cells views k ask act event cells' views' (updates r v j vs word means is) q = let z : events.Update j v ≡ events.Sync = q in cc
acts_apart frames cells views k ask act event cells' views' (sets r v j vs word means is) q = let z : events.Set j v ≡ events.Sync = q in cc
acts_apart frames cells views k ask act event cells' views' (values r v j vs means num is) q = let z : events.Value j v ≡ events.Sync = q in cc
acts_apart frames cells views k ask act event cells' views' (prints v vs word is) q = let z : events.Print v ≡ events.Sync = q in cc

pub none_of : (frames frames' : List (Activation FrameState)) (cells cells' : List ℤ) (views views' : Hypermap) (k : ℕ) (ask : Ask) (event : numbered.Event) → MakesEvent frames frames' cells cells' views views' k ask event → event ≡ events.Sync → ⊥
none_of frames frames' cells cells' views views' k ask event m q = acts_apart frames cells views k ask m.0 event cells' views' m.1 q

-- ---- a frame that has stepped to its sync

unmerged : (m z : Bool) → (if m then false else z) ≡ true → m ≡ false
unmerged true z q = let n : false ≡ true = q in cc
unmerged false z q = refl

must_unmerged : (x : FrameState) → must_wait x ≡ true → x.merged ≡ false
must_unmerged x q = unmerged x.merged _ q

module _ (code : CodeView) (p : Source) (inputs : List ℤ) (name : ℕ → Name) (b b1 b2 : Scheduler) (d : WorkerTable) (s : State FrameEnv View) (v k : ℕ) (sh : IsShown code p inputs name b d s) (still : b.outcome ≡ None) (ready : IsReadyAt b (suc v) k) (go : WentTo code inputs b b1 k)
    (sync : b1.asked ≡ asks.Sync) where
  abbrev worker : (u : Worker) × (let l = b.workers in slice_get l.items v ≡ Some u) × (u.frame ≡ Some k)
  worker = let l = b.workers in held_place l.items v k ready.held

  abbrev frame : HasFrame b v k
  frame = record { worker = worker.0; frame_state = go.frame_state; at = worker.1; has = worker.2; sits = go.sits }

  went : let x = (let a = go.frame_state in a.cursor) in WentOn code inputs x asks.Sync go.came
  went = let x = (let a = go.frame_state in a.cursor) in subst (λ q. WentOn code inputs x q go.came) sync go.went

  sits_on : let f = b1.frames in slice_get f.items k ≡ Some (record go.frame_state { cursor = go.came })
  sits_on = let f = b.frames in ap (λ l. slice_get l k) go.frames ∙ changed_here (λ _. go.came) f.items k go.frame_state go.sits

  may : MayBringOwn go.came
  may = (may_bring code p inputs name b d s v k go.came sh frame went).1

  own_brings : (arrived : List (Activation FrameState)) (viewed : List Worker) (t : let f = b1.frames in let l = b1.workers in OwnComes f.items arrived l.items viewed v k) → let u = worker.0 in BringsOwn go.came u.views t.brought t.views
  own_brings arrived viewed t =
      let f = b1.frames in
      let l = b.workers in
      let u = worker.0 in
      let one : t.frame_state ≡ record go.frame_state { cursor = go.came } = same_at f.items k t.frame_state (record go.frame_state { cursor = go.came }) t.sits sits_on in
      let two : t.worker ≡ u = same_at l.items v t.worker u (ap (λ z. slice_get z.items v) (sym go.workers) ∙ t.at) worker.1 in
      subst (λ (z : Worker). BringsOwn go.came z.views t.brought t.views) two
      (subst (λ (a : Activation FrameState). let w = t.worker in BringsOwn a.cursor w.views t.brought t.views) one t.brings)

  pub waits_on : must_wait go.came ≡ true → StaysAt b1 b2 v k → (d' : WorkerTable) × Chooses p inputs s d (choices.Run (suc v)) Waited s d' × ShowsBy code p inputs name b2 d' s
  waits_on must t =
      let f1 = b1.frames in
      let o = t.comes in
      waits_are_shown code p inputs name b b2 d s v k sh.shows (may_bring code p inputs name b d s v k go.came sh frame went).0
      (stays code p inputs name b b2 d s v k go.came o.brought o.views f1.items t.arrived t.viewed sh.shows frame still went go.frames must (own_brings t.arrived t.viewed o) o.frames_are t.frames (o.workers_are ∙ ap (λ l. viewing o.views l.items v) go.workers) t.workers
      (t.offered ∙ go.offered) (ap (λ z. z.items) (t.cells ∙ go.cells)) (ap (λ z. z.items) (t.journal ∙ go.journal)) (t.ticks ∙ go.ticks) (t.outcome ∙ go.outcome))

  pub syncs_on : IsAccepted code b1 k → must_wait go.came ≡ false → WroteSync b1 b2 v k → HaveGoneOn s → IsDone code p inputs name b2 d s v
  syncs_on ok must wrote gone_on =
      let f = b.frames in
      let f1 = b1.frames in
      let c = b.cells in
      let c1 = b1.cells in
      let e = b.journal in
      let e1 = b1.journal in
      let q = ok.frame_state in
      let y = q.cursor in
      let ticks : ℕ = y.took - y.counted in
      let fine : refusal (b.ticks + ticks) (length e.items) (length f1.items) (length c.items) code.layout asks.Sync ≡ None =
      subst (λ k. refusal (b.ticks + ticks) (length e.items) (length f1.items) (length c.items) code.layout k ≡ None) sync
      (subst (λ t. refusal (t + ticks) (length e.items) (length f1.items) (length c.items) code.layout b1.asked ≡ None) go.ticks
      (subst (λ z. refusal (b1.ticks + ticks) (length z.items) (length f1.items) (length c.items) code.layout b1.asked ≡ None) go.journal
      (subst (λ z. refusal (b1.ticks + ticks) (length e1.items) (length f1.items) (length z.items) code.layout b1.asked ≡ None) go.cells ok.accepted))) in
      let come = frames_come code p inputs b v k ticks asks.Sync go.came f1.items frame still went go.frames
      (λ a here. ap (λ (z : Activation FrameState). let x = z.cursor in x.took - x.counted) (same_at f1.items k q a ok.sits here)) fine in
      let h = come.0 in
      let made = wrote.made in
      let n = wrote.noted in
      let t = wrote.behind (record go.frame_state { cursor = go.came }) sits_on may in
      let o = t.comes in
      let m = made.workers in
      let fm = made.frames in
      let brings : (let u = h.worker in BringsOwn h.came u.views o.brought o.views) =
      subst (λ z. let u = h.worker in BringsOwn z u.views o.brought o.views) (sym come.3)
      (subst (λ (u : Worker). BringsOwn go.came u.views o.brought o.views) (sym come.1) (own_brings t.arrived m.items o)) in
      let went_is : f1.items ≡ changed (λ _. h.came) f.items k = go.frames ∙ ap (λ z. changed (λ _. z) f.items k) (sym come.3) in
      let r = passes_on code p inputs name b b2 d s v k o.brought o.views f1.items t.arrived fm.items sh.shows h went_is (ap (λ z. must_wait z) come.3 ∙ must) brings o.frames_are t.frames n.frames
      (λ a here. n.ticks a here ∙ ap (λ z. z + (let x = a.cursor in x.took - x.counted)) (wrote.ticks ∙ go.ticks))
      (n.journal ∙ ap (λ l. l ++ (record { frame = k; event = events.Sync }) ∷ []) (wrote.journal ∙ ap (λ z. z.items) go.journal)) (n.cells ∙ ap (λ z. z.items) (t.cells ∙ go.cells))
      (n.workers ∙ o.workers_are ∙ ap (λ l. viewing o.views l.items v) go.workers) (n.offered ∙ t.offered ∙ go.offered) (n.outcome ∙ t.outcome ∙ go.outcome) in
      syncs_are_shown code p inputs name b b2 d s v k sh.lays sh.shows sh.asked gone_on h o.views r.0 r.1

module _ (code : CodeView) (inputs : List ℤ) (b b1 b2 : Scheduler) (worker v k : ℕ) (is : worker ≡ suc v) (ready : IsReadyAt b worker k) (go : WentTo code inputs b b1 k) where
  ready_at : IsReadyAt b (suc v) k
  ready_at = subst (λ z. IsReadyAt b z k) is ready

  came_at : let f = b1.frames in slice_get f.items k ≡ Some (record go.frame_state { cursor = go.came })
  came_at = let f = b.frames in ap (λ l. slice_get l k) go.frames ∙ changed_here (λ _. go.came) f.items k go.frame_state go.sits

  pub waits_are_steps : b1.asked ≡ asks.Sync → ((a : Activation FrameState) → (let f = b1.frames in slice_get f.items k ≡ Some a) → must_wait a.cursor ≡ true)
      → ((a : Activation FrameState) → (let f = b1.frames in slice_get f.items k ≡ Some a) → (let x = a.cursor in x.merged ≡ false) → MayBringOwn a.cursor → StaysAt b1 b2 v k) → b.outcome ≡ None → WaitsAreSteps code inputs b b2 (choices.Run worker) told.Waits
  waits_are_steps sync must stay still = λ p name d s sh.
      let came : Activation FrameState = record go.frame_state { cursor = go.came } in
      let waits = must came came_at in
      subst (λ z. (d' : WorkerTable) × Chooses p inputs s d (choices.Run z) Waited s d' × ShowsBy code p inputs name b2 d' s) (sym is)
      (waits_on code p inputs name b b1 b2 d s v k sh still ready_at go sync waits
      (stay came came_at (must_unmerged go.came waits) (may code p inputs name b b1 b2 d s v k sh still ready_at go sync)))

  pub syncs_are_steps : IsAccepted code b1 k → (b1.asked ≡ asks.Sync → (a : Activation FrameState) → (let f = b1.frames in slice_get f.items k ≡ Some a) → must_wait a.cursor ≡ false) → (r : Result Told Stop)
      → IfOk r (λ t. (e : numbered.Event) × (t ≡ told.Did (record { frame = k + 1; event = e })) × (e ≡ events.Sync → WroteSync b1 b2 v k)) → IfOk r (λ t. b.outcome ≡ None → SyncsAreSteps code inputs b b2 (choices.Run worker) t)
  syncs_are_steps ok must (Ok t) q = λ still.
      subst (λ t. SyncsAreSteps code inputs b b2 (choices.Run worker) t) (sym q.1)
      (λ kind p name d s sh gone_on.
      let wrote = q.2 kind in
      subst (λ z. (s' : State FrameEnv View) × Chooses p inputs s d (choices.Run z) Did s' d × ShowsBy code p inputs name b2 d s') (sym is)
      (syncs_on code p inputs name b b1 b2 d s v k sh still ready_at go wrote.asked ok (must wrote.asked (record go.frame_state { cursor = go.came }) came_at) wrote gone_on))
  syncs_are_steps ok must (Err x) q = tt
