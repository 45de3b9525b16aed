-- An event that starts and ends no frame and no block is a step of the free machine.
--
-- - `keeps_ticks`: it uses and counts no ticks;
-- - `made`, `touched_still`, `touched_views`: it is made;
-- - `is_step`: from what the functions change, by numbers, to the law of the event;
-- - `held_place`: the worker that has a frame.
use Rattle.std.proofs.Common.{◌≡◌, ◌⊎◌, ◌+◌, ◌-◌, ℕ, suc, ℤ, List, [], ◌∷◌, ◌++◌, length, slice_get, slice_set, Option, Some, None, refl, sym, ap, ◌∙◌, subst, arith, ◌<◌, Result, Ok, Err, IfOk, OnOk, inl, inr}
use Rattle.cilk_types.specs.declared.event.Event as numbered
use Rattle.cilk_types.specs.declared.event.Event.TheVariants as events
use Rattle.cilk_types.specs.declared.event.Instance.{Instance}
use Rattle.cilk_program.specs.Scopes.{Scope}
use Rattle.cilk_program.specs.declared.ask.Ask.{Ask}
use Rattle.cilk_program.specs.declared.ask.Ask.TheVariants as asks
use Rattle.cilk_program.specs.Syntax.{Source}
use Rattle.cilk_lower.specs.Code.{CodeView}
use Rattle.cilk_monoid.specs.declared.kind.MonoidKind.TheVariants.{Append}
use Rattle.cilk_monoid.specs.Kinds.{structure_of}
use Rattle.cilk_hypermap.specs.Hypermap.{ChangesIn, value_in}
use Rattle.cilk_frames.specs.declared.cursor.Answer.TheVariants as answers
use Rattle.cilk_frames.specs.declared.activation.Activation.{Activation}
use Rattle.cilk_hypermap.specs.Views.{output}
use Rattle.cilk_hypermap.specs.declared.hypermap.Hypermap.{Hypermap}
use Rattle.cilk_determinacy.specs.Machine.{State}
use Rattle.cilk_determinacy.specs.Runs.{Name}
use Rattle.cilk_determinacy.specs.Reducers.{View}
use Rattle.cilk_determinacy.specs.FrameEnvs.{FrameEnv}
use Rattle.cilk_scheduler.specs.Acting.{IsShown}
use Rattle.cilk_scheduler.specs.Asking.{refusal}
use Rattle.cilk_scheduler.specs.Schedulers.{ShowsBy}
use Rattle.cilk_scheduler.specs.WorkerTables.{WorkerTable, Chooses, Did}
use Rattle.cilk_scheduler.specs.Workers.{frame_in, held_by}
use Rattle.cilk_scheduler.specs.declared.choice.Choice.TheVariants as choices
use Rattle.cilk_scheduler.specs.declared.choice.Stop.{Stop}
use Rattle.cilk_scheduler.specs.declared.choice.Told.{Told}
use Rattle.cilk_scheduler.specs.declared.choice.Told.TheVariants as told
use Rattle.cilk_schedule.specs.Choices.{IsReadyAt}
use Rattle.cilk_scheduler.specs.Events.{SeesAt}
use Rattle.cilk_scheduler.specs.Noting.{HasFrame}
use Rattle.cilk_scheduler.specs.FrameStates.{answered, changed, stranded}
use Rattle.cilk_scheduler.specs.Steps.{HasCome, IsDone, Notes}
use Rattle.cilk_scheduler.specs.declared.scheduler.Scheduler.{Scheduler}
use Rattle.cilk_scheduler.specs.declared.frame_state.FrameState.{FrameState}
use Rattle.cilk_scheduler.specs.declared.frame_state.Worker.{Worker}
use Rattle.cilk_scheduler.proofs.Noted.{frames_come, noted, sight_stays}
use Rattle.cilk_scheduler.proofs.Strands as strands
use Rattle.cilk_scheduler.proofs.CellEvents as touching
use Rattle.cilk_scheduler.proofs.ReducerEvents as reducing
use Rattle.cilk_schedule.specs.Acts.{Acts, EventsAreSteps, IsTouch, MakesEvent, Touched, WentTo, Wrote, begins, resumes, reads, writes, gives, creates, updates, sets, values, prints}
use Rattle.cilk_schedule.specs.Sound.{IsAccepted}
use Rattle.cilk_schedule.proofs.Workers.{same_at}
use Rattle.cilk_scheduler.proofs.Placed.{get_some}

pub keeps_ticks : (frames : List (Activation FrameState)) (cells : List ℤ) (views : Hypermap) (k : ℕ) (ask : Ask) (act : FrameState → FrameState) (event : numbered.Event) (cells' : List ℤ) (views' : Hypermap)
    → Acts frames cells views k ask act event cells' views' → (x : FrameState) → let y = act x in (y.took ≡ x.took) × (y.counted ≡ x.counted)
keeps_ticks frames cells views k ask act event cells' views' begins x = (refl, refl)
keeps_ticks frames cells views k ask act event cells' views' resumes x = (refl, refl)
keeps_ticks frames cells views k ask act event cells' views' (reads place n v means at) x = (refl, refl)
keeps_ticks frames cells views k ask act event cells' views' (writes place n v means) x = (refl, refl)
keeps_ticks frames cells views k ask act event cells' views' (gives n v a at is) x = (refl, refl)
keeps_ticks frames cells views k ask act event cells' views' (creates r j vs means is) x = (refl, refl)
keeps_ticks frames cells views k ask act event cells' views' (updates r v j vs word means is) x = (refl, refl)
keeps_ticks frames cells views k ask act event cells' views' (sets r v j vs word means is) x = (refl, refl)
keeps_ticks frames cells views k ask act event cells' views' (values r v j vs means num is) x = (refl, refl)
keeps_ticks frames cells views k ask act event cells' views' (prints v vs word is) x = (refl, refl)

module _ (code : CodeView) (p : Source) (inputs : List ℤ) (name : ℕ → Name) (b b' : Scheduler) (d : WorkerTable) (s : State FrameEnv View) (w k : ℕ) (sh : IsShown code p inputs name b d s) (frames : List (Activation FrameState)) (cells : List ℤ) (views : Hypermap)
    (cells_are : let c = b.cells in cells ≡ c.items) where
  -- a frame that has stepped to its request sees what it saw before
  saw : (ask : Ask) (h : HasCome code p inputs b w k ask) → (let f = b.frames in frames ≡ changed (λ _. h.came) f.items k) → (scope : Scope ℕ Instance) → (let f = b.frames in SeesAt f.items k scope) → SeesAt frames k scope
  saw ask h is scope sees = let f = b.frames in (sight_stays f.items frames k h.came is).0 scope sees

  shown_by : (ask : Ask) (act : FrameState → FrameState) (event : numbered.Event) (cells' : List ℤ) (views' : Hypermap) → Acts frames cells views k ask act event cells' views' → (h : HasCome code p inputs b w k ask)
      → (let f = b.frames in frames ≡ changed (λ _. h.came) f.items k) → (let u = h.worker in views ≡ u.views) → Notes code p inputs b b' w k h.came (act h.came) event cells' views' → IsDone code p inputs name b' d s w
  shown_by ask act event cells' views' begins h is same n =
      let c = b.cells in let u = h.worker in
      let one : k + 1 ≡ suc k = omega arith in
      strands.begins code p inputs name b b' d s w k sh.lays sh.shows sh.asked h
      (subst (λ l. Notes code p inputs b b' w k h.came (stranded h.came) (events.Begin (suc k)) l u.views) cells_are (subst (λ v. Notes code p inputs b b' w k h.came (stranded h.came) (events.Begin (suc k)) cells v) same (subst (λ z. Notes code p inputs b b' w k h.came (stranded h.came) (events.Begin z) cells views) one n)))
  shown_by ask act event cells' views' resumes h is same n =
      let c = b.cells in let u = h.worker in
      let one : k + 1 ≡ suc k = omega arith in
      strands.resumes code p inputs name b b' d s w k sh.lays sh.shows sh.asked h
      (subst (λ l. Notes code p inputs b b' w k h.came (stranded h.came) (events.Resume (suc k)) l u.views) cells_are (subst (λ v. Notes code p inputs b b' w k h.came (stranded h.came) (events.Resume (suc k)) cells v) same (subst (λ z. Notes code p inputs b b' w k h.came (stranded h.came) (events.Resume z) cells views) one n)))
  shown_by ask act event cells' views' (reads x i v means at) h is same n =
      let c = b.cells in let u = h.worker in
      touching.reads code p inputs name b b' d s w k x i v sh h (λ scope sees. means scope (saw (asks.Read x) h is scope sees)) (subst (λ l. slice_get l i ≡ Some v) cells_are at)
      (subst (λ l. Notes code p inputs b b' w k h.came (answered (answers.Value v) h.came) (events.Read i v) l u.views) cells_are (subst (λ q. Notes code p inputs b b' w k h.came (answered (answers.Value v) h.came) (events.Read i v) cells q) same n))
  shown_by ask act event cells' views' (writes x i v means) h is same n =
      let c = b.cells in let u = h.worker in
      touching.writes code p inputs name b b' d s w k x i v sh h (λ scope sees. means scope (saw (asks.Write x v) h is scope sees))
      (subst (λ l. Notes code p inputs b b' w k h.came (answered answers.Done h.came) (events.Write i v) (slice_set l i v) u.views) cells_are (subst (λ q. Notes code p inputs b b' w k h.came (answered answers.Done h.came) (events.Write i v) (slice_set cells i v) q) same n))
  shown_by ask act event cells' views' (gives i v a at res) h is same n =
      let c = b.cells in let u = h.worker in let f = b.frames in
      let here : slice_get frames k ≡ Some (record h.frame_state { cursor = h.came }) = (sight_stays f.items frames k h.came is).1 h.frame_state h.sits in
      let one : a ≡ record h.frame_state { cursor = h.came } = same_at frames k a (record h.frame_state { cursor = h.came }) at here in
      touching.results code p inputs name b b' d s w k i v sh h (sym (ap (λ (z : Activation FrameState). z.result) one) ∙ res)
      (subst (λ l. Notes code p inputs b b' w k h.came (answered answers.Done h.came) (events.Write i v) (slice_set l i v) u.views) cells_are (subst (λ q. Notes code p inputs b b' w k h.came (answered answers.Done h.came) (events.Write i v) (slice_set cells i v) q) same n))
  shown_by ask act event cells' views' (creates r j vs means to) h is same n =
      let c = b.cells in
      reducing.creates code p inputs name b b' d s w k r j vs sh h (λ scope sees. means scope (saw (asks.Create r) h is scope sees)) (subst (λ v. ChangesIn v vs r.kind j (Some (structure_of r.kind).unit)) same to)
      (subst (λ l. Notes code p inputs b b' w k h.came (answered answers.Done h.came) (events.Create j) l vs) cells_are n)
  shown_by ask act event cells' views' (updates r v j vs word means to) h is same n =
      let c = b.cells in
      reducing.updates code p inputs name b b' d s w k r v j vs sh h word (λ scope sees. means scope (saw (asks.Update r v) h is scope sees))
      (subst (λ q. ChangesIn q vs r.kind j (Some ((structure_of r.kind).combine (value_in q r.kind j) ((structure_of r.kind).single v)))) same to)
      (subst (λ l. Notes code p inputs b b' w k h.came (answered answers.Done h.came) (events.Update j v) l vs) cells_are n)
  shown_by ask act event cells' views' (sets r v j vs word means to) h is same n =
      let c = b.cells in
      reducing.sets code p inputs name b b' d s w k r v j vs sh h word (λ scope sees. means scope (saw (asks.Set r v) h is scope sees)) (subst (λ q. ChangesIn q vs r.kind j (Some ((structure_of r.kind).single v))) same to)
      (subst (λ l. Notes code p inputs b b' w k h.came (answered answers.Done h.came) (events.Set j v) l vs) cells_are n)
  shown_by ask act event cells' views' (values r v j vs means num to) h is same n =
      let c = b.cells in
      reducing.reads_value code p inputs name b b' d s w k r v j vs sh h (λ scope sees. means scope (saw (asks.Value r) h is scope sees)) (subst (λ q. v ≡ (structure_of r.kind).number (value_in q r.kind j)) same num)
      (subst (λ q. ChangesIn q vs r.kind j (Some (value_in q r.kind j))) same to)
      (subst (λ l. Notes code p inputs b b' w k h.came (answered (answers.Value v) h.came) (events.Value j v) l vs) cells_are n)
  shown_by ask act event cells' views' (prints v vs word to) h is same n =
      let c = b.cells in
      reducing.prints code p inputs name b b' d s w k v vs sh h word (subst (λ q. ChangesIn q vs Append output (Some ((structure_of Append).combine (value_in q Append output) ((structure_of Append).single v)))) same to)
      (subst (λ l. Notes code p inputs b b' w k h.came (answered answers.Done h.came) (events.Print v) l vs) cells_are n)

module _ (code : CodeView) (p : Source) (inputs : List ℤ) (name : ℕ → Name) (b b1 b2 : Scheduler) (d : WorkerTable) (s : State FrameEnv View) (w k : ℕ) (u : Worker) where
  pub is_step : IsShown code p inputs name b d s → b.outcome ≡ None → (let l = b.workers in slice_get l.items w ≡ Some u) → u.frame ≡ Some k → WentTo code inputs b b1 k → IsAccepted code b1 k → (event : numbered.Event) → Wrote b1 b2 w k event → IsDone code p inputs name b2 d s w
  is_step sh still at has go ok event wrote =
      let f = b.frames in let f1 = b1.frames in
      let c = b.cells in let c1 = b1.cells in
      let e = b.journal in let e1 = b1.journal in
      let frame : HasFrame b w k = record { worker = u; frame_state = go.frame_state; at = at; has = has; sits = go.sits } in
      let q = ok.frame_state in let y = q.cursor in
      let ticks : ℕ = y.took - y.counted in
      let fine : refusal (b.ticks + ticks) (length e.items) (length f1.items) (length c.items) code.layout b1.asked ≡ None =
      subst (λ t. refusal (t + ticks) (length e.items) (length f1.items) (length c.items) code.layout b1.asked ≡ None) go.ticks
      (subst (λ z. refusal (b1.ticks + ticks) (length z.items) (length f1.items) (length c.items) code.layout b1.asked ≡ None) go.journal
      (subst (λ z. refusal (b1.ticks + ticks) (length e1.items) (length f1.items) (length z.items) code.layout b1.asked ≡ None) go.cells ok.accepted)) in
      let come = frames_come code p inputs b w k ticks b1.asked go.came f1.items frame still go.went go.frames
      (λ a here. ap (λ (z : Activation FrameState). let x = z.cursor in x.took - x.counted) (same_at f1.items k q a ok.sits here)) fine in
      let h = come.0 in
      let t = wrote.touched in
      let made = wrote.made in
      let m = t.makes in
      let went_is : f1.items ≡ changed (λ _. h.came) f.items k = go.frames ∙ ap (λ z. changed (λ _. z) f.items k) (sym come.3) in
      let one : t.worker ≡ h.worker = (let ws = b.workers in same_at ws.items w t.worker h.worker (ap (λ l. slice_get l.items w) (sym go.workers) ∙ t.at) h.at) in
      let both : (let ws = b.workers in let ws2 = b2.workers in let z = h.worker in ((ws2.items ≡ ws.items) × (t.views ≡ z.views)) ⊎ (ws2.items ≡ slice_set ws.items w (record z { views = t.views }))) =
      subst (λ l. let ws2 = b2.workers in let z = h.worker in ((ws2.items ≡ l.items) × (t.views ≡ z.views)) ⊎ (ws2.items ≡ slice_set l.items w (record z { views = t.views }))) go.workers
      (subst (λ z. let l = b1.workers in let ws2 = b2.workers in ((ws2.items ≡ l.items) × (t.views ≡ z.views)) ⊎ (ws2.items ≡ slice_set l.items w (record z { views = t.views }))) one
      (subst (λ ws2. let l = b1.workers in let z = t.worker in ((ws2.items ≡ l.items) × (t.views ≡ z.views)) ⊎ (ws2.items ≡ slice_set l.items w (record z { views = t.views }))) (sym wrote.workers) t.workers)) in
      let cm = made.cells in
      let fm = made.frames in
      let v1 = t.worker in
      let n : Notes code p inputs b b2 w k h.came (m.0 h.came) event cm.items t.views =
      noted code p inputs b b2 w k b1.asked h m.0 event cm.items t.views f1.items fm.items (keeps_ticks f1.items c1.items v1.views k b1.asked m.0 event cm.items t.views m.1) went_is m.2 wrote.frames
      (λ a here. subst (λ z. let x = a.cursor in b2.ticks ≡ z + (x.took - x.counted)) go.ticks (wrote.ticks a here))
      (subst (λ z. let l = b2.journal in l.items ≡ z.items ++ (record { frame = k; event = event }) ∷ []) go.journal wrote.journal)
      (ap (λ z. z.items) wrote.cells) both (wrote.offered ∙ t.offered ∙ go.offered) (wrote.outcome ∙ t.outcome ∙ go.outcome) in
      shown_by code p inputs name b b2 d s w k sh f1.items c1.items v1.views (ap (λ z. z.items) go.cells) b1.asked m.0 event cm.items t.views m.1 h went_is (ap (λ (z : Worker). z.views) one) n

pub made : {E : Type 0} (r : Result numbered.Event E) (event : numbered.Event) (Q R : Type 0) (S : numbered.Event → Type 0) → IfOk r (λ e. e ≡ event) → OnOk r Q → OnOk r R → (Q → R → S event) → IfOk r S
made (Ok x) event Q R S h q t f = subst S (sym h) (f q t)
made (Err x) event Q R S h q t f = tt

pub if_ok : {A E : Type 0} {P S : A → Type 0} (r : Result A E) → IfOk r P → ((x : A) → P x → S x) → IfOk r S
if_ok (Ok x) h f = f x h
if_ok (Err e) h f = tt

pub touched_still : (b b' : Scheduler) (w k : ℕ) (event : numbered.Event) → (let l = b.workers in w < length l.items) → b'.workers ≡ b.workers → b'.offered ≡ b.offered → b'.outcome ≡ b.outcome
    → ((views : Hypermap) → let f = b.frames in let g = b'.frames in let c = b.cells in let d = b'.cells in MakesEvent f.items g.items c.items d.items views views k b.asked event) → Touched b b' w k event
touched_still b b' w k event low workers offered outcome makes =
    let l = b.workers in
    let it = get_some l.items w low in
    let u = it.0 in
    record { worker = u; views = u.views; at = it.1; makes = makes u.views; workers = inl (ap (λ z. z.items) workers, refl); offered = offered; outcome = outcome }

pub touched_views : (b b' : Scheduler) (w k : ℕ) (event : numbered.Event) (u : Worker) (views : Hypermap) → (let l = b.workers in slice_get l.items w ≡ Some u) → (let l = b.workers in let m = b'.workers in m.items ≡ slice_set l.items w (record u { views = views }))
    → b'.offered ≡ b.offered → b'.outcome ≡ b.outcome → (let f = b.frames in let g = b'.frames in let c = b.cells in let d = b'.cells in MakesEvent f.items g.items c.items d.items u.views views k b.asked event) → Touched b b' w k event
touched_views b b' w k event u views at workers offered outcome makes = record { worker = u; views = views; at = at; makes = makes; workers = inr workers; offered = offered; outcome = outcome }

-- the worker that has a frame, by its place
pub held_place : (ws : List Worker) (v k : ℕ) → held_by ws (suc v) ≡ Some k → (u : Worker) × (slice_get ws v ≡ Some u) × (u.frame ≡ Some k)
held_place ws v k h = by (slice_get ws v) refl h
  where
    by : (o : Option Worker) → slice_get ws v ≡ o → frame_in o ≡ Some k → (u : Worker) × (slice_get ws v ≡ Some u) × (u.frame ≡ Some k)
    by None e q = let z : None ≡ Some k = q in cc
    by (Some u) e q = (u, e, q)

pub told_steps : (code : CodeView) (inputs : List ℤ) (b b1 b2 : Scheduler) (worker v k : ℕ) → worker ≡ suc v → IsReadyAt b worker k → WentTo code inputs b b1 k → IsAccepted code b1 k → (r : Result Told Stop)
    → IfOk r (λ t. (e : numbered.Event) × (t ≡ told.Did (record { frame = k + 1; event = e })) × (IsTouch e → Wrote b1 b2 v k e)) → IfOk r (λ t. b.outcome ≡ None → EventsAreSteps code inputs b b2 (choices.Run worker) t)
told_steps code inputs b b1 b2 worker v k is ready went ok (Ok t) q = λ still.
    subst (λ t. EventsAreSteps code inputs b b2 (choices.Run worker) t) (sym q.1)
    (λ touch p name d s sh.
    let ws = b.workers in
    let u = held_place ws.items v k (subst (λ z. held_by ws.items z ≡ Some k) is ready.held) in
    subst (λ z. (s' : State FrameEnv View) × Chooses p inputs s d (choices.Run z) Did s' d × ShowsBy code p inputs name b2 d s') (sym is)
    (is_step code p inputs name b b1 b2 d s v k u.0 sh still u.1 u.2 went ok q.0 (q.2 touch)))
told_steps code inputs b b1 b2 worker v k is ready went ok (Err x) q = tt
