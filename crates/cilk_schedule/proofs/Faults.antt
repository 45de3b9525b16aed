-- A fault that comes instead of an event is a stop of the free machine.
--
-- - `strands_stay`: a frame's latest strand, once it has stepped to its request;
-- - `refused_stops`: from the functions' results, by numbers, to the law of stops;
-- - `memory_stops`, `halted`: out of memory, and a scheduler that keeps its stop;
-- - `one_after`, `stops_reach`, `if_err_reaches`, `if_err_halts`: the state that was stopped is
--   reachable.
use Rattle.std.proofs.Common.{◌≡◌, ◌+◌, ◌-◌, ◌∷◌, ◌++◌, [], ℕ, zero, suc, false, ℤ, List, length, slice_get, Option, Some, Result, Ok, Err, IfErr, refl, sym, ap, ◌∙◌, subst, arith, inr}
use Rattle.cilk_types.specs.declared.fault.Fault.{Fault}
use Rattle.cilk_program.specs.Syntax.{Source}
use Rattle.cilk_program.specs.declared.ask.Ask.{Ask}
use Rattle.cilk_program.specs.declared.ask.Ask.TheVariants as asks
use Rattle.cilk_lower.specs.Code.{CodeView}
use Rattle.cilk_frames.specs.declared.activation.Activation.{Activation}
use Rattle.cilk_determinacy.specs.Machine.{State, Steps}
use Rattle.cilk_determinacy.specs.Runs.{Name}
use Rattle.cilk_determinacy.specs.FrameEnvMachine.{costs}
use Rattle.cilk_determinacy.specs.Reducers.{View, monoid_of}
use Rattle.cilk_determinacy.specs.Steps.{Next, OneStep, Reaches}
use Rattle.cilk_determinacy.specs.FrameEnvs.{FrameEnv}
use Rattle.cilk_scheduler.specs.Asking.{WentOn, WentOnFrom, refusal}
use Rattle.cilk_scheduler.specs.WorkerTables.{BlockIsOver, StopsAt}
use Rattle.cilk_scheduler.specs.Noting.{HasFrame}
use Rattle.cilk_scheduler.specs.Parts.{must_wait}
use Rattle.cilk_scheduler.specs.Stopping.{IsRefused, latest}
use Rattle.cilk_scheduler.specs.declared.scheduler.Scheduler.{Scheduler}
use Rattle.cilk_scheduler.specs.declared.choice.Choice.{Choice}
use Rattle.cilk_scheduler.specs.declared.choice.Choice.TheVariants as choices
use Rattle.cilk_scheduler.specs.declared.choice.Stop.{Stop}
use Rattle.cilk_scheduler.specs.declared.choice.Stop.TheVariants as stops
use Rattle.cilk_scheduler.specs.declared.choice.Told.{Told}
use Rattle.cilk_scheduler.specs.declared.frame_state.Due.{Due}
use Rattle.cilk_scheduler.specs.declared.frame_state.Due.TheVariants as due
use Rattle.cilk_scheduler.specs.declared.frame_state.FrameState.{FrameState}
use Rattle.cilk_scheduler.specs.declared.frame_state.Worker.{Worker}
use Rattle.cilk_scheduler.proofs.Changing.{changed_here, changed_length}
use Rattle.cilk_scheduler.proofs.OverBlocks.{blocks_are_over}
use Rattle.cilk_scheduler.proofs.Plain.{get_low}
use Rattle.cilk_scheduler.proofs.Stopping.{stops_are_shown, tellings_stay}
use Rattle.cilk_schedule.specs.Acts.{WentTo}
use Rattle.cilk_schedule.specs.Choices.{IsReadyAt}
use Rattle.cilk_schedule.specs.Faults.{FaultsAreStops, HasStopped, KeepsTold, StopsFrom}
use Rattle.cilk_schedule.specs.Reached.{HasReached}
use Rattle.cilk_lower.specs.Behaves.{IsCodeOf}
use Rattle.cilk_schedule.proofs.Leading.{reached_of}
use Rattle.cilk_schedule.proofs.Stepping.{held_place}

-- ---- the strand

strands_stay : (code : CodeView) (inputs : List ℤ) (x : FrameState) (ask : Ask) (x' : FrameState) → WentOn code inputs x ask x' → x'.strands ≡ x.strands
strands_stay code inputs x ask x' went = by x.due went
  where
    by : (q : Due) → WentOnFrom code inputs q x ask x' → x'.strands ≡ x.strands
    by due.Begin h = ap (λ (z : FrameState). z.strands) h.1
    by (due.Answer a) h = ap (λ (z : FrameState). z.strands) h.now
    by due.Sync h = ap (λ (z : FrameState). z.strands) h.1

-- ---- a choice that a fault stops

module _ (code : CodeView) (inputs : List ℤ) (b b1 : Scheduler) (v k : ℕ) (ready : IsReadyAt b (suc v) k) (go : WentTo code inputs b b1 k) (fault : Fault) where
  came_at : let f = b1.frames in slice_get f.items k ≡ Some (record go.frame_state { cursor = go.came })
  came_at = let f = b.frames in ap (λ l. slice_get l k) go.frames ∙ changed_here (λ _. go.came) f.items k go.frame_state go.sits

  as_many : let f = b.frames in let g = b1.frames in length g.items ≡ length f.items
  as_many = let f = b.frames in ap (λ l. length l) go.frames ∙ changed_length (λ _. go.came) f.items k

  worker : (u : Worker) × (let l = b.workers in slice_get l.items v ≡ Some u) × (u.frame ≡ Some k)
  worker = let l = b.workers in held_place l.items v k ready.held

  -- the fault of the scheduler whose frame has stepped to its request
  abbrev Found : Type 0
  Found =
      let f = b1.frames in let c = b1.cells in let e = b1.journal in
      (a : Activation FrameState) → slice_get f.items k ≡ Some a → let x = a.cursor in refusal (b1.ticks + (x.took - x.counted)) (length e.items) (length f.items) (length c.items) code.layout b1.asked ≡ Some fault

  is_refused : (p : Source) → Found → IsRefused code p inputs b v k b1.asked fault
  is_refused p found =
      let f = b.frames in
      let f1 = b1.frames in
      let c = b.cells in
      let c1 = b1.cells in
      let e = b.journal in
      let e1 = b1.journal in
      let u = worker in
      let y = go.came in
      let ticks : ℕ = y.took - y.counted in
      record {
        worker = u.0;
        frame_state = go.frame_state;
        came = go.came;
        at = u.1;
        has = u.2;
        sits = go.sits;
        went = go.went;
        refused =
            subst (λ t. refusal (t + ticks) (length e.items) (length f.items) (length c.items) code.layout b1.asked ≡ Some fault) go.ticks
            (subst (λ z. refusal (b1.ticks + ticks) (length z.items) (length f.items) (length c.items) code.layout b1.asked ≡ Some fault) go.journal
            (subst (λ z. refusal (b1.ticks + ticks) (length e1.items) z (length c.items) code.layout b1.asked ≡ Some fault) as_many
            (subst (λ z. refusal (b1.ticks + ticks) (length e1.items) (length f1.items) (length z.items) code.layout b1.asked ≡ Some fault) go.cells (found (record go.frame_state { cursor = go.came }) came_at))));
      }

  stops_on : Found → (b1.asked ≡ asks.Sync → (a : Activation FrameState) → (let f = b1.frames in slice_get f.items k ≡ Some a) → must_wait a.cursor ≡ false) → FaultsAreStops code inputs b b1 (choices.Run (suc v)) (stops.At fault (record { frame = k + 1; number = (let y = go.came in latest y.strands) }))
  unfolding is_refused
  stops_on found passes = λ p name d s sh behind.
      let f = b.frames in
      let r = is_refused p found in
      let x = (let a = go.frame_state in a.cursor) in
      let y = go.came in
      let over : b1.asked ≡ asks.Sync → BlockIsOver s (name k) =
      (λ sync.
      let h : HasFrame b v k = record { worker = r.worker; frame_state = go.frame_state; at = r.at; has = r.has; sits = go.sits } in
      blocks_are_over code p inputs name b d s v k go.came sh.shows behind h (subst (λ q. WentOn code inputs x q go.came) sync go.went) (passes sync (record go.frame_state { cursor = go.came }) came_at)) in
      let m = stops_are_shown code p inputs name b b1 d s v k b1.asked fault sh.lays sh.shows r over go.frames (ap (λ z. z.items) go.journal) go.outcome in
      let number : latest x.strands ≡ latest y.strands = ap latest (sym (strands_stay code inputs x b1.asked y go.went)) in (
        m.0,
        m.1,
        record {
          place = k;
          frame = omega arith;
          here = (let g = b1.frames in get_low g.items k (record go.frame_state { cursor = go.came }) came_at);
          stopped = m.2 ∙ ap (λ n. Some (record { frame = name k; strand = n; fault = fault })) number;
          tells = m.3;
        },
      )

pub refused_stops : (code : CodeView) (inputs : List ℤ) (b b1 : Scheduler) (number v k : ℕ) → number ≡ suc v → IsReadyAt b number k → WentTo code inputs b b1 k → (fault : Fault)
    → ((a : Activation FrameState) → (let f = b1.frames in slice_get f.items k ≡ Some a) → let f = b1.frames in let c = b1.cells in let e = b1.journal in let x = a.cursor in
    refusal (b1.ticks + (x.took - x.counted)) (length e.items) (length f.items) (length c.items) code.layout b1.asked ≡ Some fault)
    → (b1.asked ≡ asks.Sync → (a : Activation FrameState) → (let f = b1.frames in slice_get f.items k ≡ Some a) → must_wait a.cursor ≡ false) → (stop : Stop)
    → ((a : Activation FrameState) → (let f = b1.frames in slice_get f.items k ≡ Some a) → stop ≡ stops.At fault (record { frame = k + 1; number = (let x = a.cursor in latest x.strands) }))
    → FaultsAreStops code inputs b b1 (choices.Run number) stop
refused_stops code inputs b b1 number v k is ready go fault found passes stop told =
    let ready_at : IsReadyAt b (suc v) k = subst (λ z. IsReadyAt b z k) is ready in
    subst (λ z. FaultsAreStops code inputs b b1 (choices.Run z) stop) (sym is)
    (subst (λ z. FaultsAreStops code inputs b b1 (choices.Run (suc v)) z) (sym (told (record go.frame_state { cursor = go.came }) (came_at code inputs b b1 v k ready_at go fault)))
    (stops_on code inputs b b1 v k ready_at go fault found passes))

pub memory_stops : (code : CodeView) (inputs : List ℤ) (b b' : Scheduler) (c : Choice) (r : Result Told Stop) → IfErr r (λ stop. stop ≡ stops.Memory) → IfErr r (λ stop. FaultsAreStops code inputs b b' c stop)
memory_stops code inputs b b' c (Ok t) q = tt
memory_stops code inputs b b' c (Err stop) q = subst (λ z. FaultsAreStops code inputs b b' c z) (sym q) tt

pub halted : (code : CodeView) (inputs : List ℤ) (b b' : Scheduler) (c : Choice) (stop : Stop) (o : Option Stop) → FaultsAreStops code inputs b b' c stop → FaultsAreStops code inputs b (record b' { stopped = o }) c stop
halted code inputs b b' c stops.Memory o h = tt
halted code inputs b b' c (stops.At fault strand) o h = λ p name d s sh behind.
    let m = h p name d s sh behind in
    let q = m.2 in
    let t = q.tells in
    (m.0, m.1, record { place = q.place; frame = q.frame; here = q.here; stopped = q.stopped; tells = record { named = t.named; here = t.here; absent = t.absent; joins = t.joins; going = t.going; over = t.over; first = t.first; ascend = t.ascend } })

-- ---- steps lead there

module _ (p : Source) (inputs : List ℤ) where
  abbrev Lead : List Name → State FrameEnv View → State FrameEnv View → Type 0
  Lead ns s s' = Steps FrameEnv View monoid_of (Next p inputs) (costs p inputs) ns s s'

  one_after : (ns : List Name) (n : Name) (s mid s' : State FrameEnv View) → Lead ns s mid → OneStep p inputs mid n s' → Lead (ns ++ n ∷ []) s s'
  one_after [] n s mid s' e one = (s', subst (λ z. OneStep p inputs z n s') e one, refl)
  one_after (m ∷ ns) n s mid s' (z, first, more) one = (z, first, one_after ns n z mid s' more one)

module _ (code : CodeView) (inputs : List ℤ) (b b' : Scheduler) (c : Choice) (p : Source) (is : IsCodeOf p code) (h : HasReached code p inputs b) where
  one_more : (w : Choice) (s' : State FrameEnv View) → StopsAt p inputs h.state h.worker_table w s' → (n : Name) × Reaches p inputs (h.steps ++ n ∷ []) s'
  one_more (choices.Run zero) s' stops = absurd stops
  one_more (choices.Run (suc w)) s' stops =
      let x = h.shows in
      let r = h.reaches in
      (stops.0, (r.0, r.1, one_after p inputs h.steps stops.0 r.0 h.state s' r.2 (x.running, inr (inr stops.2))))
  one_more (choices.Steal w place) s' stops = absurd stops

  pub stops_reach : (stop : Stop) → FaultsAreStops code inputs b b' c stop → KeepsTold b b' → StopsFrom code p inputs b h b' c stop
  stops_reach stops.Memory f kept = let x = h.shows in tellings_stay code p inputs h.name b b' h.state (let s = h.state in s.stopped) x.tells kept.frames kept.journal kept.outcome
  stops_reach (stops.At fault strand) f kept =
      let r = reached_of code p inputs b is h in
      let m = f p h.name h.worker_table h.state r.shown r.behind in
      let q = one_more c m.0 m.1 in
      (record { steps = h.steps ++ q.0 ∷ []; state = m.0; reaches = q.1; name = h.name; is_stopped = m.2 }, m.1)

pub if_err_reaches : (code : CodeView) (inputs : List ℤ) (b b' : Scheduler) (c : Choice) (r : Result Told Stop) (P : Type 0) → IfErr r (λ stop. P → FaultsAreStops code inputs b b' c stop) → IfErr r (λ stop. P → KeepsTold b b')
    → IfErr r (λ stop. P → (p : Source) → IsCodeOf p code → (h : HasReached code p inputs b) → StopsFrom code p inputs b h b' c stop)
if_err_reaches code inputs b b' c (Ok t) P q k = tt
if_err_reaches code inputs b b' c (Err stop) P q k = λ going p is h. stops_reach code inputs b b' c p is h stop (q going) (k going)

-- a state that a fault stopped is reachable
pub if_err_halts : (code : CodeView) (inputs : List ℤ) (b b' : Scheduler) (c : Choice) (r : Result Told Stop) (P : Type 0) → IfErr r (λ stop. P → (p : Source) → IsCodeOf p code → (h : HasReached code p inputs b) → StopsFrom code p inputs b h b' c stop)
    → IfErr r (λ stop. P → (p : Source) → IsCodeOf p code → HasReached code p inputs b → HasStopped code p inputs b' stop)
if_err_halts code inputs b b' c (Ok t) P q = tt
if_err_halts code inputs b b' c (Err stops.Memory) P q = λ going p is h. tt
if_err_halts code inputs b b' c (Err (stops.At fault strand)) P q = λ going p is h. let r = q going p is h in r.0
