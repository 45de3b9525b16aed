-- The start of a child by a worker's frame is a step of the free machine.
--
-- - `if_both`, `started_by`: from what the functions change, by numbers;
-- - `no_touch`, `acts_start`, `makes_start`: which events start a frame;
-- - `has_come`: the frame has stepped to its request;
-- - `start_is_step`, `told_starts`: the law of invocations.
use Rattle.std.proofs.Common.{◌≡◌, ◌+◌, ◌-◌, ◌<◌, ℕ, suc, ℤ, List, [], ◌∷◌, ◌++◌, length, slice_get, Some, None, Result, Ok, Err, IfOk, OnOk, sym, ap, ◌∙◌, subst}
use Rattle.cilk_types.specs.declared.event.Event as numbered
use Rattle.cilk_types.specs.declared.invocation.Invocation.{Invocation}
use Rattle.cilk_types.specs.declared.invocation.Invocation.TheVariants.{Call, Spawn}
use Rattle.cilk_program.specs.SerialRun.{invocation}
use Rattle.cilk_program.specs.Syntax.{Source}
use Rattle.cilk_program.specs.declared.ask.Ask.{Ask}
use Rattle.cilk_program.specs.declared.ask.Ask.TheVariants as asks
use Rattle.cilk_program.specs.declared.ask.Callee.{Callee}
use Rattle.cilk_lower.specs.Code.{CodeView}
use Rattle.cilk_lower.specs.Layout.{cells_in}
use Rattle.cilk_frames.specs.declared.activation.Activation.{Activation}
use Rattle.cilk_hypermap.specs.declared.hypermap.Hypermap.{Hypermap}
use Rattle.cilk_determinacy.specs.Machine.{State, deeds_at, started}
use Rattle.cilk_determinacy.specs.Runs.{Name}
use Rattle.cilk_determinacy.specs.Reducers.{View}
use Rattle.cilk_determinacy.specs.FrameEnvs.{FrameEnv}
use Rattle.cilk_scheduler.specs.Asking.{WentOn, refusal}
use Rattle.cilk_scheduler.specs.WorkerTables.{WorkerTable, Chooses, Did}
use Rattle.cilk_scheduler.specs.Invocations.{ChildBegins, GoesToChild, HasGoneOn, IsNoted}
use Rattle.cilk_scheduler.specs.Invoking.{IsChild}
use Rattle.cilk_scheduler.specs.Noting.{HasFrame}
use Rattle.cilk_scheduler.specs.FrameStates.{changed}
use Rattle.cilk_scheduler.specs.Starting.{named_at}
use Rattle.cilk_scheduler.specs.Steps.{HasCome}
use Rattle.cilk_scheduler.specs.Workers.{held_by}
use Rattle.cilk_scheduler.specs.declared.scheduler.Scheduler.{Scheduler}
use Rattle.cilk_scheduler.specs.declared.choice.Choice.TheVariants as choices
use Rattle.cilk_scheduler.specs.declared.choice.Stop.{Stop}
use Rattle.cilk_scheduler.specs.declared.choice.Told.{Told}
use Rattle.cilk_scheduler.specs.declared.frame_state.FrameState.{FrameState}
use Rattle.cilk_scheduler.specs.declared.frame_state.Worker.{Worker}
use Rattle.cilk_scheduler.proofs.Begun.{invocations_are_noted}
use Rattle.cilk_scheduler.proofs.Invocations.{invocations_are_shown}
use Rattle.cilk_scheduler.proofs.Noted.{frames_come}
use Rattle.cilk_scheduler.proofs.Starting.{named_else}
use Rattle.cilk_schedule.specs.Acts.{Acts, IsTouch, MakesEvent, WentTo, begins, resumes, reads, writes, gives, creates, updates, sets, values, prints}
use Rattle.cilk_schedule.specs.Choices.{IsReadyAt}
use Rattle.cilk_schedule.specs.Reached.{IsReached}
use Rattle.cilk_schedule.specs.Sound.{IsAccepted}
use Rattle.cilk_schedule.specs.Starting.{IsStart, Started, StartsAreSteps, TellsStart, WroteStart}
use Rattle.cilk_schedule.proofs.Reaching.{choices_lead_on}
use Rattle.cilk_schedule.proofs.Stepping.{held_place}
use Rattle.cilk_schedule.proofs.Workers.{same_at}

-- ---- from what the functions change

pub if_both : {A E : Type 0} (P : A → Type 0) (Q : Type 0) (S : A → Type 0) (r : Result A E) → IfOk r P → OnOk r Q → ((x : A) → P x → Q → S x) → IfOk r S
if_both P Q S (Ok x) h q f = f x h q
if_both P Q S (Err e) h q f = tt

pub started_by : (code : CodeView) (b b' : Scheduler) (w k base count : ℕ) (how : Invocation) (callee : Callee) (child : Activation FrameState) (event : numbered.Event) → b.asked ≡ asks.Invoke how callee → (let c = b.cells in base ≡ length c.items)
    → (let f = b.frames in IsChild code f.items k w base how callee child) → count ≡ cells_in code.layout callee → event ≡ (let f = b.frames in invocation how (suc (length f.items))) → ChildBegins b b' w k how child count → Started code b b' w k event
started_by code b b' w k base count how callee child event is base_is child_is count_is event_is child_begins = let f = b.frames in record {
  how = how;
  callee = callee;
  child = child;
  asked = is;
  is_child = subst (λ n. IsChild code f.items k w n how callee child) base_is child_is;
  begins = subst (λ n. ChildBegins b b' w k how child n) count_is child_begins;
  event_is = event_is;
}

-- ---- which events start a frame

pub no_touch : (how : Invocation) (n : ℕ) (event : numbered.Event) → event ≡ invocation how n → IsTouch event → ⊥
no_touch how n event is touch = by how (subst IsTouch is touch)
  where
    by : (how : Invocation) → IsTouch (invocation how n) → ⊥
    by Call t = t
    by Spawn t = t

pub acts_start : (frames : List (Activation FrameState)) (cells : List ℤ) (views : Hypermap) (k : ℕ) (ask : Ask) (act : FrameState → FrameState) (event : numbered.Event) (cells' : List ℤ) (views' : Hypermap) → Acts frames cells views k ask act event cells' views' → IsStart event → ⊥
acts_start frames cells views k ask act event cells' views' begins s = s
acts_start frames cells views k ask act event cells' views' resumes s = s
acts_start frames cells views k ask act event cells' views' (reads place n v means at) s = s
acts_start frames cells views k ask act event cells' views' (writes place n v means) s = s
acts_start frames cells views k ask act event cells' views' (gives n v a at is) s = s
acts_start frames cells views k ask act event cells' views' (creates r j vs means is) s = s
acts_start frames cells views k ask act event cells' views' (updates r v j vs word means is) s = s
acts_start frames cells views k ask act event cells' views' (sets r v j vs word means is) s = s
acts_start frames cells views k ask act event cells' views' (values r v j vs means num is) s = s
acts_start frames cells views k ask act event cells' views' (prints v vs word is) s = s

pub makes_start : (frames frames' : List (Activation FrameState)) (cells cells' : List ℤ) (views views' : Hypermap) (k : ℕ) (ask : Ask) (event : numbered.Event) → MakesEvent frames frames' cells cells' views views' k ask event → IsStart event → ⊥
makes_start frames frames' cells cells' views views' k ask event m = acts_start frames cells views k ask m.0 event cells' views' m.1

-- ---- the frame has stepped to its request

module _ (code : CodeView) (p : Source) (inputs : List ℤ) (b b1 : Scheduler) (w k : ℕ) (u : Worker) (ask : Ask) where
  pub has_come : b.outcome ≡ None → (let l = b.workers in slice_get l.items w ≡ Some u) → u.frame ≡ Some k → (go : WentTo code inputs b b1 k) → IsAccepted code b1 k → b1.asked ≡ ask
      → (h : HasCome code p inputs b w k ask) × HasGoneOn b b1 k h.came
  has_come still at has go ok is =
      let f = b.frames in
      let f1 = b1.frames in
      let e = b.journal in
      let e1 = b1.journal in
      let c = b.cells in
      let q = ok.frame_state in
      let y = q.cursor in
      let x = (let a = go.frame_state in a.cursor) in
      let ticks : ℕ = y.took - y.counted in
      let frame : HasFrame b w k = record { worker = u; frame_state = go.frame_state; at = at; has = has; sits = go.sits } in
      let fine : refusal (b.ticks + ticks) (length e.items) (length f1.items) (length c.items) code.layout ask ≡ None =
      subst (λ t. refusal (t + ticks) (length e.items) (length f1.items) (length c.items) code.layout ask ≡ None) go.ticks
      (subst (λ z. refusal (b1.ticks + ticks) (length z.items) (length f1.items) (length c.items) code.layout ask ≡ None) go.journal
      (subst (λ z. refusal (b1.ticks + ticks) (length e1.items) (length f1.items) (length z.items) code.layout ask ≡ None) go.cells
      (subst (λ a. let d = b1.cells in refusal (b1.ticks + ticks) (length e1.items) (length f1.items) (length d.items) code.layout a ≡ None) is ok.accepted))) in
      let come = frames_come code p inputs b w k ticks ask go.came f1.items frame still (subst (λ a. WentOn code inputs x a go.came) is go.went) go.frames
      (λ a here. ap (λ (z : Activation FrameState). let x = z.cursor in x.took - x.counted) (same_at f1.items k q a ok.sits here)) fine in
      let h = come.0 in (
        h,
        record {
          frames = go.frames ∙ ap (λ z. changed (λ _. z) f.items k) (sym come.3);
          cells = ap (λ z. z.items) go.cells;
          workers = ap (λ z. z.items) go.workers;
          offered = go.offered;
          journal = ap (λ z. z.items) go.journal;
          ticks = go.ticks;
          outcome = go.outcome;
        },
      )

-- ---- the law

abbrev StartsAs : CodeView → Source → List ℤ → (ℕ → Name) → Scheduler → Scheduler → WorkerTable → State FrameEnv View → ℕ → Type 0
StartsAs code p inputs name b b' d s w =
    (name' : ℕ → Name) × (s' : State FrameEnv View) × (d' : WorkerTable) × Chooses p inputs s d (choices.Run w) Did s' d' × IsReached code p inputs name' b' d' s' × ((j : ℕ) → (let f = b.frames in j < length f.items) → name' j ≡ name j)

module _ (code : CodeView) (p : Source) (inputs : List ℤ) (name : ℕ → Name) (b b1 b2 : Scheduler) (d : WorkerTable) (s : State FrameEnv View) (w k : ℕ) (u : Worker) (event : numbered.Event) where
  start_is_step : IsReached code p inputs name b d s → b.outcome ≡ None → (let l = b.workers in slice_get l.items w ≡ Some u) → u.frame ≡ Some k → WentTo code inputs b b1 k → IsAccepted code b1 k → WroteStart code b1 b2 w k event
      → StartsAs code p inputs name b b2 d s (suc w)
  start_is_step r still at has go ok wrote =
      let f = b.frames in
      let t = wrote.starts in
      let o = r.outlive in
      let come = has_come code p inputs b b1 w k u (asks.Invoke t.how t.callee) still at has go ok t.asked in
      let h = come.0 in
      let goes : GoesToChild code p inputs b b2 w k t.how t.callee h =
      invocations_are_noted code p inputs b b1 wrote.made b2 w k t.how t.callee h t.child come.1 t.is_child t.begins (subst (λ e. IsNoted wrote.made b2 k e) t.event_is wrote.noted) in
      let law = invocations_are_shown code p inputs name b b2 d s w k t.how t.callee r.behaves r.shown o.counted h goes in
      let kid : Name = name k ++ suc (started (deeds_at (s.frames (name k)))) ∷ [] in (
        named_at name (length f.items) kid,
        law.0,
        law.1,
        law.2,
        choices_lead_on code p inputs name (named_at name (length f.items) kid) b b2 d law.1 s law.0 (choices.Run (suc w)) Did r law.2 law.3,
        λ j low. named_else name (length f.items) kid j low,
      )

pub told_starts : (code : CodeView) (inputs : List ℤ) (b b1 b2 : Scheduler) (worker v k : ℕ) → worker ≡ suc v → IsReadyAt b worker k → WentTo code inputs b b1 k → IsAccepted code b1 k → (r : Result Told Stop)
    → IfOk r (λ t. TellsStart code b1 b2 v k t) → IfOk r (λ t. b.outcome ≡ None → StartsAreSteps code inputs b b2 (choices.Run worker) t)
told_starts code inputs b b1 b2 worker v k is ready went ok (Ok t) q = λ still.
    subst (λ t. StartsAreSteps code inputs b b2 (choices.Run worker) t) (sym q.1)
    (λ starts p name d s r.
    let ws = b.workers in
    let u = held_place ws.items v k (subst (λ z. held_by ws.items z ≡ Some k) is ready.held) in
    subst (λ z. StartsAs code p inputs name b b2 d s z) (sym is) (start_is_step code p inputs name b b1 b2 d s v k u.0 q.0 r still u.1 u.2 went ok (q.2 starts)))
told_starts code inputs b b1 b2 worker v k is ready went ok (Err x) q = tt
