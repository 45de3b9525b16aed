-- A stretch is a number of choices.
--
-- - `acts_touch`: its events start and end no frame and no block;
-- - `alone_leads`: one of them is a choice;
-- - `one_more`, `all_more`: one more choice, and more of them;
-- - `along_runs`: all of a stretch.
use Rattle.std.proofs.Common.{◌≡◌, ◌+◌, ◌-◌, ◌<◌, ℕ, zero, suc, true, ℤ, List, length, None, refl, sym, ap, ◌∙◌, subst, arith}
use Rattle.std.specs.Prelude.{Ok}
use Rattle.std.specs.Option.{is_some}
use Rattle.cilk_types.specs.declared.event.Event as numbered
use Rattle.cilk_types.specs.declared.event.Event.TheVariants as events
use Rattle.cilk_program.specs.declared.ask.Ask.{Ask}
use Rattle.cilk_program.specs.Syntax.{Source}
use Rattle.cilk_lower.specs.Behaves.{IsCodeOf}
use Rattle.cilk_lower.specs.Code.{CodeView}
use Rattle.cilk_frames.specs.declared.activation.Activation.{Activation}
use Rattle.cilk_determinacy.specs.Machine.{State}
use Rattle.cilk_determinacy.specs.Reducers.{View}
use Rattle.cilk_determinacy.specs.FrameEnvs.{FrameEnv}
use Rattle.cilk_hypermap.specs.declared.hypermap.Hypermap.{Hypermap}
use Rattle.cilk_scheduler.specs.WorkerTables.{WorkerTable}
use Rattle.cilk_scheduler.specs.Workers.{held_by}
use Rattle.cilk_scheduler.specs.declared.frame_state.FrameState.{FrameState}
use Rattle.cilk_scheduler.specs.declared.scheduler.Scheduler.{Scheduler}
use Rattle.cilk_scheduler.specs.declared.choice.Choice.TheVariants as choices
use Rattle.cilk_scheduler.specs.declared.choice.Told.{Told}
use Rattle.cilk_scheduler.specs.declared.choice.Told.TheVariants as told
use Rattle.cilk_schedule.specs.Acts.{Acts, IsTouch, begins, resumes, reads, writes, gives, creates, updates, sets, values, prints}
use Rattle.cilk_schedule.specs.Choices.{IsReadyAt}
use Rattle.cilk_schedule.specs.Reached.{HasReached, LeadsOn, comes_of}
use Rattle.cilk_schedule.specs.Repeating.{Continues, RunsOn}
use Rattle.cilk_schedule.specs.Starting.{IsStart}
use Rattle.cilk_schedule.specs.Stretches.{GoesAlong, MakesAlone}
use Rattle.cilk_schedule.proofs.Keeping.{busy_is, is_not_over}
use Rattle.cilk_schedule.proofs.Leading.{choices_reach}
use Rattle.cilk_schedule.proofs.Stepping.{told_steps}

acts_touch : (frames : List (Activation FrameState)) (cells : List ℤ) (views : Hypermap) (k : ℕ) (ask : Ask) (act : FrameState → FrameState) (event : numbered.Event) (cells' : List ℤ) (views' : Hypermap) → Acts frames cells views k ask act event cells' views' → IsTouch event
acts_touch frames cells views k ask act event cells' views' begins = tt
acts_touch frames cells views k ask act event cells' views' resumes = tt
acts_touch frames cells views k ask act event cells' views' (reads x n v m at) = tt
acts_touch frames cells views k ask act event cells' views' (writes x n v m) = tt
acts_touch frames cells views k ask act event cells' views' (gives n v a at is) = tt
acts_touch frames cells views k ask act event cells' views' (creates r j vs m to) = tt
acts_touch frames cells views k ask act event cells' views' (updates r v j vs word m to) = tt
acts_touch frames cells views k ask act event cells' views' (sets r v j vs word m to) = tt
acts_touch frames cells views k ask act event cells' views' (values r v j vs m num to) = tt
acts_touch frames cells views k ask act event cells' views' (prints v vs word to) = tt

-- such an event starts no frame
no_start : (e : numbered.Event) → IsTouch e → IsStart e → ⊥
no_start (events.Begin k) t s = s
no_start (events.Read n v) t s = s
no_start (events.Write n v) t s = s
no_start (events.Create j) t s = s
no_start (events.Update j v) t s = s
no_start (events.Set j v) t s = s
no_start (events.Value j v) t s = s
no_start (events.Print v) t s = s
no_start (events.Resume k) t s = s
no_start (events.Call k) t s = t
no_start (events.Spawn k) t s = t
no_start events.Sync t s = t
no_start events.End t s = t

module _ (code : CodeView) (inputs : List ℤ) (worker : ℕ) where
  -- the worker's place in the list
  place_of : (b : Scheduler) (k : ℕ) → IsReadyAt b worker k → (v : ℕ) × (worker ≡ suc v) × (let ws = b.workers in v < length ws.items)
  place_of b k r = let first = r.first in let last = r.last in (worker - 1, omega (arith, first), omega (arith, first, last))

  busy_at : (b : Scheduler) (k : ℕ) → IsReadyAt b worker k → let ws = b.workers in is_some (held_by ws.items worker) ≡ true
  busy_at b k r = ap is_some r.held

  alone_leads : (b b' : Scheduler) → b.outcome ≡ None → (m : MakesAlone code inputs worker b b') → ((p : Source) → IsCodeOf p code → (t : Told) × LeadsOn code p inputs b b' (choices.Run worker) t) × (b'.outcome ≡ None)
  alone_leads b b' still m =
      let r = m.ready in
      let v = place_of b m.place r in
      let go = m.went in
      let low = subst (λ ws. v.0 < length ws.items) (sym go.workers) v.2 in
      let w = m.wrote v.0 low in
      let t = w.touched in
      let makes = t.makes in
      let touch = acts_touch _ _ _ _ _ _ _ _ _ makes.1 in
      let did = told.Did (record { frame = m.place + 1; event = m.event }) in
      let steps = told_steps code inputs b m.asked b' worker v.0 m.place v.1 r go m.accepted (Ok did) (m.event, refl, λ is. w) still in (
        λ p is. (did, λ h. choices_reach code inputs b b' (choices.Run worker) p is h did steps (λ start. absurd (no_start m.event touch start)) (λ e. absurd (subst IsTouch e touch)) (λ e. absurd (subst IsTouch e touch)) tt tt tt),
        w.outcome ∙ t.outcome ∙ go.outcome ∙ still,
      )

  -- one more choice
  pub one_more : (n k : ℕ) (b m b' : Scheduler) → RunsOn code inputs worker n b m → m.outcome ≡ None → IsReadyAt m worker k → ((p : Source) → IsCodeOf p code → (t : Told) × LeadsOn code p inputs m b' (choices.Run worker) t) → RunsOn code inputs worker (suc n) b b'
  one_more n k b m b' first still ready next = λ p is h.
      let a = first p is h in
      let x = a.0 in
      let t = next p is in
      let r = t.1 x in
      let y = r.0 in (
        y,
        (comes_of t.0, x.state, x.worker_table, a.1, is_not_over code p inputs m x (ap is_some still), busy_is code p inputs m x worker ∙ busy_at m k ready, r.1),
      )

  pub along_runs : (n : ℕ) (b b' : Scheduler) → b.outcome ≡ None → GoesAlong code inputs worker n b b' → RunsOn code inputs worker n b b' × (b'.outcome ≡ None)
  along_runs zero b b' still same = (
    λ p is h. subst (λ c. (h' : HasReached code p inputs c) × Continues p inputs worker 0 h.state h.worker_table h'.state h'.worker_table) (sym same) (h, (refl, refl)),
    ap (λ (c : Scheduler). c.outcome) same ∙ still,
  )
  along_runs (suc n) b b' still (m, first, one) =
      let a = along_runs n b m still first in
      let l = alone_leads m b' a.1 one in
      (one_more n one.place b m b' a.0 a.1 one.ready l.0, l.1)

  more : (p : Source) (n k : ℕ) (s t u : State FrameEnv View) (d e f : WorkerTable) → Continues p inputs worker n s d t e → Continues p inputs worker k t e u f → Continues p inputs worker (n + k) s d u f
  more p n zero s t u d e f first (same, at) =
      let none : n + 0 ≡ n = omega arith in
      subst (λ j. Continues p inputs worker j s d u f) (sym none) (subst (λ z. Continues p inputs worker n s d z f) (sym same) (subst (λ z. Continues p inputs worker n s d t z) (sym at) first))
  more p n (suc k) s t u d e f first (told, v, g, rest, going, busy, last) =
      let one : n + suc k ≡ suc (n + k) = omega arith in
      subst (λ j. Continues p inputs worker j s d u f) (sym one) (told, v, g, more p n k s t v d e g first rest, going, busy, last)

  -- more of them
  pub all_more : (n k : ℕ) (b m b' : Scheduler) → RunsOn code inputs worker n b m → RunsOn code inputs worker k m b' → RunsOn code inputs worker (n + k) b b'
  all_more n k b m b' first second = λ p is h.
      let a = first p is h in
      let x = a.0 in
      let r = second p is x in
      let y = r.0 in
      (y, more p n k h.state x.state y.state h.worker_table x.worker_table y.worker_table a.1 r.1)

  pub none_made : (b : Scheduler) → RunsOn code inputs worker 0 b b
  none_made b = λ p is h. (h, (refl, refl))
