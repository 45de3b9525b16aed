-- A machine that makes choices, and the states that its scheduler shows.
--
-- - `leads_same`, `leads_on`, `leads_ahead`, `comes_later`, `comes_ahead`: one after the other;
-- - `leads_chosen`, `refused_at`: a choice is made, or stops the run;
-- - `leads_turned`, `comes_turned`, `leads_turn`, `comes_turn`: turns; `over_rounds`,
--   `begun_rounds`, `done_rounds`: rounds;
-- - `passes`: a line's choices would exceed the limit.
use Rattle.std.proofs.Common.{◌≡◌, ◌+◌, ℕ, zero, suc, true, false, true≢false, ℤ, List, [], ◌∷◌, ◌++◌, slice_get, Option, Some, None, refl, sym, ap, ◌∙◌, subst, Bor}
use Rattle.std.specs.Prelude.{if◌then◌else◌}
use Rattle.std.specs.Option.{is_some, option_map}
use Rattle.std.proofs.lemmas.Option.{slice_get-map}
use Rattle.cilk_types.specs.declared.outcome.Outcome.{Outcome}
use Rattle.cilk_program.specs.Syntax.{Source}
use Rattle.cilk_lower.specs.Code.{CodeView}
use Rattle.cilk_determinacy.specs.Machine.{State}
use Rattle.cilk_determinacy.specs.Runs.{Name}
use Rattle.cilk_determinacy.specs.Reducers.{View}
use Rattle.cilk_determinacy.specs.FrameEnvs.{FrameEnv}
use Rattle.cilk_scheduler.specs.Schedulers.{hand_of}
use Rattle.cilk_scheduler.specs.WorkerTables.{IsOver}
use Rattle.cilk_scheduler.specs.Workers.{frame_in, held_by}
use Rattle.cilk_scheduler.specs.declared.scheduler.Scheduler.{Scheduler}
use Rattle.cilk_scheduler.specs.declared.choice.Choice.{Choice}
use Rattle.cilk_scheduler.specs.declared.choice.Choice.TheVariants as choices
use Rattle.cilk_scheduler.specs.declared.choice.Stop as stopping
use Rattle.cilk_scheduler.specs.declared.choice.Stop.TheVariants as stops
use Rattle.cilk_scheduler.specs.declared.choice.Strand.{Strand}
use Rattle.cilk_scheduler.specs.declared.choice.Told.{Told}
use Rattle.cilk_scheduler.specs.declared.frame_state.Worker.{Worker}
use Rattle.cilk_schedule.specs.Faults.{FaultsAreStops, IsStoppedBy}
use Rattle.cilk_schedule.specs.Reached.{HasReached, LeadsOn, comes_of}
use Rattle.cilk_lower.specs.Behaves.{IsCodeOf}
use Rattle.cilk_schedule.specs.declared.machine.Machine.{Machine}
use Rattle.cilk_schedule.proofs.Leading.{reached_of}
use Rattle.cilk_schedule.proofs.Played.{at_moved}
use Rattle.cilk_schedule.specs.Playing.{Choose, ComesToFault, Follows, IsFault, IsFaultOf, IsNameIn, Leads, Pass, Passes, Plays, Rounds, Task, Turn, has_frame, is_busy, turn_of, turns}
use Rattle.cilk_schedule.specs.declared.fault.PlayFault.{PlayFault}
use Rattle.cilk_schedule.specs.declared.fault.PlayFault.TheVariants as faults
use Rattle.cilk_schedule.proofs.Following.{all_ahead, all_fail_ahead, chosen, fails_later, follows_on, refused, round_begins, rounds_ended, rounds_enough, turn_fails, turned, turns_more}

-- ---- one after the other

pub leads_same : (workers : ℕ) (tasks : List Task) (m : Machine) → Leads workers tasks m tasks m
leads_same workers tasks m = record { code = refl; input = refl; reached = λ p is h. (h, λ rest e q. q) }

module _ (workers : ℕ) (tasks left : List Task) (l m : Machine) (first : Leads workers tasks l left m) where
  code_on : (p : Source) → IsCodeOf p (let c = l.code in c.now) → IsCodeOf p (let c = m.code in c.now)
  code_on p is = subst (λ (x : Bor CodeView). IsCodeOf p x.now) (sym first.code) is

  pub leads_on : (more : List Task) (n : Machine) → Leads workers left m more n → Leads workers tasks l more n
  leads_on more n second = record {
    code = second.code ∙ first.code;
    input = second.input ∙ first.input;
    reached = λ p is h.
        let i = l.input in
        let a = first.reached p is h in
        let b = second.reached p (code_on p is) a.0 in
        let x = a.0 in
        let y = b.0 in
        (y, follows_on p i.now workers tasks left more h.state x.state y.state h.worker_table x.worker_table y.worker_table a.1 (subst (λ (z : Bor (List ℤ)). Follows p z.now workers left x.state x.worker_table more y.state y.worker_table) first.input b.1));
  }

  pub comes_later : (f : PlayFault) → ComesToFault workers left m f → ComesToFault workers tasks l f
  comes_later f second = λ p is h.
      let i = l.input in
      let a = first.reached p is h in
      let x = a.0 in
      fails_later p i.now workers tasks left h.state x.state h.worker_table x.worker_table f a.1
      (subst (λ (z : Bor (List ℤ)). (rest : List Task) → IsFault (λ e. Plays p z.now workers (left ++ rest) x.state x.worker_table e) f) first.input (second p (code_on p is) x))

-- tasks are done, and others are left
pub leads_ahead : (workers : ℕ) (tasks behind : List Task) (l m : Machine) → Leads workers tasks l [] m → Leads workers (tasks ++ behind) l behind m
leads_ahead workers tasks behind l m h = record {
  code = h.code;
  input = h.input;
  reached = λ p is r.
      let i = l.input in
      let a = h.reached p is r in
      let x = a.0 in
      (x, all_ahead p i.now workers tasks behind r.state x.state r.worker_table x.worker_table a.1);
}

-- they fail, whatever comes after them
pub comes_ahead : (workers : ℕ) (tasks behind : List Task) (m : Machine) (f : PlayFault) → ComesToFault workers tasks m f → ComesToFault workers (tasks ++ behind) m f
comes_ahead workers tasks behind m f h = λ p is r. let i = m.input in all_fail_ahead p i.now workers tasks behind r.state r.worker_table f (h p is r)

-- ---- a choice

pub leads_chosen : (workers : ℕ) (m m' : Machine) (choice : Choice) (t : Told) → m'.code ≡ m.code → m'.input ≡ m.input
    → ((p : Source) → IsCodeOf p (let c = m.code in c.now) → LeadsOn (let c = m.code in c.now) p (let i = m.input in i.now) m.scheduler m'.scheduler choice t) → Leads workers (Choose choice ∷ []) m [] m'
leads_chosen workers m m' choice t same_code same_input led = record {
  code = same_code;
  input = same_input;
  reached = λ p is h.
      let i = m.input in
      let r = led p is h in
      let x = r.0 in
      at_moved m.code m'.code m.input m'.input same_code same_input p m'.scheduler (λ s d. Follows p i.now workers (Choose choice ∷ []) h.state h.worker_table [] s d)
      (x, chosen p i.now workers choice (comes_of t) h.state x.state h.worker_table x.worker_table r.1);
}

-- a stop that is reported
module _ (workers : ℕ) (m m' : Machine) (choice : Choice) (stop : stopping.Stop) where
  abbrev Faults : stopping.Stop → Type 0
  Faults z = FaultsAreStops (let c = m.code in c.now) (let i = m.input in i.now) m.scheduler m'.scheduler choice z

  -- the name of the strand, by the scheduler
  name_is : (code : CodeView) (p : Source) (inputs : List ℤ) (name : ℕ → Name) (fault : _) (strand : Strand) (s : State FrameEnv View) (told : List ℕ) → (q : IsStoppedBy code p inputs name m'.scheduler fault strand s) → IsNameIn m'.scheduler strand told
      → told ≡ name q.place ++ strand.number ∷ []
  name_is code p inputs name fault strand s told q is = let t = q.tells in is name q.place q.frame t.named q.here

  pub refused_at : (f : PlayFault) → Faults stop → IsFaultOf m'.scheduler stop f → ComesToFault workers (Choose choice ∷ []) m f
  refused_at (faults.Line line) h k = absurd k
  refused_at (faults.Stop fault name) h k = λ p is r rest.
      let c = m.code in
      let i = m.input in
      let strand = k.0 in
      let x = reached_of c.now p i.now m.scheduler is r in
      let a : Faults (stops.At fault strand) = subst Faults k.1 h in
      let q = a p r.name r.worker_table r.state x.shown x.behind in
      let y = q.2 in (
        record { frame = r.name y.place; strand = strand.number; fault = fault },
        refused p i.now workers choice (record { frame = r.name y.place; strand = strand.number; fault = fault }) r.state q.0 r.worker_table q.1 y.stopped rest,
        refl,
        name_is c.now p i.now r.name fault strand q.0 (let n = name in n.items) y k.2,
      )
  refused_at faults.Memory h k = λ p is r rest. tt

-- ---- turns

-- a worker that holds a frame in the worker table holds one in the scheduler
pub busy_is : (code : CodeView) (p : Source) (inputs : List ℤ) (b : Scheduler) (h : HasReached code p inputs b) (worker : ℕ) → is_busy h.worker_table worker ≡ is_some (held_by (let ws = b.workers in ws.items) worker)
busy_is code p inputs b h zero = refl
busy_is code p inputs b h (suc v) =
    let ws = b.workers in
    let x = h.shows in
    let o = x.worker_table in
    ap (λ l. has_frame (slice_get l v)) o.hands ∙ ap has_frame (slice_get-map (hand_of h.name) ws.items v) ∙ by (slice_get ws.items v)
  where
    idle_or : (w : Option ℕ) → is_some (option_map h.name w) ≡ is_some w
    idle_or None = refl
    idle_or (Some k) = refl

    by : (u : Option Worker) → has_frame (option_map (hand_of h.name) u) ≡ is_some (frame_in u)
    by None = refl
    by (Some u) = idle_or u.frame

-- a worker's choice in its turn, by the scheduler
abbrev pub turn_at : Scheduler → ℕ → Choice
turn_at b worker = if is_some (held_by (let ws = b.workers in ws.items) worker) then choices.Run worker else choices.Steal worker 0

turn_is : (code : CodeView) (p : Source) (inputs : List ℤ) (b : Scheduler) (h : HasReached code p inputs b) (worker : ℕ) (choice : Choice) → choice ≡ turn_at b worker → choice ≡ turn_of h.worker_table worker
turn_is code p inputs b h worker choice e = e ∙ ap (λ t. if t then choices.Run worker else choices.Steal worker 0) (sym (busy_is code p inputs b h worker))

pub turn_runs : (b : Scheduler) (worker : ℕ) → is_some (held_by (let ws = b.workers in ws.items) worker) ≡ true → choices.Run worker ≡ turn_at b worker
turn_runs b worker h = sym (ap (λ t. if t then choices.Run worker else choices.Steal worker 0) h)

pub turn_steals : (b : Scheduler) (worker : ℕ) → is_some (held_by (let ws = b.workers in ws.items) worker) ≡ false → choices.Steal worker 0 ≡ turn_at b worker
turn_steals b worker h = sym (ap (λ t. if t then choices.Run worker else choices.Steal worker 0) h)

pub leads_turned : (workers worker : ℕ) (choice : Choice) (m m' : Machine) → choice ≡ turn_at m.scheduler worker → Leads workers (Choose choice ∷ []) m [] m' → Leads workers (Turn worker ∷ []) m [] m'
leads_turned workers worker choice m m' e h = record {
  code = h.code;
  input = h.input;
  reached = λ p is r.
      let c = m.code in
      let i = m.input in
      let a = h.reached p is r in
      let x = a.0 in
      (x, turned p i.now workers worker choice r.state x.state r.worker_table x.worker_table (turn_is c.now p i.now m.scheduler r worker choice e) a.1);
}

pub comes_turned : (workers worker : ℕ) (choice : Choice) (m : Machine) (f : PlayFault) → choice ≡ turn_at m.scheduler worker → ComesToFault workers (Choose choice ∷ []) m f → ComesToFault workers (Turn worker ∷ []) m f
comes_turned workers worker choice m f e h = λ p is r.
    let c = m.code in
    let i = m.input in
    turn_fails p i.now workers worker choice r.state r.worker_table f (turn_is c.now p i.now m.scheduler r worker choice e) (h p is r)

-- the next turn of those that are left is done
pub leads_turn : (workers : ℕ) (tasks : List Task) (worker n k : ℕ) (l m m' : Machine) → Leads workers tasks l (turns worker n) m → n ≡ suc k → Leads workers (Turn worker ∷ []) m [] m' → Leads workers tasks l (turns (worker + 1) k) m'
leads_turn workers tasks worker n k l m m' h e made =
    leads_on workers tasks (turns worker n) l m h (turns (worker + 1) k) m'
    (subst (λ ts. Leads workers ts m (turns (worker + 1) k) m') (sym (turns_more worker n k e)) (leads_ahead workers (Turn worker ∷ []) (turns (worker + 1) k) m m' made))

-- the next turn fails
pub comes_turn : (workers : ℕ) (tasks : List Task) (worker n k : ℕ) (l m : Machine) (f : PlayFault) → Leads workers tasks l (turns worker n) m → n ≡ suc k → ComesToFault workers (Turn worker ∷ []) m f → ComesToFault workers tasks l f
comes_turn workers tasks worker n k l m f h e lost =
    comes_later workers tasks (turns worker n) l m h f
    (subst (λ ts. ComesToFault workers ts m f) (sym (turns_more worker n k e)) (comes_ahead workers (Turn worker ∷ []) (turns (worker + 1) k) m f lost))

-- ---- rounds

pub is_over : (code : CodeView) (p : Source) (inputs : List ℤ) (b : Scheduler) (h : HasReached code p inputs b) → is_some b.outcome ≡ true → IsOver h.state
is_over code p inputs b h e = by b.outcome refl e
  where
    by : (o : Option Outcome) → b.outcome ≡ o → is_some o ≡ true → IsOver h.state
    by None at z = let f : ⊥ = true≢false (sym z) in absurd f
    by (Some o) at z = let x = h.shows in let t = x.tells in let r = t.over o at in r.0

pub is_not_over : (code : CodeView) (p : Source) (inputs : List ℤ) (b : Scheduler) (h : HasReached code p inputs b) → is_some b.outcome ≡ false → ¬ (IsOver h.state)
is_not_over code p inputs b h e = by b.outcome refl e
  where
    by : (o : Option Outcome) → b.outcome ≡ o → is_some o ≡ false → ¬ (IsOver h.state)
    by None at z = let x = h.shows in let t = x.tells in t.going at
    by (Some o) at z = absurd (true≢false z)

pub over_rounds : (workers count : ℕ) (m : Machine) → (let b = m.scheduler in is_some b.outcome ≡ true) → Leads workers (Rounds count ∷ []) m [] m
over_rounds workers count m e = record {
  code = refl;
  input = refl;
  reached = λ p is h. let c = m.code in let i = m.input in (h, rounds_ended p i.now workers count h.state h.worker_table (is_over c.now p i.now m.scheduler h e));
}

pub done_rounds : (workers : ℕ) (m : Machine) → Leads workers (Rounds zero ∷ []) m [] m
done_rounds workers m = record { code = refl; input = refl; reached = λ p is h. let i = m.input in (h, rounds_enough p i.now workers h.state h.worker_table) }

begun_rounds : (workers count : ℕ) (m : Machine) → (let b = m.scheduler in is_some b.outcome ≡ false) → Leads workers (Rounds (suc count) ∷ []) m (turns 1 workers ++ (Rounds count ∷ [])) m
begun_rounds workers count m e = record {
  code = refl;
  input = refl;
  reached = λ p is h. let c = m.code in let i = m.input in (h, round_begins p i.now workers count h.state h.worker_table (is_not_over c.now p i.now m.scheduler h e));
}

-- one more round is made
pub leads_round : (workers more n count : ℕ) (l m m' : Machine) → Leads workers (Rounds more ∷ []) l (Rounds n ∷ []) m → n ≡ suc count → (let b = m.scheduler in is_some b.outcome ≡ false) → Leads workers (turns 1 workers) m [] m' → Leads workers (Rounds more ∷ []) l (Rounds count ∷ []) m'
leads_round workers more n count l m m' h e going made =
    leads_on workers (Rounds more ∷ []) (Rounds (suc count) ∷ []) l m (subst (λ k. Leads workers (Rounds more ∷ []) l (Rounds k ∷ []) m) e h) (Rounds count ∷ []) m'
    (leads_on workers (Rounds (suc count) ∷ []) (turns 1 workers ++ (Rounds count ∷ [])) m m (begun_rounds workers count m going) (Rounds count ∷ []) m' (leads_ahead workers (turns 1 workers) (Rounds count ∷ []) m m' made))

-- the next round fails
pub comes_round : (workers more n count : ℕ) (l m : Machine) (f : PlayFault) → Leads workers (Rounds more ∷ []) l (Rounds n ∷ []) m → n ≡ suc count → (let b = m.scheduler in is_some b.outcome ≡ false) → ComesToFault workers (turns 1 workers) m f → ComesToFault workers (Rounds more ∷ []) l f
comes_round workers more n count l m f h e going lost =
    comes_later workers (Rounds more ∷ []) (Rounds (suc count) ∷ []) l m (subst (λ k. Leads workers (Rounds more ∷ []) l (Rounds k ∷ []) m) e h) f
    (comes_later workers (Rounds (suc count) ∷ []) (turns 1 workers ++ (Rounds count ∷ [])) m m (begun_rounds workers count m going) f (comes_ahead workers (turns 1 workers) (Rounds count ∷ []) m f lost))

pub passes : (workers line : ℕ) (m : Machine) → ComesToFault workers (Pass line ∷ []) m (faults.Line line)
passes workers line m = λ p is h rest. Passes line rest h.state h.worker_table
