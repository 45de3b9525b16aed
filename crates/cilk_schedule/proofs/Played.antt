-- A list of choices.
--
-- - `lead_on`, `stop_behind`: one more choice after those that were made;
-- - `lists_decide`: a list has one end;
-- - `moved`, `at_moved`: of a machine with the same code and input;
-- - `lead_same`, `lead_more`, `halt_more`: what a machine's choices lead to;
-- - `opened_at`: the scheduler of a new machine shows the opening state;
-- - `leaves_by`: the outcome of a state that a scheduler records;
-- - `played_by`, `stopped_by`: of a whole list.
use Rattle.std.proofs.Common.{◌≡◌, inl, inr, ◌-◌, ℕ, ℤ, List, [], ◌∷◌, ◌++◌, Option, Some, None, refl, sym, ap, ◌∙◌, subst, Bor, MatchOption}
use Rattle.cilk_types.specs.declared.outcome.Outcome.{Outcome}
use Rattle.cilk_program.specs.Syntax.{Source}
use Rattle.cilk_lower.specs.Code.{CodeView}
use Rattle.cilk_determinacy.specs.Machine.{State}
use Rattle.cilk_determinacy.specs.Runs.{Name}
use Rattle.cilk_determinacy.specs.Reducers.{View}
use Rattle.cilk_determinacy.specs.Steps.{IsFirst, Reaches}
use Rattle.cilk_determinacy.specs.FrameEnvs.{FrameEnv}
use Rattle.cilk_scheduler.specs.Schedulers.{Tells}
use Rattle.cilk_scheduler.specs.WorkerTables.{Chooses, Comes, WorkerTable, StopsAt}
use Rattle.cilk_scheduler.specs.Openings.{first_worker_table}
use Rattle.cilk_scheduler.specs.declared.scheduler.Scheduler.{Scheduler}
use Rattle.cilk_scheduler.specs.declared.choice.Choice.{Choice}
use Rattle.cilk_scheduler.specs.declared.choice.Stop.{Stop}
use Rattle.cilk_scheduler.specs.declared.choice.Stop.TheVariants as stops
use Rattle.cilk_scheduler.specs.declared.choice.Told.{Told}
use Rattle.cilk_schedule.specs.declared.showing.Shown.{Shown}
use Rattle.cilk_schedule.specs.Deciding.{Agree, IsGoing}
use Rattle.cilk_schedule.specs.Faults.{HasFault, NamesStop, StopsFrom}
use Rattle.cilk_schedule.specs.Played.{ChoicesLead, ChoicesStop, HaltAt, IsAt, IsPlayed, IsStop, LeadOn, Leaves, ListsDecide, StopFrom}
use Rattle.cilk_schedule.specs.Reached.{HasOpened, HasReached, LeadsOn, comes_of}
use Rattle.cilk_schedule.specs.Shown.{ShowsReached}
use Rattle.cilk_lower.specs.Behaves.{IsCodeOf}
use Rattle.cilk_schedule.specs.declared.machine.Machine.{Machine}
use Rattle.cilk_schedule.proofs.Deciding.{choices_decide}

-- ---- one after another

module _ (p : Source) (inputs : List ℤ) where
  pub lead_on : (done : List Choice) (choice : Choice) (told : Comes) (s t u : State FrameEnv View) (d e f : WorkerTable) → ChoicesLead p inputs done s d t e → Chooses p inputs t e choice told u f → ChoicesLead p inputs (done ++ choice ∷ []) s d u f
  lead_on [] choice told s t u d e f (same, at) h =
      (told, u, f, subst (λ z. Chooses p inputs z d choice told u f) same (subst (λ z. Chooses p inputs t z choice told u f) at h), (refl, refl))
  lead_on (c ∷ done) choice told s t u d e f (x, z, g, one, more) h = (x, z, g, one, lead_on done choice told z t u g e f more h)

  pub stop_behind : (done rest : List Choice) (choice : Choice) (s t u : State FrameEnv View) (d e : WorkerTable) → ChoicesLead p inputs done s d t e → StopsAt p inputs t e choice u → ChoicesStop p inputs (done ++ choice ∷ rest) s d u
  stop_behind [] rest choice s t u d e (same, at) h = inl (subst (λ z. StopsAt p inputs z d choice u) same (subst (λ z. StopsAt p inputs t z choice u) at h))
  stop_behind (c ∷ done) rest choice s t u d e (x, z, g, one, more) h = inr (x, z, g, one, stop_behind done rest choice z t u g e more h)

  -- ---- a list has one end

  goes_by : (choices : List Choice) (s s' : State FrameEnv View) (d d' : WorkerTable) → IsGoing p inputs s → ChoicesLead p inputs choices s d s' d' → IsGoing p inputs s'
  goes_by [] s s' d d' going (same, at) = subst (λ z. IsGoing p inputs z) (sym same) going
  goes_by (c ∷ choices) s s' d d' going (x, t, e, one, more) = let law = choices_decide p inputs in goes_by choices t s' e d' (law.goes_on s t d e c x going one) more

  halts_by : (choices : List Choice) (s s' : State FrameEnv View) (d : WorkerTable) → IsGoing p inputs s → ChoicesStop p inputs choices s d s' → (ns : List Name) × Reaches p inputs ns s'
  halts_by [] s s' d going h = absurd h
  halts_by (c ∷ choices) s s' d going (inl h) = let law = choices_decide p inputs in law.halts s s' d c going h
  halts_by (c ∷ choices) s s' d going (inr (x, t, e, one, more)) = let law = choices_decide p inputs in halts_by choices t s' e (law.goes_on s t d e c x going one) more

  leads_by : (choices : List Choice) (s t s' t' : State FrameEnv View) (d d' d'' : WorkerTable) → IsGoing p inputs s → Agree s t → ChoicesLead p inputs choices s d s' d' → ChoicesLead p inputs choices t d t' d'' → (d'' ≡ d') × Agree s' t'
  leads_by [] s t s' t' d d' d'' going agree (same, at) (same', at') =
      (at' ∙ sym at, subst (λ z. Agree z t') (sym same) (subst (λ z. Agree s z) (sym same') agree))
  leads_by (c ∷ choices) s t s' t' d d' d'' going agree (x, u, e, one, more) (y, v, f, other, rest) =
      let law = choices_decide p inputs in
      let r = law.leads s t u v d e f c x y going agree one other in
      leads_by choices u v s' t' e d' d'' (law.goes_on s u d e c x going one) r.2 more (subst (λ z. ChoicesLead p inputs choices v z t' d'') r.1 rest)

  stops_by : (choices : List Choice) (s t s' t' : State FrameEnv View) (d : WorkerTable) → IsGoing p inputs s → Agree s t → ChoicesStop p inputs choices s d s' → ChoicesStop p inputs choices t d t' → t'.stopped ≡ s'.stopped
  stops_by [] s t s' t' d going agree h k = absurd h
  stops_by (c ∷ choices) s t s' t' d going agree (inl h) (inl k) = let law = choices_decide p inputs in law.stops s t s' t' d c going agree h k
  stops_by (c ∷ choices) s t s' t' d going agree (inl h) (inr (y, v, f, other, rest)) = let law = choices_decide p inputs in absurd (law.apart s t s' v d f c y going agree h other)
  stops_by (c ∷ choices) s t s' t' d going agree (inr (x, u, e, one, more)) (inl k) = let law = choices_decide p inputs in absurd (law.leads_apart s t u t' d e c x going agree one k)
  stops_by (c ∷ choices) s t s' t' d going agree (inr (x, u, e, one, more)) (inr (y, v, f, other, rest)) =
      let law = choices_decide p inputs in
      let r = law.leads s t u v d e f c x y going agree one other in
      stops_by choices u v s' t' e (law.goes_on s u d e c x going one) r.2 more (subst (λ z. ChoicesStop p inputs choices v z t') r.1 rest)

  apart_by : (choices : List Choice) (s t s' t' : State FrameEnv View) (d d' : WorkerTable) → IsGoing p inputs s → Agree s t → ChoicesStop p inputs choices s d s' → ChoicesLead p inputs choices t d t' d' → ⊥
  apart_by [] s t s' t' d d' going agree h k = h
  apart_by (c ∷ choices) s t s' t' d d' going agree (inl h) (y, v, f, other, rest) = let law = choices_decide p inputs in law.apart s t s' v d f c y going agree h other
  apart_by (c ∷ choices) s t s' t' d d' going agree (inr (x, u, e, one, more)) (y, v, f, other, rest) =
      let law = choices_decide p inputs in
      let r = law.leads s t u v d e f c x y going agree one other in
      apart_by choices u v s' t' e d' (law.goes_on s u d e c x going one) r.2 more (subst (λ z. ChoicesLead p inputs choices v z t' d') r.1 rest)

  pub lists_decide : ListsDecide p inputs
  lists_decide = record { goes_on = goes_by; halts = halts_by; leads = leads_by; stops = stops_by; apart = apart_by }

-- ---- a machine

-- facts about the code and the input of one machine hold of another with the same code and input
pub moved : (c c' : Bor CodeView) (i i' : Bor (List ℤ)) → c' ≡ c → i' ≡ i → (P : CodeView → List ℤ → Type 0) → P c.now i.now → P c'.now i'.now
moved c c' i i' e d P x = subst (λ (z : Bor CodeView). P z.now i'.now) (sym e) (subst (λ (y : Bor (List ℤ)). P c.now y.now) (sym d) x)

-- a state and a worker table that a scheduler shows
pub at_moved : (c c' : Bor CodeView) (i i' : Bor (List ℤ)) → c' ≡ c → i' ≡ i → (p : Source) (b : Scheduler) (Q : State FrameEnv View → WorkerTable → Type 0) → (h : HasReached c.now p i.now b) × Q h.state h.worker_table → (h' : HasReached c'.now p i'.now b) × Q h'.state h'.worker_table
at_moved c c' i i' e d p b Q r = moved c c' i i' e d (λ x y. (h : HasReached x p y b) × Q h.state h.worker_table) r

pub lead_same : (m : Machine) → LeadOn [] m m
lead_same m = record { code = refl; input = refl; reached = λ p is h. (h, (refl, refl)) }

module _ (done : List Choice) (choice : Choice) (l m m' : Machine) (first : LeadOn done l m) (same_code : m'.code ≡ m.code) (same_input : m'.input ≡ m.input) where
  code_on : (p : Source) → IsCodeOf p (let c = l.code in c.now) → IsCodeOf p (let c = m.code in c.now)
  code_on p is = subst (λ (x : Bor CodeView). IsCodeOf p x.now) (sym first.code) is

  pub lead_more : (t : Told) → ((p : Source) → IsCodeOf p (let c = m.code in c.now) → LeadsOn (let c = m.code in c.now) p (let i = m.input in i.now) m.scheduler m'.scheduler choice t) → LeadOn (done ++ choice ∷ []) l m'
  lead_more t led = record {
    code = same_code ∙ first.code;
    input = same_input ∙ first.input;
    reached = λ p is h.
        let i = l.input in
        let a = first.reached p is h in
        let x = a.0 in
        let r = led p (code_on p is) x in
        let y = r.0 in
        at_moved m.code m'.code m.input m'.input same_code same_input p m'.scheduler (λ s d. ChoicesLead p i.now (done ++ choice ∷ []) h.state h.worker_table s d)
        (y, lead_on p i.now done choice (comes_of t) h.state x.state y.state h.worker_table x.worker_table y.worker_table a.1 (subst (λ (z : Bor (List ℤ)). Chooses p z.now x.state x.worker_table choice (comes_of t) y.state y.worker_table) first.input r.1));
  }

  abbrev Stops : Stop → Type 0
  Stops stop = (p : Source) → IsCodeOf p (let c = m.code in c.now) → (h : IsAt m p) → StopsFrom (let c = m.code in c.now) p (let i = m.input in i.now) m.scheduler h m'.scheduler choice stop

  -- the choices before the stop lead to the state where it happens
  stops_from : (rest : List Choice) (stop : Stop) → Stops stop → (p : Source) → IsCodeOf p (let c = l.code in c.now) → (h : IsAt l p) → StopFrom (let c = m'.code in c.now) p (let i = m'.input in i.now) (done ++ choice ∷ rest) h.state h.worker_table m'.scheduler stop
  stops_from rest (stops.At fault strand) halts p is h =
      let i = l.input in
      let a = first.reached p is h in
      let x = a.0 in
      let r = halts p (code_on p is) x in
      let f = r.0 in
      moved m.code m'.code m.input m'.input same_code same_input (λ y z. (g : HasFault y p z m'.scheduler fault strand) × ChoicesStop p z (done ++ choice ∷ rest) h.state h.worker_table g.state) (
        f,
        subst (λ (z : Bor (List ℤ)). ChoicesStop p z.now (done ++ choice ∷ rest) h.state h.worker_table f.state) (sym first.input)
            (stop_behind p i.now done rest choice h.state x.state f.state h.worker_table x.worker_table a.1 (subst (λ (z : Bor (List ℤ)). StopsAt p z.now x.state x.worker_table choice f.state) first.input r.1)),
      )
  stops_from rest stops.Memory halts p is h = tt

  pub halt_more : (rest : List Choice) (stop : Stop) → Stops stop → HaltAt (done ++ choice ∷ rest) l m' stop
  halt_more rest stop halts = record { code = same_code ∙ first.code; input = same_input ∙ first.input; halted = stops_from rest stop halts }

-- ---- the outcome

pub leaves_by : (code : CodeView) (p : Source) (inputs : List ℤ) (name : ℕ → Name) (b : Scheduler) (s : State FrameEnv View) → Tells code p inputs name b s → (left : Option Outcome) → b.outcome ≡ left → Leaves p s left
leaves_by code p inputs name b s t None e = t.going e
leaves_by code p inputs name b s t (Some o) e = t.over o e

-- ---- a whole list

module _ (code : CodeView) (p : Source) (inputs : List ℤ) (workers : ℕ) (m : Machine) where
  pub opened_at : (let c = m.code in c.now ≡ code) → (let i = m.input in i.now ≡ inputs) → HasOpened code p inputs m.scheduler (workers - 1) → (h : IsAt m p) × (IsFirst p inputs h.state × (h.worker_table ≡ first_worker_table (workers - 1)))
  opened_at e d o =
      let i = m.input in
      subst (λ (x : CodeView). (h : HasReached x p i.now m.scheduler) × (IsFirst p inputs h.state × (h.worker_table ≡ first_worker_table (workers - 1)))) (sym e)
      (subst (λ (y : List ℤ). (h : HasReached code p y m.scheduler) × (IsFirst p inputs h.state × (h.worker_table ≡ first_worker_table (workers - 1)))) (sym d)
      (record { steps = []; state = o.state; reaches = (o.state, o.first, refl); name = λ n. []; worker_table = first_worker_table (workers - 1); shows = o.shows }, (o.first, refl)))

  pub played_by : (choices : List Choice) (m' : Machine) (shown : Shown) → IsCodeOf p code → (let c = m.code in c.now ≡ code) → (let i = m.input in i.now ≡ inputs) → HasOpened code p inputs m.scheduler (workers - 1) → LeadOn choices m m'
      → ShowsReached (let c = m'.code in c.now) (let i = m'.input in i.now) m'.scheduler shown → IsPlayed p inputs workers choices shown
  played_by choices m' shown is e d o led run =
      let i = m.input in
      let a = opened_at e d o in
      let h = a.0 in
      let of_code = subst (λ (x : CodeView). IsCodeOf p x) (sym e) is in
      let r = led.reached p of_code h in
      let x = r.0 in
      let y = x.shows in
      record {
        first = h.state;
        opens = a.1.0;
        state = x.state;
        worker_table = x.worker_table;
        led = subst (λ z. ChoicesLead p inputs choices h.state z x.state x.worker_table) a.1.1 (subst (λ (z : List ℤ). ChoicesLead p z choices h.state h.worker_table x.state x.worker_table) d r.1);
        name = x.name;
        shows = run p x.steps x.name x.state (subst (λ (c : Bor CodeView). IsCodeOf p c.now) (sym led.code) of_code) x.reaches y.tells;
      }

  -- a stop that is reported with its strand's name
  pub stopped_by : (choices : List Choice) (m' : Machine) (stop : Stop) (list : List ℕ) → IsCodeOf p code → (let c = m.code in c.now ≡ code) → (let i = m.input in i.now ≡ inputs) → HasOpened code p inputs m.scheduler (workers - 1)
      → HaltAt choices m m' stop → (stop ≡ stops.Memory → list ≡ [])
      → ((q : Source) (fault : _) (strand : _) → stop ≡ stops.At fault strand → (h : HasFault (let c = m'.code in c.now) q (let i = m'.input in i.now) m'.scheduler fault strand) → NamesStop h.state list) → IsStop p inputs workers choices stop list
  stopped_by choices m' (stops.At fault strand) list is e d o halt no_name names =
      let i = m.input in
      let i' = m'.input in
      let a = opened_at e d o in
      let h = a.0 in
      let r = halt.halted p (subst (λ (x : CodeView). IsCodeOf p x) (sym e) is) h in
      let f = r.0 in
      let at = f.is_stopped in
      let same : i'.now ≡ inputs = ap (λ (z : Bor (List ℤ)). z.now) halt.input ∙ d in (
        h.state,
        f.state,
        f.name at.place,
        a.1.0,
        subst (λ z. ChoicesStop p inputs choices h.state z f.state) a.1.1 (subst (λ (z : List ℤ). ChoicesStop p z choices h.state h.worker_table f.state) same r.1),
        at.stopped,
        subst (λ z. MatchOption z (list ≡ []) (λ s. list ≡ s.frame ++ s.strand ∷ [])) at.stopped (names p fault strand refl f),
      )
  stopped_by choices m' stops.Memory list is e d o halt no_name names = no_name refl
