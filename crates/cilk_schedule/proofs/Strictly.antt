-- A machine that makes a script's tasks strictly.
--
-- - `parts`: a list that is parted twice; `replicate_around`: an element that is there many times;
-- - `same_tasks`: the tasks of lines are those of a script; `first_at`, `steps_more`,
--   `steps_past`: by one step;
-- - `same_behind`, `skips_same`, `chosen_once`: the state behind tasks, and a choice there, are one;
-- - `can_be_made`, `one_choice`, `no_choice`, `can_not_be_made`: a choice that isn't skipped, no choice,
--   and one that is skipped;
-- - `Behind`, `skip_behind`, `led_more`, `can_behind`: behind tasks that were made;
-- - `none_made`, `more_made`, `skip_found`, `fault_found`: one more task, where each choice can be made;
-- - `strictly_failed`, `strictly_settled`: a whole script.
use Rattle.std.proofs.Common.{◌≡◌, ◌⊎◌, inl, inr, ◌+◌, ◌-◌, ◌<◌, ℕ, zero, suc, nat_lt, Bool, true, false, ℤ, List, [], ◌∷◌, ◌++◌, refl, sym, ap, ap₂, ◌∙◌, subst, append_assoc, arith, Bor, get_or, length}
use Rattle.std.specs.Prelude.{if◌then◌else◌, drop, map, replicate}
use Rattle.std.proofs.Math.Seq.{drop-cons}
use Rattle.std.proofs.lemmas.List.{map-append}
use Rattle.cilk_program.specs.Syntax.{Source}
use Rattle.cilk_lower.specs.Code.{CodeView}
use Rattle.cilk_determinacy.specs.Machine.{State}
use Rattle.cilk_determinacy.specs.Reducers.{View}
use Rattle.cilk_determinacy.specs.Steps.{IsFirst}
use Rattle.cilk_determinacy.specs.FrameEnvs.{FrameEnv}
use Rattle.cilk_scheduler.specs.WorkerTables.{Chooses, Comes, Did, IsOver, IsSkipped, Skipped, Stole, Waited, WorkerTable, does, skips, steals, waits}
use Rattle.cilk_scheduler.specs.Openings.{first_worker_table}
use Rattle.cilk_scheduler.specs.declared.scheduler.Scheduler.{Scheduler}
use Rattle.cilk_scheduler.specs.declared.choice.Choice.{Choice}
use Rattle.cilk_scheduler.specs.declared.choice.Choice.TheVariants as choices
use Rattle.cilk_scheduler.specs.declared.choice.Told.{Told}
use Rattle.cilk_scheduler.specs.declared.choice.Told.TheVariants as told
use Rattle.cilk_lower.specs.Behaves.{IsCodeOf}
use Rattle.cilk_parser.specs.ScriptChoices.{choices_of, choices_within, count_of}
use Rattle.cilk_parser.specs.declared.script.LineOrder.{LineOrder}
use Rattle.cilk_parser.specs.declared.script.LineOrder.TheVariants as orders
use Rattle.cilk_parser.specs.declared.script.Step.{Step}
use Rattle.cilk_parser.specs.declared.script_choices.Next.TheVariants as nexts
use Rattle.cilk_parser.specs.declared.script_choices.TheConstants.{MAX_CHOICES}
use Rattle.cilk_schedule.specs.Deciding.{Agree}
use Rattle.cilk_schedule.specs.Deciding as deciding
use Rattle.cilk_schedule.specs.Played.{IsAt}
use Rattle.cilk_schedule.specs.Playing.{Choose, ComesToFault, Done, End, Ends, Follows, Leads, Pass, Passed, Plays, Rounds, Stopped, StopsBy, Task, task_of}
use Rattle.cilk_schedule.specs.Reached.{HasOpened, LeadsOn, comes_of}
use Rattle.cilk_schedule.specs.Strict.{AllCanBeMade, CanBeMade, CanNotBeMade, FailsStrictly, FailsStrictlyAsSettled, HasMade, IsSkippedBehind, IsStrict, IsStrictFault, IsTaskFault, IsWhy, LineTask, line_tasks, task_in, tasks_within}
use Rattle.cilk_schedule.specs.declared.fault.PlayFault.{PlayFault}
use Rattle.cilk_schedule.specs.declared.fault.PlayFault.TheVariants as play_faults
use Rattle.cilk_schedule.specs.declared.machine.Machine.{Machine}
use Rattle.cilk_schedule.specs.declared.unmade.Reason.{Reason}
use Rattle.cilk_schedule.specs.declared.unmade.StrictFault.{StrictFault}
use Rattle.cilk_schedule.specs.declared.unmade.StrictFault.TheVariants as strict_faults
use Rattle.cilk_schedule.proofs.Deciding.{choices_decide}
use Rattle.cilk_schedule.proofs.Following.{chosen, fault_of, led}
use Rattle.cilk_schedule.proofs.Keeping.{leads_ahead, leads_on, leads_same}
use Rattle.cilk_schedule.proofs.OneEnd.{plays_once, settled_fault}
use Rattle.cilk_schedule.proofs.Played.{opened_at}

-- ---- lists

-- An element of a list and another one: the same, an earlier one, or a later one.
module _ {X : Type 0} where
  abbrev pub Parts : List X → X → List X → List X → X → List X → Type 0
  Parts done x rest before y behind =
      ((before ≡ done) × (y ≡ x)) ⊎ (((r : List X) × (done ≡ before ++ y ∷ r)) ⊎ ((r : List X) × (before ≡ done ++ x ∷ r) × (rest ≡ r ++ y ∷ behind)))

  head_is : (x y : X) (xs ys : List X) → x ∷ xs ≡ y ∷ ys → y ≡ x
  head_is x y xs ys e = cc

  tail_is : (x y : X) (xs ys : List X) → x ∷ xs ≡ y ∷ ys → xs ≡ ys
  tail_is x y xs ys e = cc

  longer : (d b : X) (done before : List X) (x : X) (rest : List X) (y : X) (behind : List X) → b ≡ d → Parts done x rest before y behind → Parts (d ∷ done) x rest (b ∷ before) y behind
  longer d b done before x rest y behind e (inl (same, is)) = inl (ap₂ (λ h t. h ∷ t) e same, is)
  longer d b done before x rest y behind e (inr (inl (r, q))) = inr (inl (r, ap₂ (λ h t. h ∷ t) (sym e) q))
  longer d b done before x rest y behind e (inr (inr (r, q, z))) = inr (inr (r, ap₂ (λ h t. h ∷ t) e q, z))

  pub parts : (done : List X) (x : X) (rest before : List X) (y : X) (behind : List X) → done ++ x ∷ rest ≡ before ++ y ∷ behind → Parts done x rest before y behind
  parts [] x rest [] y behind e = inl (refl, head_is x y rest behind e)
  parts [] x rest (b ∷ before) y behind e = inr (inr (before, ap (λ h. h ∷ before) (head_is x b rest (before ++ y ∷ behind) e), tail_is x b rest (before ++ y ∷ behind) e))
  parts (d ∷ done) x rest [] y behind e = inr (inl (done, ap (λ h. h ∷ done) (sym (head_is d y (done ++ x ∷ rest) behind e))))
  parts (d ∷ done) x rest (b ∷ before) y behind e =
      longer d b done before x rest y behind (head_is d b (done ++ x ∷ rest) (before ++ y ∷ behind) e) (parts done x rest before y behind (tail_is d b (done ++ x ∷ rest) (before ++ y ∷ behind) e))

  pub not_empty : (r : List X) (y : X) (behind : List X) → [] ≡ r ++ y ∷ behind → ⊥
  not_empty [] y behind e = cc
  not_empty (x ∷ r) y behind e = cc

-- the same element, many times, with one of them at a place
pub replicate_around : {X : Type 0} (done : List X) (n left count : ℕ) (x : X) (behind : List X) → n + suc left ≡ count → (done ++ replicate n x) ++ x ∷ (replicate left x ++ behind) ≡ done ++ (replicate count x ++ behind)
replicate_around done n left count x behind e =
    append_assoc done (replicate n x) (x ∷ (replicate left x ++ behind)) ∙ ap (λ ts. done ++ ts) (more n ∙ ap (λ k. replicate k x ++ behind) e)
  where
    more : (n : ℕ) → replicate n x ++ x ∷ (replicate left x ++ behind) ≡ replicate (n + suc left) x ++ behind
    more zero = let z : suc left ≡ zero + suc left = omega arith in ap (λ k. replicate k x ++ behind) z
    more (suc n) = let z : suc (n + suc left) ≡ suc n + suc left = omega arith in ap (λ t. x ∷ t) (more n) ∙ ap (λ k. replicate k x ++ behind) z

-- ---- the tasks of lines are those of a script

map_replicate : {A B C : Type 0} (f : A → C) (g : B → C) (a : A) (b : B) (n : ℕ) → f a ≡ g b → map f (replicate n a) ≡ map g (replicate n b)
map_replicate f g a b zero e = refl
map_replicate f g a b (suc n) e = ap₂ (λ h t. h ∷ t) e (map_replicate f g a b n e)

same_line : (line : ℕ) (order : LineOrder) → map task_in (line_tasks line order) ≡ map task_of (choices_of order)
same_line line (orders.Run w n) = map_replicate task_in task_of _ _ n refl
same_line line (orders.Steal w k) = refl
same_line line orders.All = refl

pub same_tasks : (room : ℕ) (steps : List Step) → map task_in (tasks_within room steps) ≡ map task_of (choices_within room steps)
same_tasks room [] = refl
same_tasks room (s ∷ ss) = by (nat_lt room (count_of s.order)) (same_tasks (room - count_of s.order) ss)
  where
    by : (b : Bool) → map task_in (tasks_within (room - count_of s.order) ss) ≡ map task_of (choices_within (room - count_of s.order) ss)
        → map task_in (if b then record { line = s.line; task = Pass s.line } ∷ [] else line_tasks s.line s.order ++ tasks_within (room - count_of s.order) ss)
        ≡ map task_of (if b then nexts.Past s.line ∷ [] else choices_of s.order ++ choices_within (room - count_of s.order) ss)
    by true more = refl
    by false more =
        map-append task_in (line_tasks s.line s.order) (tasks_within (room - count_of s.order) ss) ∙ ap₂ (λ x y. x ++ y) (same_line s.line s.order) more
        ∙ sym (map-append task_of (choices_of s.order) (choices_within (room - count_of s.order) ss))

-- the step at a place, and those after it
abbrev pub step_at : List Step → ℕ → Step
step_at steps i = get_or steps i (record { line = 0; order = orders.Run 0 0 })

pub first_at : (steps : List Step) (i : ℕ) → i < length steps → drop i steps ≡ step_at steps i ∷ drop (i + 1) steps
first_at steps i low =
    let next : suc i ≡ i + 1 = omega arith in
    drop-cons steps i (record { line = 0; order = orders.Run 0 0 }) low ∙ ap (λ n. step_at steps i ∷ drop n steps) next

module _ (steps : List Step) (i j room count line : ℕ) (order : LineOrder) (all done : List LineTask) (first : drop i steps ≡ (record { line = line; order = order }) ∷ drop j steps)
    (costs : count ≡ count_of order) (are : all ≡ done ++ tasks_within room (drop i steps)) where
  pub steps_more : nat_lt room count ≡ false → all ≡ (done ++ line_tasks line order) ++ tasks_within (room - count) (drop j steps)
  steps_more within =
      are ∙ ap (λ ss. done ++ tasks_within room ss) first
      ∙ ap (λ b. done ++ (if b then record { line = line; task = Pass line } ∷ [] else line_tasks line order ++ tasks_within (room - count_of order) (drop j steps))) (ap (λ n. nat_lt room n) (sym costs) ∙ within)
      ∙ sym (append_assoc done (line_tasks line order) (tasks_within (room - count_of order) (drop j steps))) ∙ ap (λ n. (done ++ line_tasks line order) ++ tasks_within (room - n) (drop j steps)) (sym costs)

  pub steps_past : nat_lt room count ≡ true → all ≡ done ++ (record { line = line; task = Pass line }) ∷ []
  steps_past beyond =
      are ∙ ap (λ ss. done ++ tasks_within room ss) first
      ∙ ap (λ b. done ++ (if b then record { line = line; task = Pass line } ∷ [] else line_tasks line order ++ tasks_within (room - count_of order) (drop j steps))) (ap (λ n. nat_lt room n) (sym costs) ∙ beyond)

-- ---- the state behind tasks, and a choice there

agrees : (s : State FrameEnv View) → Agree s s
agrees s = record { frames = refl; stolen = refl; memory = refl; piece = λ n f at. refl; joins = refl; totals = refl; stopped = refl }

pub over_moves : (s t : State FrameEnv View) → Agree s t → IsOver t → IsOver s
over_moves s t agree h = subst (λ z. IsOver (record s { frames = z })) agree.frames h

pub skips_same : (choice : Choice) (s t : State FrameEnv View) (d d' : WorkerTable) → d' ≡ d → Agree s t → IsSkipped t d' choice → IsSkipped s d choice
skips_same choice s t d d' e agree h = by choice (subst (λ z. IsSkipped t z choice) e h)
  where
    by : (c : Choice) → IsSkipped t d c → IsSkipped s d c
    by (choices.Run zero) h = tt
    by (choices.Run (suc w)) (inl h) = inl h
    by (choices.Run (suc w)) (inr over) = inr (over_moves s t agree over)
    by (choices.Steal zero k) h = tt
    by (choices.Steal (suc w) k) (inl h) = inl h
    by (choices.Steal (suc w) k) (inr (inl h)) = inr (inl h)
    by (choices.Steal (suc w) k) (inr (inr over)) = inr (inr (over_moves s t agree over))

-- an end that is no state
abbrev pub IsHalt : End → Type 0
IsHalt (Done s d) = ⊥
IsHalt (Stopped stop) = Unit {0}
IsHalt (Passed line) = Unit {0}

module _ (p : Source) (inputs : List ℤ) (workers : ℕ) where
  abbrev pub From : List Task → State FrameEnv View → End → Type 0
  From tasks s e = Plays p inputs workers tasks s (first_worker_table (workers - 1)) e

  pub same_behind : (tasks : List Task) (s t s' t' : State FrameEnv View) (d d' : WorkerTable) → IsFirst p inputs s → IsFirst p inputs t → From tasks s (Done s' d) → From tasks t (Done t' d') → (d' ≡ d) × Agree s' t'
  same_behind tasks s t s' t' d d' first first' h k =
      let law = choices_decide p inputs in
      plays_once p inputs workers tasks s t (first_worker_table (workers - 1)) (Done s' d) (Done t' d') (law.first s first) (law.opens s t first first') h k

  pub never_both : (tasks : List Task) (s t s' : State FrameEnv View) (d : WorkerTable) (e : End) → IsFirst p inputs s → IsFirst p inputs t → From tasks s (Done s' d) → IsHalt e → From tasks t e → ⊥
  never_both tasks s t s' d (Done t' d') first first' h halt k = halt
  never_both tasks s t s' d (Stopped stop) first first' h halt k =
      let law = choices_decide p inputs in
      plays_once p inputs workers tasks s t (first_worker_table (workers - 1)) (Done s' d) (Stopped stop) (law.first s first) (law.opens s t first first') h k
  never_both tasks s t s' d (Passed line) first first' h halt k =
      let law = choices_decide p inputs in
      plays_once p inputs workers tasks s t (first_worker_table (workers - 1)) (Done s' d) (Passed line) (law.first s first) (law.opens s t first first') h k

-- a choice that is made isn't skipped
pub can_be_made : (m : Machine) (b : Scheduler) (choice : Choice) (t : Told) → (t ≡ told.Skipped → ⊥)
    → ((p : Source) → IsCodeOf p (let c = m.code in c.now) → LeadsOn (let c = m.code in c.now) p (let i = m.input in i.now) m.scheduler b choice t) → CanBeMade m choice
can_be_made m b choice t made leads = λ p is h k.
    let c = m.code in
    let i = m.input in
    let r = leads p is h in
    let x = r.0 in
    let y = h.shows in
    let law = choices_decide p i.now in
    let going : deciding.IsGoing p i.now h.state = record { steps = h.steps; reaches = h.reaches; running = y.running } in
    let e = law.leads h.state h.state h.state x.state h.worker_table h.worker_table x.worker_table choice Skipped (comes_of t) going (agrees h.state) (skips choice k) r.1 in
    by t e.0 made
  where
    by : (t : Told) → comes_of t ≡ Skipped → (t ≡ told.Skipped → ⊥) → ⊥
    by (told.Did act) e made = let z : Did ≡ Skipped = e in cc
    by told.Stole e made = let z : Stole ≡ Skipped = e in cc
    by told.Waits e made = let z : Waited ≡ Skipped = e in cc
    by told.Skipped e made = made refl

-- it is the task's only choice
pub one_choice : (m : Machine) (choice : Choice) → CanBeMade m choice → (c : Choice) → Choose choice ≡ Choose c → CanBeMade m c
one_choice m choice can c e = subst (λ z. CanBeMade m z) (same e) can
  where
    same : Choose choice ≡ Choose c → choice ≡ c
    same q = cc

-- rounds are no choice
pub no_choice : (m : Machine) (count : ℕ) (c : Choice) → Rounds count ≡ Choose c → CanBeMade m c
no_choice m count c e = let z : ⊥ = cc in absurd z

-- a choice that is skipped can't be made
pub can_not_be_made : (m m' : Machine) (choice : Choice) (why : Reason) (t : Told) → t ≡ told.Skipped → m' ≡ m
    → ((p : Source) → IsCodeOf p (let c = m.code in c.now) → LeadsOn (let c = m.code in c.now) p (let i = m.input in i.now) m.scheduler m'.scheduler choice t)
    → ((p : Source) → IsCodeOf p (let c = m'.code in c.now) → (h : IsAt m' p) → IsSkipped h.state h.worker_table choice → IsWhy h.state h.worker_table choice why) → CanNotBeMade m choice why
can_not_be_made m m' choice why t skip same leads reason = λ p is h.
    let i = m.input in
    let r = leads p is h in
    let x = r.0 in
    let k = by p i.now h.state x.state h.worker_table x.worker_table choice (comes_of t) (ap comes_of skip) r.1 in
    (k, at p is h k)
  where
    by : (p : Source) (inputs : List ℤ) (s s' : State FrameEnv View) (d d' : WorkerTable) (c : Choice) (x : Comes) → x ≡ Skipped → Chooses p inputs s d c x s' d' → IsSkipped s d c
    by p inputs s s' d d' c x e (does w n _ _ hand it st) = let z : ⊥ = cc in absurd z
    by p inputs s s' d d' c x e (waits w n f hand stands open_yet) = let z : ⊥ = cc in absurd z
    by p inputs s s' d d' c x e (steals w k n _ hand still it m) = let z : ⊥ = cc in absurd z
    by p inputs s s' d d' c x e (skips _ skipped) = skipped

    at : (p : Source) → IsCodeOf p (let c = m.code in c.now) → (h : IsAt m p) → IsSkipped h.state h.worker_table choice → IsWhy h.state h.worker_table choice why
    at = subst (λ z. (p : Source) → IsCodeOf p (let c = z.code in c.now) → (h : IsAt z p) → IsSkipped h.state h.worker_table choice → IsWhy h.state h.worker_table choice why) same reason

-- ---- a machine

pub none_made : (workers : ℕ) (m : Machine) → HasMade workers m [] m
none_made workers m = record { led = leads_same workers [] m; all = λ p is o before behind line choice e k. not_empty before _ behind e }

module _ (workers : ℕ) (first m : Machine) (done : List LineTask) (one : Leads workers (map task_in done) first [] m) where
  code_on : (p : Source) → IsCodeOf p (let c = first.code in c.now) → IsCodeOf p (let c = m.code in c.now)
  code_on p is = subst (λ (x : Bor CodeView). IsCodeOf p x.now) (sym one.code) is

  abbrev pub Opened : Source → Type 0
  Opened p = HasOpened (let c = first.code in c.now) p (let i = first.input in i.now) first.scheduler (workers - 1)

  -- the opening state, and the state behind the tasks
  pub record Behind (p : Source) : Type 0 where
    pub opening : State FrameEnv View
    pub opens : IsFirst p (let i = first.input in i.now) opening
    pub here : IsAt m p
    pub follows : Follows p (let i = first.input in i.now) workers (map task_in done) opening (first_worker_table (workers - 1)) [] here.state here.worker_table

  behind_of : (p : Source) → IsCodeOf p (let c = first.code in c.now) → Opened p → Behind p
  behind_of p is o =
      let c = first.code in
      let i = first.input in
      let a = opened_at c.now p i.now workers first refl refl o in
      let h = a.0 in
      let r = one.reached p is h in
      let x = r.0 in
      record { opening = h.state; opens = a.1.0; here = x; follows = subst (λ d. Follows p i.now workers (map task_in done) h.state d [] x.state x.worker_table) a.1.1 r.1 }

  plays_to : (p : Source) (a : Behind p) → (let h = a.here in Plays p (let i = first.input in i.now) workers (map task_in done) a.opening (first_worker_table (workers - 1)) (Done h.state h.worker_table))
  plays_to p a = let i = first.input in let h = a.here in led p i.now workers (map task_in done) a.opening h.state (first_worker_table (workers - 1)) h.worker_table a.follows

  -- a choice that is skipped behind the tasks is skipped in the state that the machine shows
  skipped_here : (p : Source) (a : Behind p) (choice : Choice) → IsSkippedBehind p (let i = first.input in i.now) workers done choice → (let h = a.here in IsSkipped h.state h.worker_table choice)
  skipped_here p a choice k =
      let i = first.input in
      let h = a.here in
      let r = same_behind p i.now workers (map task_in done) a.opening k.first h.state k.state h.worker_table k.worker_table a.opens k.opens (plays_to p a) k.plays in
      skips_same choice h.state k.state h.worker_table k.worker_table r.0 r.1 k.skipped

  -- a choice that the machine can't make is skipped behind the tasks
  pub skip_behind : (choice : Choice) (why : Reason) → CanNotBeMade m choice why → (p : Source) → IsCodeOf p (let c = first.code in c.now) → Opened p
      → (k : IsSkippedBehind p (let i = first.input in i.now) workers done choice) × IsWhy k.state k.worker_table choice why
  skip_behind choice why not_made p is o =
      let a = behind_of p is o in
      let h = a.here in
      let r = not_made p (code_on p is) h in
      (record { first = a.opening; opens = a.opens; state = h.state; worker_table = h.worker_table; plays = plays_to p a; skipped = r.0 }, r.1)

  -- the next task
  module _ (x : LineTask) where
    pub led_more : (m' : Machine) → Leads workers (x.task ∷ []) m [] m' → Leads workers (map task_in (done ++ x ∷ [])) first [] m'
    led_more m' next =
        subst (λ ts. Leads workers ts first [] m') (sym (map-append task_in done (x ∷ [])))
        (leads_on workers (map task_in done ++ x.task ∷ []) (x.task ∷ []) first m (leads_ahead workers (map task_in done) (x.task ∷ []) first m one) [] m' next)

    pub can_behind : ((choice : Choice) → x.task ≡ Choose choice → CanBeMade m choice) → (p : Source) → IsCodeOf p (let c = first.code in c.now) → Opened p → (choice : Choice) → x.task ≡ Choose choice
        → ¬ (IsSkippedBehind p (let i = first.input in i.now) workers done choice)
    can_behind can p is o choice e k = let a = behind_of p is o in can choice e p (code_on p is) a.here (skipped_here p a choice k)

    -- what comes of it and of others after it, if it doesn't lead on
    abbrev pub Halts : (p : Source) → Behind p → Type 0
    Halts p a = (rest : List Task) → (e : End) × IsHalt e × (let h = a.here in Plays p (let i = first.input in i.now) workers ((x.task ∷ []) ++ rest) h.state h.worker_table e)

    none_after : (p : Source) (a : Behind p) → Halts p a → (r : List LineTask) (t t' : State FrameEnv View) (d : WorkerTable) → IsFirst p (let i = first.input in i.now) t
        → Plays p (let i = first.input in i.now) workers (map task_in (done ++ x ∷ r)) t (first_worker_table (workers - 1)) (Done t' d) → ⊥
    none_after p a halts r t t' d opens k =
        let i = first.input in
        let q = halts (map task_in r) in
        never_both p i.now workers (map task_in done ++ x.task ∷ map task_in r) t a.opening t' d q.0 opens a.opens
        (subst (λ ts. Plays p i.now workers ts t (first_worker_table (workers - 1)) (Done t' d)) (map-append task_in done (x ∷ r)) k) q.1 (a.follows (x.task ∷ map task_in r) q.0 q.2)

    -- it isn't skipped then
    not_skipped : (p : Source) (a : Behind p) → Halts p a → (choice : Choice) → x.task ≡ Choose choice → ¬ (IsSkippedBehind p (let i = first.input in i.now) workers done choice)
    not_skipped p a halts choice is k =
        let i = first.input in
        let h = a.here in
        let s = skipped_here p a choice k in
        let only = chosen p i.now workers choice Skipped h.state h.state h.worker_table h.worker_table (skips choice s) in
        let next = subst (λ t. Follows p i.now workers (t ∷ []) h.state h.worker_table [] h.state h.worker_table) (sym is) only in
        none_after p a halts [] a.opening h.state h.worker_table a.opens
        (subst (λ ts. Plays p i.now workers ts a.opening (first_worker_table (workers - 1)) (Done h.state h.worker_table)) (sym (map-append task_in done (x ∷ [])))
        (a.follows (x.task ∷ []) (Done h.state h.worker_table) (led p i.now workers (x.task ∷ []) h.state h.state h.worker_table h.worker_table next)))

    -- the tasks, with others after them, come to this end
    plays_past : (p : Source) (a : Behind p) (behind : List LineTask) (e : End) → (let h = a.here in Plays p (let i = first.input in i.now) workers ((x.task ∷ []) ++ map task_in behind) h.state h.worker_table e)
        → Plays p (let i = first.input in i.now) workers (map task_in (done ++ x ∷ behind)) a.opening (first_worker_table (workers - 1)) e
    plays_past p a behind e k =
        let i = first.input in
        subst (λ ts. Plays p i.now workers ts a.opening (first_worker_table (workers - 1)) e) (sym (map-append task_in done (x ∷ behind))) (a.follows (x.task ∷ map task_in behind) e k)

-- ---- each choice can be made

module _ (workers : ℕ) (first m : Machine) (done : List LineTask) (made : HasMade workers first done m) where
  abbrev Now : Source → Type 0
  Now p = Behind workers first m done made.led p

  now_of : (p : Source) → IsCodeOf p (let c = first.code in c.now) → Opened workers first m done made.led p → Now p
  now_of p is o = behind_of workers first m done made.led p is o

  pub skip_found : (line : ℕ) (choice : Choice) (why : Reason) (behind : List LineTask) → CanNotBeMade m choice why
      → FailsStrictly workers first (done ++ (record { line = line; task = Choose choice }) ∷ behind) (strict_faults.Skipped (record { line = line; choice = choice; reason = why }))
  skip_found line choice why behind not_made = λ p is o.
      let r = skip_behind workers first m done made.led choice why not_made p is o in
      record { before = done; behind = behind; stands = refl; made = made.all p is o; skipped = r.0; why = r.1 }

  module _ (x : LineTask) where
    pub more_made : (m' : Machine) → Leads workers (x.task ∷ []) m [] m' → ((choice : Choice) → x.task ≡ Choose choice → CanBeMade m choice) → HasMade workers first (done ++ x ∷ []) m'
    more_made m' next can = record {
      led = led_more workers first m done made.led x m' next;
      all = λ p is o before behind line choice e k. by p is o before behind line choice k (parts done x [] before (record { line = line; task = Choose choice }) behind e);
    }
      where
        by : (p : Source) → IsCodeOf p (let c = first.code in c.now) → Opened workers first m done made.led p → (before behind : List LineTask) (line : ℕ) (choice : Choice)
            → IsSkippedBehind p (let i = first.input in i.now) workers before choice → Parts done x [] before (record { line = line; task = Choose choice }) behind → ⊥
        by p is o before behind line choice k (inl (same, is_x)) =
            let i = first.input in
            can_behind workers first m done made.led x can p is o choice (sym (ap task_in is_x)) (subst (λ ts. IsSkippedBehind p i.now workers ts choice) same k)
        by p is o before behind line choice k (inr (inl (r, e))) = made.all p is o before r line choice e k
        by p is o before behind line choice k (inr (inr (r, e, z))) = not_empty r _ behind z

    -- so it is if the next task doesn't lead on
    all_before : (p : Source) → IsCodeOf p (let c = first.code in c.now) → Opened workers first m done made.led p → (a : Now p) → Halts workers first m done made.led x p a → (behind : List LineTask)
        → AllCanBeMade p (let i = first.input in i.now) workers (done ++ x ∷ behind)
    all_before p is o a halts rest = λ before behind line choice e k. by before behind line choice k (parts done x rest before (record { line = line; task = Choose choice }) behind e)
      where
        by : (before behind : List LineTask) (line : ℕ) (choice : Choice) → IsSkippedBehind p (let i = first.input in i.now) workers before choice → Parts done x rest before (record { line = line; task = Choose choice }) behind → ⊥
        by before behind line choice k (inl (same, is_x)) =
            let i = first.input in
            not_skipped workers first m done made.led x p a halts choice (sym (ap task_in is_x)) (subst (λ ts. IsSkippedBehind p i.now workers ts choice) same k)
        by before behind line choice k (inr (inl (r, e))) = made.all p is o before r line choice e k
        by before behind line choice k (inr (inr (r, e, z))) =
            let i = first.input in
            let q = subst (λ ts. IsSkippedBehind p i.now workers ts choice) e k in
            none_after workers first m done made.led x p a halts r q.first q.state q.worker_table q.opens q.plays

    pub fault_found : (f : PlayFault) (behind : List LineTask) → ComesToFault workers (x.task ∷ []) m f → FailsStrictly workers first (done ++ x ∷ behind) (strict_faults.Play f)
    fault_found (play_faults.Line line) behind comes = λ p is o.
        let a = now_of p is o in
        let l = made.led in
        let ends = subst (λ (z : Bor (List ℤ)). (rest : List Task) → (let h = a.here in Plays p z.now workers ((x.task ∷ []) ++ rest) h.state h.worker_table (Passed line))) l.input (comes p (code_on workers first m done made.led p is) a.here) in
        ((a.opening, a.opens, plays_past workers first m done made.led x p a behind (Passed line) (ends (map task_in behind))), all_before p is o a (λ rest. (Passed line, tt, ends rest)) behind)
    fault_found (play_faults.Stop fault name) behind comes = λ p is o.
        let a = now_of p is o in
        let l = made.led in
        let n = name in
        let ends =
        subst (λ (z : Bor (List ℤ)). (rest : List Task) → StopsBy (λ e. let h = a.here in Plays p z.now workers ((x.task ∷ []) ++ rest) h.state h.worker_table e) fault n.items) l.input
        (comes p (code_on workers first m done made.led p is) a.here)
        in
        let q = ends (map task_in behind) in
        (q.0, ((a.opening, a.opens, plays_past workers first m done made.led x p a behind (Stopped q.0) q.1), all_before p is o a (λ rest. let r = ends rest in (Stopped r.0, tt, r.1)) behind), q.2, q.3)
    fault_found play_faults.Memory behind comes = λ p is o. tt

-- ---- a whole script

module _ (p : Source) (inputs : List ℤ) (workers : ℕ) (steps : List Step) where
  of_steps : (f : StrictFault) → IsTaskFault p inputs workers (tasks_within MAX_CHOICES steps) f → IsStrictFault p inputs workers steps f
  of_steps (strict_faults.Skipped skip) h = h
  of_steps (strict_faults.Play f) h =
      fault_of
      (λ e. ((s : State FrameEnv View) × IsFirst p inputs s × Plays p inputs workers (map task_in (tasks_within MAX_CHOICES steps)) s (first_worker_table (workers - 1)) e) × IsStrict p inputs workers steps)
      (λ e. Ends p inputs workers steps e × IsStrict p inputs workers steps) f
      (λ e q. let r = q.0 in ((r.0, r.1, subst (λ ts. Plays p inputs workers ts r.0 (first_worker_table (workers - 1)) e) (same_tasks MAX_CHOICES steps) r.2), q.1)) h

  pub strictly_settled : (f : StrictFault) → IsStrictFault p inputs workers steps f → FailsStrictlyAsSettled p inputs f
  strictly_settled (strict_faults.Skipped skip) h = tt
  strictly_settled (strict_faults.Play f) h =
      settled_fault p inputs workers steps f (fault_of (λ e. Ends p inputs workers steps e × IsStrict p inputs workers steps) (Ends p inputs workers steps) f (λ e q. q.0) h)

pub strictly_failed : (code : CodeView) (p : Source) (inputs : List ℤ) (workers : ℕ) (steps : List Step) (m : Machine) (f : StrictFault) → IsCodeOf p code → (let c = m.code in c.now ≡ code) → (let i = m.input in i.now ≡ inputs)
    → HasOpened code p inputs m.scheduler (workers - 1) → FailsStrictly workers m (tasks_within MAX_CHOICES steps) f → IsStrictFault p inputs workers steps f
strictly_failed code p inputs workers steps m f is e d o k =
    let c = m.code in
    let i = m.input in
    let opened = subst (λ (x : CodeView). HasOpened x p i.now m.scheduler (workers - 1)) (sym e) (subst (λ (y : List ℤ). HasOpened code p y m.scheduler (workers - 1)) (sym d) o) in
    of_steps p inputs workers steps f
    (subst (λ (y : List ℤ). IsTaskFault p y workers (tasks_within MAX_CHOICES steps) f) d (k p (subst (λ (x : CodeView). IsCodeOf p x) (sym e) is) opened))
