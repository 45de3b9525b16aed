-- A list of choices: the state to which it leads, how it stops the run, and what is shown of it.
use Rattle.std.specs.Prelude.{◌≡◌, ◌⊎◌, ◌-◌, ℕ, ℤ, List, [], ◌∷◌, ◌++◌, Option, Some, None}
use Rattle.cilk_types.specs.declared.outcome.Outcome.{Outcome}
use Rattle.cilk_program.specs.Syntax.{Source}
use Rattle.cilk_lower.specs.Code.{CodeView}
use Rattle.cilk_determinacy.specs.Machine.{State}
use Rattle.cilk_determinacy.specs.Runs.{Name}
use Rattle.cilk_determinacy.specs.Reducers.{View}
use Rattle.cilk_determinacy.specs.Steps.{IsFirst, Reaches, outcome_in}
use Rattle.cilk_determinacy.specs.FrameEnvs.{FrameEnv}
use Rattle.cilk_scheduler.specs.WorkerTables.{Chooses, Comes, WorkerTable, IsOver, StopsAt}
use Rattle.cilk_scheduler.specs.Openings.{first_worker_table}
use Rattle.cilk_scheduler.specs.declared.scheduler.Scheduler.{Scheduler}
use Rattle.cilk_scheduler.specs.declared.choice.Choice.{Choice}
use Rattle.cilk_scheduler.specs.declared.choice.Stop.{Stop}
use Rattle.cilk_scheduler.specs.declared.choice.Stop.TheVariants as stops
use Rattle.cilk_schedule.specs.Showing.{ShowsRun}
use Rattle.cilk_schedule.specs.declared.showing.Shown.{Shown}
use Rattle.cilk_schedule.specs.Deciding.{Agree, IsGoing}
use Rattle.cilk_schedule.specs.Faults.{HasFault}
use Rattle.cilk_schedule.specs.Reached.{HasReached}
use Rattle.cilk_lower.specs.Behaves.{IsCodeOf}
use Rattle.cilk_schedule.specs.Sound.{Runs}
use Rattle.cilk_schedule.specs.declared.machine.Machine.{Machine}

module _ (p : Source) (inputs : List ℤ) where
  -- The choices, one after another, lead from a state and a worker table of the free machine to
  -- others.
  abbrev pub ChoicesLead : List Choice → State FrameEnv View → WorkerTable → State FrameEnv View → WorkerTable → Type 0
  ChoicesLead [] s d s' d' = (s' ≡ s) × (d' ≡ d)
  ChoicesLead (choice ∷ choices) s d s' d' = (told : Comes) × (t : State FrameEnv View) × (e : WorkerTable) × Chooses p inputs s d choice told t e × ChoicesLead choices t e s' d'

  -- One of the choices stops the run in this state, and those before it lead there.
  abbrev pub ChoicesStop : List Choice → State FrameEnv View → WorkerTable → State FrameEnv View → Type 0
  ChoicesStop [] s d s' = ⊥
  ChoicesStop (choice ∷ choices) s d s' =
      StopsAt p inputs s d choice s' ⊎ ((told : Comes) × (t : State FrameEnv View) × (e : WorkerTable) × Chooses p inputs s d choice told t e × ChoicesStop choices t e s')

  -- A list of choices has at most one end. It leads to one state and one worker table, up to the
  -- views of frames that haven't begun; or it stops the run in one strand by one fault. It never
  -- does both. Steps of the free machine lead there.
  pub record ListsDecide : Type 0 where
    pub goes_on : (choices : List Choice) (s s' : State FrameEnv View) (d d' : WorkerTable) → IsGoing p inputs s → ChoicesLead choices s d s' d' → IsGoing p inputs s'
    pub halts : (choices : List Choice) (s s' : State FrameEnv View) (d : WorkerTable) → IsGoing p inputs s → ChoicesStop choices s d s' → (ns : List Name) × Reaches p inputs ns s'
    pub leads : (choices : List Choice) (s t s' t' : State FrameEnv View) (d d' d'' : WorkerTable) → IsGoing p inputs s → Agree s t → ChoicesLead choices s d s' d' → ChoicesLead choices t d t' d'' → (d'' ≡ d') × Agree s' t'
    pub stops : (choices : List Choice) (s t s' t' : State FrameEnv View) (d : WorkerTable) → IsGoing p inputs s → Agree s t → ChoicesStop choices s d s' → ChoicesStop choices t d t' → t'.stopped ≡ s'.stopped
    pub apart : (choices : List Choice) (s t s' t' : State FrameEnv View) (d d' : WorkerTable) → IsGoing p inputs s → Agree s t → ChoicesStop choices s d s' → ChoicesLead choices t d t' d' → ⊥

-- the outcome of a state, once the first frame has ended
abbrev pub Leaves : Source → State FrameEnv View → Option Outcome → Type 0
Leaves p s None = ¬ (IsOver s)
Leaves p s (Some o) = IsOver s × (o ≡ outcome_in p s)

-- The run shown is at the state to which the choices lead from the opening state, in which the
-- first of the workers holds the first frame.
pub record IsPlayed (p : Source) (inputs : List ℤ) (workers : ℕ) (choices : List Choice) (shown : Shown) : Type 0 where
  pub first : State FrameEnv View
  pub opens : IsFirst p inputs first
  pub state : State FrameEnv View
  pub worker_table : WorkerTable
  pub led : ChoicesLead p inputs choices first (first_worker_table (workers - 1)) state worker_table
  pub name : ℕ → Name
  pub shows : ShowsRun p name state shown

-- From the opening state the choices stop the run by this fault, in the strand with this name: its
-- frame's name, then its number in the frame. A stop out of memory has no name.
abbrev pub IsStop : Source → List ℤ → ℕ → List Choice → Stop → List ℕ → Type 0
IsStop p inputs workers choices (stops.At fault strand) list =
    (first : State FrameEnv View) × (s : State FrameEnv View) × (n : Name) × IsFirst p inputs first × ChoicesStop p inputs choices first (first_worker_table (workers - 1)) s × (s.stopped ≡ Some (record { frame = n; strand = strand.number; fault = fault }))
    × (list ≡ n ++ strand.number ∷ [])
IsStop p inputs workers choices stops.Memory list = list ≡ []

-- ---- of a machine

-- nothing has stopped it
abbrev pub IsUnstopped : Machine → Type 0
IsUnstopped m = (let b = m.scheduler in b.stopped ≡ None) × Runs (let c = m.code in c.now) (let i = m.input in i.now) m.scheduler

-- its scheduler shows a reachable state
abbrev pub IsAt : Machine → Source → Type 0
IsAt m p = HasReached (let c = m.code in c.now) p (let i = m.input in i.now) m.scheduler

-- The choices lead from each state shown before to one shown after.
pub record LeadOn (choices : List Choice) (m m' : Machine) : Type 0 where
  pub code : m'.code ≡ m.code
  pub input : m'.input ≡ m.input
  pub reached : (p : Source) → IsCodeOf p (let c = m.code in c.now) → (h : IsAt m p) → (h' : IsAt m' p) × ChoicesLead p (let i = m.input in i.now) choices h.state h.worker_table h'.state h'.worker_table

-- by a fault, the choices stop the run from this state at one that the scheduler records
abbrev pub StopFrom : (code : CodeView) (p : Source) (inputs : List ℤ) → List Choice → State FrameEnv View → WorkerTable → Scheduler → Stop → Type 0
StopFrom code p inputs choices s d b (stops.At fault strand) = (f : HasFault code p inputs b fault strand) × ChoicesStop p inputs choices s d f.state
StopFrom code p inputs choices s d b stops.Memory = Unit {0}

-- The choices stop the run from each state that the scheduler showed.
pub record HaltAt (choices : List Choice) (m m' : Machine) (stop : Stop) : Type 0 where
  pub code : m'.code ≡ m.code
  pub input : m'.input ≡ m.input
  pub halted : (p : Source) → IsCodeOf p (let c = m.code in c.now) → (h : IsAt m p) → StopFrom (let c = m'.code in c.now) p (let i = m'.input in i.now) choices h.state h.worker_table m'.scheduler stop
