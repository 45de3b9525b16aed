-- Playing a script strictly: which of its own choices can't be made first, and why.
use Rattle.std.specs.Prelude.{◌≡◌, ◌+◌, ◌-◌, ◌≤◌, ℕ, zero, suc, nat_lt, ℤ, if◌then◌else◌, List, [], ◌∷◌, ◌++◌, length, map, replicate, slice_get, None, Some, Option, MatchOption}
use Rattle.cilk_program.specs.Syntax.{Source}
use Rattle.cilk_determinacy.specs.Machine.{State}
use Rattle.cilk_determinacy.specs.Runs.{Name}
use Rattle.cilk_determinacy.specs.Reducers.{View}
use Rattle.cilk_determinacy.specs.Steps.{IsFirst}
use Rattle.cilk_determinacy.specs.FrameEnvs.{FrameEnv}
use Rattle.cilk_scheduler.specs.WorkerTables.{IsOver, IsSkipped, WorkerTable, all_offered}
use Rattle.cilk_scheduler.specs.Openings.{first_worker_table}
use Rattle.cilk_scheduler.specs.declared.choice.Choice.{Choice}
use Rattle.cilk_scheduler.specs.declared.choice.Choice.TheVariants as choices
use Rattle.cilk_lower.specs.Behaves.{IsCodeOf}
use Rattle.cilk_parser.specs.ScriptChoices.{count_of}
use Rattle.cilk_parser.specs.declared.script.LineOrder.{LineOrder}
use Rattle.cilk_parser.specs.declared.script.LineOrder.TheVariants as orders
use Rattle.cilk_parser.specs.declared.script.Step.{Step}
use Rattle.cilk_parser.specs.declared.script_choices.TheConstants.{MAX_CHOICES}
use Rattle.cilk_schedule.specs.Played.{IsAt}
use Rattle.cilk_schedule.specs.Playing.{Choose, ComesToFault, Done, Ends, FailsAsSettled, IsFault, Leads, Pass, Plays, Rounds, Task}
use Rattle.cilk_schedule.specs.Reached.{HasOpened}
use Rattle.cilk_schedule.specs.declared.fault.PlayFault.{PlayFault}
use Rattle.cilk_schedule.specs.declared.machine.Machine.{Machine}
use Rattle.cilk_schedule.specs.declared.player.TheConstants.{MAX_ROUNDS}
use Rattle.cilk_schedule.specs.declared.unmade.Reason.{Reason}
use Rattle.cilk_schedule.specs.declared.unmade.Reason.TheVariants as reasons
use Rattle.cilk_schedule.specs.declared.unmade.Skip.{Skip}
use Rattle.cilk_schedule.specs.declared.unmade.Skips.{Skips}
use Rattle.cilk_schedule.specs.declared.unmade.StrictFault.{StrictFault}
use Rattle.cilk_schedule.specs.declared.unmade.StrictFault.TheVariants as faults

-- a task, with the script's line that it comes from
pub record LineTask : Type 0 where
  pub line : ℕ
  pub task : Task

abbrev pub line_tasks : ℕ → LineOrder → List LineTask
line_tasks line (orders.Run w n) = replicate n (record { line = line; task = Choose (choices.Run w) })
line_tasks line (orders.Steal w k) = record { line = line; task = Choose (choices.Steal w k) } ∷ []
line_tasks line orders.All = record { line = line; task = Rounds MAX_ROUNDS } ∷ []

-- The tasks of steps. At most `room` choices are allowed, and the first line with too many ends the
-- script.
abbrev pub tasks_within : ℕ → List Step → List LineTask
tasks_within room [] = []
tasks_within room (s ∷ ss) =
    if nat_lt room (count_of s.order) then record { line = s.line; task = Pass s.line } ∷ [] else line_tasks s.line s.order ++ tasks_within (room - count_of s.order) ss

abbrev pub task_in : LineTask → Task
task_in t = t.task

module _ (p : Source) (inputs : List ℤ) (workers : ℕ) where
  -- Behind these tasks of a script a choice can't be made: they lead from the opening state to a
  -- state and a worker table in which it is skipped.
  pub record IsSkippedBehind (before : List LineTask) (choice : Choice) : Type 0 where
    pub first : State FrameEnv View
    pub opens : IsFirst p inputs first
    pub state : State FrameEnv View
    pub worker_table : WorkerTable
    pub plays : Plays p inputs workers (map task_in before) first (first_worker_table (workers - 1)) (Done state worker_table)
    pub skipped : IsSkipped state worker_table choice

  -- Each choice that stands in the script itself can be made. Turns in rounds are no such choices.
  abbrev pub AllCanBeMade : List LineTask → Type 0
  AllCanBeMade tasks =
      (before behind : List LineTask) (line : ℕ) (choice : Choice) → tasks ≡ before ++ (record { line = line; task = Choose choice }) ∷ behind → ¬ (IsSkippedBehind before choice)

-- the frame that a worker holds, if there is such a worker
abbrev pub hand_at : WorkerTable → ℕ → Option (Option Name)
hand_at d zero = None
hand_at d (suc w) = slice_get d.hands w

-- why a choice can't be made
abbrev pub IsWhy : State FrameEnv View → WorkerTable → Choice → Reason → Type 0
IsWhy s d (choices.Run w) reasons.Ended = IsOver s
IsWhy s d (choices.Run w) reasons.NoWorker = ¬ (IsOver s) × (hand_at d w ≡ None)
IsWhy s d (choices.Run w) reasons.NoFrame = ¬ (IsOver s) × (hand_at d w ≡ Some None)
IsWhy s d (choices.Run w) reasons.HasFrame = ⊥
IsWhy s d (choices.Run w) (reasons.Offers n) = ⊥
IsWhy s d (choices.Steal w k) reasons.Ended = IsOver s
IsWhy s d (choices.Steal w k) reasons.NoWorker = ¬ (IsOver s) × (hand_at d w ≡ None)
IsWhy s d (choices.Steal w k) reasons.NoFrame = ⊥
IsWhy s d (choices.Steal w k) reasons.HasFrame = ¬ (IsOver s) × ((n : Name) × (hand_at d w ≡ Some (Some n)))
IsWhy s d (choices.Steal w k) (reasons.Offers n) = ¬ (IsOver s) × (hand_at d w ≡ Some None) × (n ≡ length (all_offered d.offered)) × (n ≤ k)

-- The first of a script's own choices that can't be made: its line, the choice, and why.
pub record IsFirstSkip (p : Source) (inputs : List ℤ) (workers : ℕ) (tasks : List LineTask) (skip : Skip) : Type 0 where
  pub before : List LineTask
  pub behind : List LineTask
  pub stands : tasks ≡ before ++ (record { line = skip.line; task = Choose skip.choice }) ∷ behind
  pub made : AllCanBeMade p inputs workers before
  pub skipped : IsSkippedBehind p inputs workers before skip.choice
  pub why : IsWhy skipped.state skipped.worker_table skip.choice skip.reason

-- how many of the tasks are choices of the script's own that are skipped
pub data Skipping (p : Source) (inputs : List ℤ) (workers : ℕ) : List LineTask → ℕ → Type 0 where
  NoTask : Skipping p inputs workers [] 0
  Makes : (tasks : List LineTask) (next : LineTask) (n : ℕ) → Skipping p inputs workers tasks n → ((choice : Choice) → next.task ≡ Choose choice → ¬ (IsSkippedBehind p inputs workers tasks choice))
      → Skipping p inputs workers (tasks ++ next ∷ []) n
  Misses : (tasks : List LineTask) (line : ℕ) (choice : Choice) (n : ℕ) → Skipping p inputs workers tasks n → IsSkippedBehind p inputs workers tasks choice
      → Skipping p inputs workers (tasks ++ (record { line = line; task = Choose choice }) ∷ []) (n + 1)

-- the choices of the tasks that are skipped: their number, and the first of them
pub record AreSkips (p : Source) (inputs : List ℤ) (workers : ℕ) (tasks : List LineTask) (skips : Skips) : Type 0 where
  pub count : Skipping p inputs workers tasks skips.count
  pub first : MatchOption skips.first (AllCanBeMade p inputs workers tasks) (λ skip. IsFirstSkip p inputs workers tasks skip)

-- each of the script's own choices can be made
abbrev pub IsStrict : Source → List ℤ → ℕ → List Step → Type 0
IsStrict p inputs workers steps = AllCanBeMade p inputs workers (tasks_within MAX_CHOICES steps)

-- The error that strict playing reports: the first choice that can't be made; or, if there is none,
-- the script's end, where that is a stop or a line past the limit.
abbrev pub IsStrictFault : Source → List ℤ → ℕ → List Step → StrictFault → Type 0
IsStrictFault p inputs workers steps (faults.Skipped skip) = IsFirstSkip p inputs workers (tasks_within MAX_CHOICES steps) skip
IsStrictFault p inputs workers steps (faults.Play f) = IsFault (λ e. Ends p inputs workers steps e × IsStrict p inputs workers steps) f

-- If one serial run settles every parallel one, no strand stops by a fault.
abbrev pub FailsStrictlyAsSettled : Source → List ℤ → StrictFault → Type 0
FailsStrictlyAsSettled p inputs (faults.Skipped skip) = Unit {0}
FailsStrictlyAsSettled p inputs (faults.Play f) = FailsAsSettled p inputs f

-- A script has at most one first choice that can't be made, for one reason; and it has one, or each
-- can be made, but never both.
pub record SkipsAreOne (p : Source) (inputs : List ℤ) : Type 0 where
  pub one : (workers : ℕ) (tasks : List LineTask) (skip skip' : Skip) → IsFirstSkip p inputs workers tasks skip → IsFirstSkip p inputs workers tasks skip' → skip' ≡ skip
  pub apart : (workers : ℕ) (tasks : List LineTask) (skip : Skip) → IsFirstSkip p inputs workers tasks skip → AllCanBeMade p inputs workers tasks → ⊥

-- the first that was skipped
abbrev pub first_of : Option Skip → Skip → Option Skip
first_of None skip = Some skip
first_of (Some first) skip = Some first

-- ---- of a machine

-- it was new, and has made these tasks of a script, each choice of which can be made
pub record HasMade (workers : ℕ) (first : Machine) (done : List LineTask) (m : Machine) : Type 0 where
  pub led : Leads workers (map task_in done) first [] m
  pub all : (p : Source) → IsCodeOf p (let c = first.code in c.now) → HasOpened (let c = first.code in c.now) p (let i = first.input in i.now) first.scheduler (workers - 1) → AllCanBeMade p (let i = first.input in i.now) workers done

-- an error of tasks, from the opening state
abbrev pub IsTaskFault : Source → List ℤ → ℕ → List LineTask → StrictFault → Type 0
IsTaskFault p inputs workers tasks (faults.Skipped skip) = IsFirstSkip p inputs workers tasks skip
IsTaskFault p inputs workers tasks (faults.Play f) =
    IsFault (λ e. ((s : State FrameEnv View) × IsFirst p inputs s × Plays p inputs workers (map task_in tasks) s (first_worker_table (workers - 1)) e) × AllCanBeMade p inputs workers tasks) f

-- tasks that a new machine makes end with this error
abbrev pub FailsStrictly : ℕ → Machine → List LineTask → StrictFault → Type 0
FailsStrictly workers first tasks f =
    (p : Source) → IsCodeOf p (let c = first.code in c.now) → HasOpened (let c = first.code in c.now) p (let i = first.input in i.now) first.scheduler (workers - 1) → IsTaskFault p (let i = first.input in i.now) workers tasks f

-- the choice can be made in each reachable state that the machine shows
abbrev pub CanBeMade : Machine → Choice → Type 0
CanBeMade m choice = (p : Source) → IsCodeOf p (let c = m.code in c.now) → (h : IsAt m p) → ¬ (IsSkipped h.state h.worker_table choice)

-- it can't be made, for this reason
abbrev pub CanNotBeMade : Machine → Choice → Reason → Type 0
CanNotBeMade m choice why = (p : Source) → IsCodeOf p (let c = m.code in c.now) → (h : IsAt m p) → IsSkipped h.state h.worker_table choice × IsWhy h.state h.worker_table choice why

-- it has made these tasks too, behind any others
abbrev pub MakesMore : ℕ → List LineTask → Machine → Machine → Type 0
MakesMore workers tasks m m' = (first : Machine) (done : List LineTask) → HasMade workers first done m → HasMade workers first (done ++ tasks) m'

-- these tasks, behind any others and before any others, end with this error
abbrev pub FailsOn : ℕ → List LineTask → Machine → StrictFault → Type 0
FailsOn workers tasks m f = (first : Machine) (done behind : List LineTask) → HasMade workers first done m → FailsStrictly workers first (done ++ (tasks ++ behind)) f

-- it was new, and has made these tasks of a script, of which some were skipped
pub record HasPlayed (workers : ℕ) (first : Machine) (done : List LineTask) (m : Machine) (skips : Skips) : Type 0 where
  pub led : Leads workers (map task_in done) first [] m
  pub skipped : (p : Source) → IsCodeOf p (let c = first.code in c.now) → HasOpened (let c = first.code in c.now) p (let i = first.input in i.now) first.scheduler (workers - 1)
      → AreSkips p (let i = first.input in i.now) workers done skips

-- it has played these tasks too, behind any others
abbrev pub PlaysMore : ℕ → List LineTask → Machine → Skips → Machine → Skips → Type 0
PlaysMore workers tasks m skips m' skips' = (first : Machine) (done : List LineTask) → HasPlayed workers first done m skips → HasPlayed workers first (done ++ tasks) m' skips'

-- these tasks, behind any others and before any others, end with this error of a player
abbrev pub FailsBehind : ℕ → List LineTask → Machine → Skips → PlayFault → Type 0
FailsBehind workers tasks m skips f = (first : Machine) (done behind : List LineTask) → HasPlayed workers first done m skips → ComesToFault workers (map task_in (done ++ (tasks ++ behind))) first f

-- one more is skipped: at this line, for this reason
abbrev pub noted : Skips → Skip → Skips
noted skips skip = record { count = skips.count + 1; first = first_of skips.first skip }
