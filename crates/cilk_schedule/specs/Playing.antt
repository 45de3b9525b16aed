-- Playing a script: its tasks, its end, and the result that is reported.
use Rattle.std.specs.Prelude.{◌≡◌, ◌-◌, ◌<◌, ℕ, zero, suc, ℤ, Bool, false, if◌then◌else◌, List, [], ◌∷◌, ◌++◌, length, map, slice_get, None, Some, Option, IfSome}
use Rattle.std.specs.Option.{is_some}
use Rattle.cilk_types.specs.declared.fault.Fault.{Fault}
use Rattle.cilk_types.specs.declared.outcome.Outcome.{Outcome}
use Rattle.cilk_program.specs.SerialRun.{Transcript}
use Rattle.cilk_program.specs.Syntax.{Source}
use Rattle.cilk_lower.specs.Code.{CodeView}
use Rattle.cilk_determinacy.specs.Machine.{State, Stop}
use Rattle.cilk_determinacy.specs.Runs.{Name}
use Rattle.cilk_determinacy.specs.Reducers.{View}
use Rattle.cilk_determinacy.specs.Steps.{IsFirst}
use Rattle.cilk_determinacy.specs.FrameEnvs.{FrameEnv}
use Rattle.cilk_scheduler.specs.WorkerTables.{Chooses, Comes, WorkerTable, IsOver, StopsAt}
use Rattle.cilk_scheduler.specs.Openings.{first_worker_table}
use Rattle.cilk_scheduler.specs.declared.scheduler.Scheduler.{Scheduler}
use Rattle.cilk_scheduler.specs.declared.choice.Choice.{Choice}
use Rattle.cilk_scheduler.specs.declared.choice.Choice.TheVariants as choices
use Rattle.cilk_scheduler.specs.declared.choice.Stop as stopping
use Rattle.cilk_scheduler.specs.declared.choice.Stop.TheVariants as stops
use Rattle.cilk_scheduler.specs.declared.choice.Strand.{Strand}
use Rattle.cilk_schedule.specs.Deciding.{Agree}
use Rattle.cilk_scheduler.specs.Numbered.{AreNamed}
use Rattle.cilk_schedule.specs.Played.{IsAt, Leaves}
use Rattle.cilk_schedule.specs.Reached.{HasOpened, HasReached}
use Rattle.cilk_lower.specs.Behaves.{IsCodeOf}
use Rattle.cilk_schedule.specs.declared.machine.Machine.{Machine}
use Rattle.cilk_determinacy.specs.Settled.{AlwaysAsSerial, IsSettled}
use Rattle.cilk_determinacy.specs.Theorem.{IsAsSerial}
use Rattle.cilk_parser.specs.ScriptChoices.{choices_within}
use Rattle.cilk_parser.specs.declared.script_choices.Next.{Next}
use Rattle.cilk_parser.specs.declared.script_choices.Next.TheVariants as nexts
use Rattle.cilk_parser.specs.declared.script_choices.TheConstants.{MAX_CHOICES}
use Rattle.cilk_parser.specs.declared.script.Step.{Step}
use Rattle.cilk_schedule.specs.declared.fault.PlayFault.{PlayFault}
use Rattle.cilk_schedule.specs.declared.fault.PlayFault.TheVariants as faults
use Rattle.cilk_schedule.specs.declared.player.TheConstants.{MAX_ROUNDS}

-- a task of a script
pub data Task : Type 0 where
  -- one choice
  Choose : Choice → Task
  -- a worker continues its frame, or steals the first continuation that is offered
  Turn : (worker : ℕ) → Task
  -- rounds until the run has ended, at most `count`
  Rounds : (count : ℕ) → Task
  -- the choices of this line would exceed the limit
  Pass : (line : ℕ) → Task

abbrev pub task_of : Next → Task
task_of (nexts.Run worker) = Choose (choices.Run worker)
task_of (nexts.Steal worker place) = Choose (choices.Steal worker place)
task_of nexts.Rounds = Rounds MAX_ROUNDS
task_of (nexts.Past line) = Pass line

-- the tasks of a script's steps
abbrev pub tasks_of : List Step → List Task
tasks_of steps = map task_of (choices_within MAX_CHOICES steps)

-- there is such a worker, and it holds a frame
abbrev pub has_frame : Option (Option Name) → Bool
has_frame None = false
has_frame (Some hand) = is_some hand

abbrev pub is_busy : WorkerTable → ℕ → Bool
is_busy d zero = false
is_busy d (suc w) = has_frame (slice_get d.hands w)

-- a worker's choice in its turn
abbrev pub turn_of : WorkerTable → ℕ → Choice
turn_of d worker = if is_busy d worker then choices.Run worker else choices.Steal worker 0

-- the turns of a number of workers, from worker `first` on; a round is the turns of all
abbrev pub turns : ℕ → ℕ → List Task
turns first zero = []
turns first (suc more) = Turn first ∷ turns (suc first) more

-- The end of a script: all of it is done, with the run in this state; a choice has stopped the run;
-- or the choices of a line would exceed the limit.
pub data End : Type 0 where
  Done : (state : State FrameEnv View) (worker_table : WorkerTable) → End
  Stopped : (stop : Stop) → End
  Passed : (line : ℕ) → End

module _ (p : Source) (inputs : List ℤ) where
  -- the tasks, one after another, lead from a state and a worker table of the free machine to this
  -- end
  pub data Plays (workers : ℕ) : List Task → State FrameEnv View → WorkerTable → End → Type 0 where
    Finished : (s : State FrameEnv View) (d : WorkerTable) → Plays workers [] s d (Done s d)
    Chosen : (choice : Choice) (told : Comes) (rest : List Task) (s s' : State FrameEnv View) (d d' : WorkerTable) (e : End) → Chooses p inputs s d choice told s' d' → Plays workers rest s' d' e → Plays workers (Choose choice ∷ rest) s d e
    Stops : (choice : Choice) (stop : Stop) (rest : List Task) (s s' : State FrameEnv View) (d : WorkerTable) → StopsAt p inputs s d choice s' → s'.stopped ≡ Some stop → Plays workers (Choose choice ∷ rest) s d (Stopped stop)
    Turns : (worker : ℕ) (rest : List Task) (s : State FrameEnv View) (d : WorkerTable) (e : End) → Plays workers (Choose (turn_of d worker) ∷ rest) s d e → Plays workers (Turn worker ∷ rest) s d e
    Ended : (count : ℕ) (rest : List Task) (s : State FrameEnv View) (d : WorkerTable) (e : End) → IsOver s → Plays workers rest s d e → Plays workers (Rounds count ∷ rest) s d e
    Enough : (rest : List Task) (s : State FrameEnv View) (d : WorkerTable) (e : End) → Plays workers rest s d e → Plays workers (Rounds zero ∷ rest) s d e
    Round : (count : ℕ) (rest : List Task) (s : State FrameEnv View) (d : WorkerTable) (e : End) → ¬ (IsOver s) → Plays workers (turns 1 workers ++ (Rounds count ∷ rest)) s d e → Plays workers (Rounds (suc count) ∷ rest) s d e
    Passes : (line : ℕ) (rest : List Task) (s : State FrameEnv View) (d : WorkerTable) → Plays workers (Pass line ∷ rest) s d (Passed line)

  -- The steps of a script lead to this end from the opening state, in which the first of the
  -- workers holds the first frame.
  abbrev pub Ends : ℕ → List Step → End → Type 0
  Ends workers steps e = (s : State FrameEnv View) × IsFirst p inputs s × Plays workers (tasks_of steps) s (first_worker_table (workers - 1)) e

  -- two ends are the same, up to the views of frames that haven't begun
  abbrev pub SameEnd : End → End → Type 0
  SameEnd (Done s d) (Done t d') = (d' ≡ d) × Agree s t
  SameEnd (Stopped stop) (Stopped stop') = stop' ≡ stop
  SameEnd (Passed line) (Passed line') = line' ≡ line
  SameEnd _ _ = ⊥

  -- A script has at most one end, of a program on an input, with a number of workers.
  abbrev pub ScriptsHaveOneEnd : Type 0
  ScriptsHaveOneEnd = (workers : ℕ) (steps : List Step) (e e' : End) → Ends workers steps e → Ends workers steps e' → SameEnd e e'

-- the outcome after all steps of a script are done, if the run has ended
abbrev pub IsLeft : Source → List ℤ → ℕ → List Step → Option Outcome → Type 0
IsLeft p inputs workers steps left = (s : State FrameEnv View) × (d : WorkerTable) × Ends p inputs workers steps (Done s d) × Leaves p s left

-- the run stops by this fault, in the strand with this name
abbrev pub StopsBy : (End → Type 0) → Fault → List ℕ → Type 0
StopsBy IsEnd fault name = (stop : Stop) × IsEnd (Stopped stop) × (fault ≡ stop.fault) × (name ≡ stop.frame ++ stop.strand ∷ [])

-- The error that reports an end. For a stop it has the fault and the strand's name.
abbrev pub IsFault : (End → Type 0) → PlayFault → Type 0
IsFault IsEnd (faults.Line line) = IsEnd (Passed line)
IsFault IsEnd (faults.Stop fault name) = StopsBy IsEnd fault (let n = name in n.items)
IsFault IsEnd faults.Memory = Unit {0}

-- A strand's name by the names of a scheduler's frames: its frame's name, then the strand's number.
abbrev pub IsNameIn : Scheduler → Strand → List ℕ → Type 0
IsNameIn b strand name =
    (names : ℕ → Name) (place : ℕ) → strand.frame ≡ suc place → AreNamed (let f = b.frames in f.items) names → place < length (let f = b.frames in f.items)
    → name ≡ names place ++ strand.number ∷ []

-- the error reports this stop of a scheduler
abbrev pub IsFaultOf : Scheduler → stopping.Stop → PlayFault → Type 0
IsFaultOf b stop (faults.Line line) = ⊥
IsFaultOf b stop (faults.Stop fault name) = (strand : Strand) × (stop ≡ stops.At fault strand) × IsNameIn b strand (let n = name in n.items)
IsFaultOf b stop faults.Memory = Unit {0}

-- to do these tasks is to do those that are left, from another state and worker table on
abbrev pub Follows : Source → List ℤ → ℕ → List Task → State FrameEnv View → WorkerTable → List Task → State FrameEnv View → WorkerTable → Type 0
Follows p inputs workers tasks s d left s' d' = (rest : List Task) (e : End) → Plays p inputs workers (left ++ rest) s' d' e → Plays p inputs workers (tasks ++ rest) s d e

-- The machine keeps its code and its input. From each state shown before, to do these tasks is to
-- do those that are left, from a state shown after.
pub record Leads (workers : ℕ) (tasks : List Task) (m : Machine) (left : List Task) (m' : Machine) : Type 0 where
  pub code : m'.code ≡ m.code
  pub input : m'.input ≡ m.input
  pub reached : (p : Source) → IsCodeOf p (let c = m.code in c.now) → (h : IsAt m p) → (h' : IsAt m' p) × Follows p (let i = m.input in i.now) workers tasks h.state h.worker_table left h'.state h'.worker_table

-- one of the tasks ends with this error
abbrev pub ComesToFault : ℕ → List Task → Machine → PlayFault → Type 0
ComesToFault workers tasks m f = (p : Source) → IsCodeOf p (let c = m.code in c.now) → (h : IsAt m p) → (rest : List Task) → IsFault (λ e. Plays p (let i = m.input in i.now) workers (tasks ++ rest) h.state h.worker_table e) f

-- If one serial run settles every parallel one, an outcome is that run's.
abbrev pub LeavesAsSettled : Source → List ℤ → Option Outcome → Type 0
LeavesAsSettled p inputs left = (outcome : Outcome) → IsSettled p inputs outcome → IfSome left (λ o. o ≡ outcome)

-- an error that isn't a stop of a strand
abbrev pub IsNoStop : PlayFault → Type 0
IsNoStop (faults.Line line) = Unit {0}
IsNoStop (faults.Stop fault name) = ⊥
IsNoStop faults.Memory = Unit {0}

-- If one serial run settles every parallel one, no strand stops by a fault.
abbrev pub FailsAsSettled : Source → List ℤ → PlayFault → Type 0
FailsAsSettled p inputs f = (outcome : Outcome) → IsSettled p inputs outcome → IsNoStop f

-- If every sequence of steps agrees with one serial run, so does each reachable state that a
-- scheduler shows.
abbrev pub SettlesEachState : Type 0
SettlesEachState =
    (code : CodeView) (p : Source) (inputs : List ℤ) (b : Scheduler) (run : Transcript) (outcome : Outcome) (h : HasReached code p inputs b) → AlwaysAsSerial p inputs run outcome → IsAsSerial p inputs run outcome h.state

-- a scheduler that shows the opening state shows a reachable state
abbrev pub OpeningsAreReached : Type 0
OpeningsAreReached = (code : CodeView) (p : Source) (inputs : List ℤ) (b : Scheduler) (idle : ℕ) → HasOpened code p inputs b idle → HasReached code p inputs b
