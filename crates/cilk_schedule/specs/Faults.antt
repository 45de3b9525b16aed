-- A choice that stops by a fault is a stop of the free machine.
use Rattle.std.specs.Prelude.{◌≡◌, ◌<◌, ℕ, suc, ℤ, List, [], ◌∷◌, ◌++◌, length, Some, MatchOption}
use Rattle.cilk_program.specs.Syntax.{Source}
use Rattle.cilk_lower.specs.Code.{CodeView}
use Rattle.cilk_determinacy.specs.Machine.{State}
use Rattle.cilk_determinacy.specs.Runs.{Name}
use Rattle.cilk_determinacy.specs.Reducers.{View}
use Rattle.cilk_determinacy.specs.Steps.{Reaches}
use Rattle.cilk_determinacy.specs.FrameEnvs.{FrameEnv}
use Rattle.cilk_types.specs.declared.fault.Fault.{Fault}
use Rattle.cilk_scheduler.specs.Acting.{IsShown}
use Rattle.cilk_scheduler.specs.Schedulers.{Tells}
use Rattle.cilk_scheduler.specs.WorkerTables.{WorkerTable, StopsAt}
use Rattle.cilk_scheduler.specs.GoneOn.{HaveGoneOn}
use Rattle.cilk_scheduler.specs.Stopping.{StandAsBefore}
use Rattle.cilk_scheduler.specs.declared.scheduler.Scheduler.{Scheduler}
use Rattle.cilk_scheduler.specs.declared.choice.Choice.{Choice}
use Rattle.cilk_scheduler.specs.declared.choice.Stop.{Stop}
use Rattle.cilk_scheduler.specs.declared.choice.Stop.TheVariants as stops
use Rattle.cilk_scheduler.specs.declared.choice.Strand.{Strand}
use Rattle.cilk_schedule.specs.Reached.{HasReached}

-- The state was stopped by this fault in this strand, by the scheduler's number and name of its
-- frame. The scheduler still records the state.
pub record IsStoppedBy (code : CodeView) (p : Source) (inputs : List ℤ) (name : ℕ → Name) (b : Scheduler) (fault : Fault) (strand : Strand) (s : State FrameEnv View) : Type 0 where
  pub place : ℕ
  pub frame : strand.frame ≡ suc place
  pub here : let f = b.frames in place < length f.items
  pub stopped : s.stopped ≡ Some (record { frame = name place; strand = strand.number; fault = fault })
  pub tells : Tells code p inputs name b s

-- The choice stops the free machine by the same fault, in each reachable state that the scheduler
-- shows.
abbrev pub FaultsAreStops : CodeView → List ℤ → Scheduler → Scheduler → Choice → Stop → Type 0
FaultsAreStops code inputs b b' c (stops.At fault strand) =
    (p : Source) (name : ℕ → Name) (d : WorkerTable) (s : State FrameEnv View) → IsShown code p inputs name b d s → HaveGoneOn s
    → (s' : State FrameEnv View) × StopsAt p inputs s d c s' × IsStoppedBy code p inputs name b' fault strand s'
FaultsAreStops code inputs b b' c stops.Memory = Unit {0}

-- Steps of the free machine lead to a state, of the program on the inputs, that was stopped by this
-- fault. The scheduler records that state.
pub record HasFault (code : CodeView) (p : Source) (inputs : List ℤ) (b : Scheduler) (fault : Fault) (strand : Strand) : Type 0 where
  pub steps : List Name
  pub state : State FrameEnv View
  pub reaches : Reaches p inputs steps state
  pub name : ℕ → Name
  pub is_stopped : IsStoppedBy code p inputs name b fault strand state

-- the same of a stop, if a fault is its cause
abbrev pub HasStopped : CodeView → Source → List ℤ → Scheduler → Stop → Type 0
HasStopped code p inputs b (stops.At fault strand) = HasFault code p inputs b fault strand
HasStopped code p inputs b stops.Memory = Unit {0}

-- Nothing that a scheduler records has changed: each frame has its place and its parent, and the
-- events and the outcome are the same.
pub record KeepsTold (b b' : Scheduler) : Type 0 where
  pub frames : let f = b.frames in let g = b'.frames in StandAsBefore f.items g.items
  pub journal : let e = b.journal in let l = b'.journal in l.items ≡ e.items
  pub outcome : b'.outcome ≡ b.outcome

-- The choice stops the run. A fault stops the free machine too, from the state that the scheduler
-- showed. Out of memory, the scheduler still records that state.
abbrev pub StopsFrom : (code : CodeView) (p : Source) (inputs : List ℤ) (b : Scheduler) → HasReached code p inputs b → Scheduler → Choice → Stop → Type 0
StopsFrom code p inputs b h b' c (stops.At fault strand) = (f : HasFault code p inputs b' fault strand) × StopsAt p inputs h.state h.worker_table c f.state
StopsFrom code p inputs b h b' c stops.Memory = Tells code p inputs h.name b' h.state

-- the name of the strand that stopped: its frame's name, then its number in the frame
abbrev pub NamesStop : State FrameEnv View → List ℕ → Type 0
NamesStop s list = MatchOption s.stopped (list ≡ []) (λ stop. list ≡ stop.frame ++ stop.strand ∷ [])
