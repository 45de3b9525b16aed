-- The answer of a run of an accepted program by workers, on an input, its own or another.
use Rattle.std.specs.Prelude.{◌≡◌, ◌≤◌, ◌+◌, ℕ, ℤ, List, length, reverse}
use Rattle.cilk_types.specs.declared.event.Event.{Event}
use Rattle.cilk_types.specs.declared.limits.TheConstants.{MAX_TICKS}
use Rattle.cilk_types.specs.declared.outcome.Outcome.{Outcome}
use Rattle.cilk_program.specs.Elision.{IsElision}
use Rattle.cilk_program.specs.Outcomes.{Leaves}
use Rattle.cilk_program.specs.SerialRun.{Transcript, IsSerialRun}
use Rattle.cilk_program.specs.Syntax.{Source}
use Rattle.cilk_tree.specs.declared.event_order.EventOrder.{EventOrder}
use Rattle.cilk_tree.specs.Along.{DepartsNowhere}
use Rattle.cilk_tree.specs.Runs.{Departs, IsFollowed}
use Rattle.cilk_shared.specs.Values.{YardValue}
use Rattle.cilk_shared.specs.Pieces.{PieceValue}
use Rattle.cilk_shared.specs.declared.reducers.Reducers.{Reducers}
use Rattle.cilk_workers.specs.Rows.{IsGood, run_of}
use Rattle.cilk_determinacy.specs.Costs.{TickTotal, whole}
use Rattle.cilk_determinacy.specs.Runs.{Run}
use Rattle.cilk_determinacy.specs.Traces.{trace}
use Rattle.cilk_determinacy.specs.FrameEnvMachine.{costs}
use Rattle.cilk_determinacy.specs.Steps.{result_in}
use Rattle.cilk_determinacy.specs.FrameEnvs.{FrameEnv, first_env}
use Rattle.cilk_determinacy.specs.Nested.{named}
use Rattle.cilk_replay.specs.InputCourses as courses
use Rattle.cilk_replay.specs.Frames.{course_on, IsSerialRunOn}
use Rattle.cilk_replay.specs.Left.{left_by}
use Rattle.cilk_replay.specs.EventOrders.{IsPlannedRun}
use Rattle.cilk_checker.specs.Determinate.{AcceptedRun}
use Rattle.cilk_plan.specs.Plans.{WholePlan, IsEventOrderOn}
use Rattle.cilk_threads.specs.declared.run.ThreadFault.{ThreadFault}
use Rattle.cilk_threads.specs.declared.run.ThreadFault.TheVariants as faults
use Rattle.cilk_threads.specs.Faults.{IsPool}

-- a serial run of the program on these inputs has this outcome
abbrev pub LeavesOn : Source → List ℤ → Outcome → Type 0
LeavesOn p inputs o = (run : Transcript) × (es : List Event) × IsSerialRun p inputs run es (Leaves o)

-- It is the outcome of the program's serial elision on these inputs, whatever number of ticks that
-- costs. The program's frames make a run there, one after the other, each as if it had all ticks of
-- a run for itself, and it has this outcome. If together they cost no more ticks than a run may, it
-- is the program's serial run. No serial run has another outcome.
pub record IsOutcomeOn (p : Source) (inputs : List ℤ) (o : Outcome) : Type 0 where
  pub elided : IsElision p inputs (Leaves o)
  pub run : Run FrameEnv
  pub serial : IsSerialRunOn p inputs run
  pub left : o ≡ left_by p inputs run
  pub leaves : whole (costs p inputs) (first_env p) run TickTotal ≤ MAX_TICKS → LeavesOn p inputs o
  pub only : (o' : Outcome) → LeavesOn p inputs o' → o ≡ o'

-- The piece has all of the yard's events, and the program's frames requested each of them. The
-- course that the plan's run has on these inputs ends with this result; `own` is the input of the
-- plan's run.
pub record IsWholeOf (p : Source) (own inputs : List ℤ) (y : YardValue) (r : Reducers) (x : PieceValue) (value : ℤ) : Type 0 where
  pub good : IsGood (run_of y r) x
  pub begins : x.from ≡ 1
  pub last : let s = y.event_order in x.upto ≡ length s.events + 1
  pub followed : let s = y.event_order in IsFollowed s (length s.events)
  pub result : (run : Transcript) (es : List Event) (opening : List ℤ) → IsPlannedRun p own run es opening
      → result_in (reverse (trace (courses.run_of (course_on p inputs (named p run))))) ≡ value

-- the event order that the program makes of the plan on these inputs departs at the position
abbrev pub DepartsOn : WholePlan → List ℤ → ℕ → Type 0
DepartsOn w inputs p = (s : EventOrder) × (let t = w.event_order in IsEventOrderOn w.run t.opening inputs s) × Departs s p

-- the event order that the program makes of its accepted run's plan on these inputs departs nowhere
abbrev pub DepartsNowhereOn : AcceptedRun → List ℤ → Type 0
DepartsNowhereOn a inputs = (opening : List ℤ) (s : EventOrder) → IsEventOrderOn a opening inputs s → DepartsNowhere s

-- The number of workers is a fault exactly if it isn't allowed; and the input departs from the plan
-- where the fault says so.
abbrev pub IsFaultOn : WholePlan → List ℤ → ℕ → ThreadFault → Type 0
IsFaultOn w inputs n faults.Memory = IsPool n
IsFaultOn w inputs n faults.Workers = IsPool n → ⊥
IsFaultOn w inputs n (faults.Departs p) = IsPool n × DepartsOn w inputs p

-- the fault names no position
abbrev pub NamesNoPosition : ThreadFault → Type 0
NamesNoPosition faults.Memory = Unit {0}
NamesNoPosition faults.Workers = Unit {0}
NamesNoPosition (faults.Departs p) = ⊥
