-- The runs of a program on several inputs, by names and as the language defines them.
use Rattle.std.specs.Prelude.{◌≡◌, ◌≤◌, ◌<◌, ℕ, ℤ, pos, IsTrue, List, length, slice_index_or}
use Rattle.cilk_types.specs.declared.event.Event.{Event}
use Rattle.cilk_types.specs.declared.limits.TheConstants.{MAX_TICKS}
use Rattle.cilk_types.specs.declared.outcome.Outcome.{Outcome}
use Rattle.cilk_program.specs.Outcomes.{Leaves}
use Rattle.cilk_program.specs.SerialRun.{Transcript, IsSerialRun}
use Rattle.cilk_program.specs.Syntax.{Source}
use Rattle.cilk_program.specs.WellNamed.{is_well_named}
use Rattle.cilk_tree.specs.Along.{DepartsNowhere}
use Rattle.cilk_tree.specs.Planned.{planned}
use Rattle.cilk_tree.specs.declared.event_order.EventOrder.{EventOrder}
use Rattle.cilk_tree.specs.Orders.{IsOrderly}
use Rattle.cilk_tree.specs.Values.{HasValue}
use Rattle.cilk_determinacy.specs.Costs.{Total, TickTotal, whole}
use Rattle.cilk_determinacy.specs.Runs.{Run}
use Rattle.cilk_determinacy.specs.FrameEnvMachine.{limit, costs}
use Rattle.cilk_determinacy.specs.FrameEnvs.{FrameEnv, first_env}
use Rattle.cilk_determinacy.specs.Nested.{named}
use Rattle.cilk_determinacy.specs.Words.{HasWords, InputsAreWords}
use Rattle.cilk_replay.specs.InputCourses.{run_of}
use Rattle.cilk_replay.specs.Frames.{course_on, IsSerialRunOn}
use Rattle.cilk_replay.specs.Left.{KeepsCounts}
use Rattle.cilk_replay.specs.EventOrders.{event_order_on, IsPlannedRun}

-- The serial run of a program of words, by names, is its serial run in the sense of courses.
abbrev pub NamedRunsAreSerial : Type 0
NamedRunsAreSerial =
    (p : Source) (inputs : List ℤ) (r : Transcript) (es : List Event) (outcome : Outcome) → IsTrue (is_well_named p) → HasWords p → InputsAreWords inputs
    → IsSerialRun p inputs r es (Leaves outcome) → IsSerialRunOn p inputs (named p r)

-- the run uses no more ticks, events, frames and cells than a run may
abbrev pub KeepsLimits : Source → List ℤ → Run FrameEnv → Type 0
KeepsLimits p inputs u = (total : Total) → whole (costs p inputs) (first_env p) u total ≤ limit p inputs total

-- the run by names is the program's serial run on the inputs, which ends without a fault
pub record IsWholeRun (p : Source) (inputs : List ℤ) (u : Run FrameEnv) : Type 0 where
  pub transcript : Transcript
  pub events : List Event
  pub outcome : Outcome
  pub serial : IsSerialRun p inputs transcript events (Leaves outcome)
  pub names : named p transcript ≡ u

-- A serial run in the sense of courses, which gives each frame all the ticks of a run, is the
-- program's serial run if it keeps the limits of a run.
abbrev pub RunsWithinLimitsAreWhole : Type 0
RunsWithinLimitsAreWhole =
    (p : Source) (inputs : List ℤ) (u : Run FrameEnv) → IsTrue (is_well_named p) → HasWords p → InputsAreWords inputs
    → IsSerialRunOn p inputs u → KeepsLimits p inputs u → IsWholeRun p inputs u

-- The course on these inputs is a serial run and keeps the limits of events, frames and cells. It
-- is the program's serial run and ends without a fault, if all its frames together use no more
-- ticks than a run may. Each serial run of the program on these inputs that ends without a fault is
-- the course, with the events of the event order.
pub record RunsAsCourse (p : Source) (others : List ℤ) (u : Run FrameEnv) (event_order : EventOrder) : Type 0 where
  pub course : IsSerialRunOn p others u
  pub counts : KeepsCounts p others u
  pub ends : whole (costs p others) (first_env p) u TickTotal ≤ MAX_TICKS → IsWholeRun p others u
  pub only : (r : Transcript) (es : List Event) (outcome : Outcome) → IsSerialRun p others r es (Leaves outcome) → (named p r ≡ u) × (es ≡ event_order.events)
  -- its globals have the values of the last writes in the event order
  pub globals : (r : Transcript) (es : List Event) (outcome : Outcome) → IsSerialRun p others r es (Leaves outcome)
      → (c : ℕ) → c < length p.openings → HasValue event_order c (length event_order.events) (slice_index_or outcome.globals c (pos 0))

-- So it is along an orderly plan, on inputs on which the event order departs nowhere.
abbrev pub InputsRunAlong : Type 0
InputsRunAlong =
    (p : Source) (inputs others : List ℤ) (r : Transcript) (es : List Event) (opening : List ℤ)
    → IsPlannedRun p inputs r es opening → InputsAreWords others → IsOrderly (planned es opening) → DepartsNowhere (event_order_on p others r es opening)
    → RunsAsCourse p others (run_of (course_on p others (named p r))) (event_order_on p others r es opening)
