-- Properties of serial runs.
use Rattle.std.specs.Prelude.{◌≡◌, ◌≤◌, ℕ, ℤ, List, [], length, false}
use Rattle.cilk_types.specs.declared.event.Event.{Event}
use Rattle.cilk_types.specs.declared.outcome.Outcome.{Outcome}
use Rattle.cilk_types.specs.declared.limits.TheConstants.{MAX_EVENTS}
use Rattle.cilk_program.specs.declared.ask.Callee.{Callee}
use Rattle.cilk_program.specs.declared.ask.Callee.TheVariants as callees
use Rattle.cilk_program.specs.Syntax.{Source}
use Rattle.cilk_program.specs.Behaviour.{frame_asks}
use Rattle.cilk_program.specs.Inside.{CalleeIsFit, AskIsThere}
use Rattle.cilk_program.specs.Outcomes.{Conclusion, Leaves}
use Rattle.cilk_program.specs.SerialRun.{Transcript, IsSerialRun, IsSerialRunWithin}
use Rattle.cilk_program.specs.Order.{opening_asks, Fresh, IsOrderly}
use Rattle.cilk_program.specs.Closed.{BeginsOnce, IsResumed, EndsSo}
use Rattle.cilk_program.specs.Behaved.{Behaves}
use Rattle.cilk_program.specs.Numbering.{unbegun, entered, counts_after, events_of_root}
use Rattle.cilk_program.specs.Answered.{AreRight, opening_cells, IsLeft, IsSmall}
use Rattle.cilk_program.specs.Created.{AreCreated, CellsAreBelow}

-- For any input, answers and ticks, a frame with a valid callee requests only things that exist.
abbrev pub AsksAreThere : Source → Type 0
AsksAreThere p = (callee : Callee) → CalleeIsFit p callee → (inputs answers : List ℤ) (left : ℕ) → AskIsThere p callee (frame_asks p inputs callee answers left).ask

-- each frame's events are in order
abbrev pub IsInOrder : Source → List ℤ → Type 0
IsInOrder p inputs = (r : Transcript) (es : List Event) (c : Conclusion) → IsSerialRun p inputs r es c → IsOrderly p (Fresh (opening_asks p callees.Root)) r

-- each frame begins once, resumes after each child, and ends as the run does
pub record IsFramed (p : Source) (inputs : List ℤ) : Type 0 where
  pub begins : (r : Transcript) (es : List Event) (c : Conclusion) → IsSerialRun p inputs r es c → BeginsOnce false r
  pub resumes : (r : Transcript) (es : List Event) (c : Conclusion) → IsSerialRun p inputs r es c → IsResumed false r
  pub ends : (r : Transcript) (es : List Event) (c : Conclusion) → IsSerialRun p inputs r es c → EndsSo r c

-- each frame's events are the requests of its behaviour
abbrev pub FramesBehave : Source → List ℤ → Type 0
FramesBehave p inputs = (r : Transcript) (es : List Event) (c : Conclusion) → IsSerialRun p inputs r es c → Behaves p inputs callees.Root [] r

-- the events are those of the run, numbered
abbrev pub EventsAreNumbered : Source → List ℤ → Type 0
EventsAreNumbered p inputs = (r : Transcript) (es : List Event) (c : Conclusion) → IsSerialRun p inputs r es c → es ≡ events_of_root p r

-- the cells and reducers that events name exist, and each read gives the last value written
pub record IsSound (p : Source) (inputs : List ℤ) : Type 0 where
  pub small : (r : Transcript) (es : List Event) (c : Conclusion) → IsSerialRun p inputs r es c → IsSmall p r
  pub cells : (r : Transcript) (es : List Event) (c : Conclusion) → IsSerialRun p inputs r es c → CellsAreBelow (counts_after p r (entered p callees.Root (unbegun p))).cells es
  pub reducers : (r : Transcript) (es : List Event) (c : Conclusion) → IsSerialRun p inputs r es c → AreCreated [] es
  pub reads : (r : Transcript) (es : List Event) (c : Conclusion) → IsSerialRun p inputs r es c → AreRight (opening_cells p inputs) es
  pub leaves : (r : Transcript) (es : List Event) (outcome : Outcome) → IsSerialRun p inputs r es (Leaves outcome) → IsLeft p inputs es outcome

-- there is a serial run within each limit of ticks and events
abbrev pub HasSerialRun : Source → List ℤ → Type 0
HasSerialRun p inputs = (ticks room : ℕ) → (r : Transcript) × (es : List Event) × (c : Conclusion) × IsSerialRunWithin p inputs ticks room r es c

-- there is at most one serial run within each limit
abbrev pub HasOneSerialRun : Source → List ℤ → Type 0
HasOneSerialRun p inputs =
    (ticks room : ℕ) (r r' : Transcript) (es es' : List Event) (c c' : Conclusion) → IsSerialRunWithin p inputs ticks room r es c → IsSerialRunWithin p inputs ticks room r' es' c' → (r ≡ r') × (es ≡ es') × (c ≡ c')

-- a serial run has at most `MAX_EVENTS` events
abbrev pub IsShort : Source → List ℤ → Type 0
IsShort p inputs = (r : Transcript) (es : List Event) (c : Conclusion) → IsSerialRun p inputs r es c → length es ≤ MAX_EVENTS
