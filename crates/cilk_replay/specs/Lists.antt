-- The events of a course by numbers, its event order, and what that order says about the course.
use Rattle.std.specs.Prelude.{ℕ, ℤ, Bool, List, [], ◌∷◌, Option}
use Rattle.cilk_types.specs.declared.event.Event as numbers
use Rattle.cilk_types.specs.declared.event.Event.TheVariants as events
use Rattle.cilk_types.specs.declared.event.Instance as numbered
use Rattle.cilk_monoid.specs.Laws.{MonoidStructure}
use Rattle.cilk_determinacy.specs.Runs.{Cell, Instance, Ask, Updates, Sets, Values, Prints, Reads, Writes, Passes, Deed, Does, Run}
use Rattle.cilk_program.specs.Syntax.{Source}
use Rattle.cilk_determinacy.specs.Traces.{trace, AreWritten}
use Rattle.cilk_tree.specs.Before.{IsPosition}
use Rattle.cilk_tree.specs.declared.event_order.EventOrder.{EventOrder}
use Rattle.cilk_tree.specs.Orders.{IsOrderly}
use Rattle.cilk_tree.specs.Runs.{IsAsked}
use Rattle.cilk_tree.specs.Along.{IsAlong, DepartsNowhere}
use Rattle.cilk_tree.specs.Passes.{predecessors_in}
use Rattle.cilk_tree.specs.Planned.{planned}
use Rattle.cilk_determinacy.specs.FrameEnvs.{FrameEnv}
use Rattle.cilk_replay.specs.InputCourses.{Course, run_of, asked_in, IsAskedThroughout, IsCourse}
use Rattle.cilk_replay.specs.Frames.{IsSerialRunOn, IsCourseOn}

-- the event order of a course with events es' by numbers, along the plan of events es
abbrev pub event_order_of : {W : Type 0} → List numbers.Event → List ℤ → List numbers.Event → Course W → EventOrder
event_order_of es opening es' c = record { events = es'; preceding = predecessors_in es; opening = opening; asked = asked_in c }

-- an event by numbers, with the value of a deed
abbrev pub with_value : {W : Type 0} → numbers.Event → Deed W → numbers.Event
with_value (events.Read c v) (Does (Reads d x)) = events.Read c x
with_value (events.Write c v) (Does (Writes d x)) = events.Write c x
with_value (events.Update i v) (Does (Passes (Updates j x))) = events.Update i x
with_value (events.Set i v) (Does (Passes (Sets j x))) = events.Set i x
with_value (events.Value i v) (Does (Passes (Values j x))) = events.Value i x
with_value (events.Print v) (Does (Passes (Prints x))) = events.Print x
with_value e d = e

-- a list of events by numbers, with the values of these deeds
abbrev pub with_values : {W : Type 0} → List numbers.Event → List (Deed W) → List numbers.Event
with_values (e ∷ es) (d ∷ ds) = with_value e d ∷ with_values es ds
with_values es ds = es

-- the event order of a course along the plan of these events: their kinds, with the values of the
-- course
abbrev pub event_order_along : {W : Type 0} → List numbers.Event → List ℤ → Course W → EventOrder
event_order_along es opening c = event_order_of es opening (with_values es (trace (run_of c))) c

-- The events of a course, by the numbers of the run's cells and reducers, are the run's events with
-- the values of the course. The event order of the course is along the run's plan.
abbrev pub CoursesAreAlongPlans : (W V : Type 0) → (Instance → MonoidStructure V) → (W → List (Deed W) → Option (Ask W)) → (W → W → Bool) → Type 0
CoursesAreAlongPlans W V M next same =
    (cell : Cell → ℕ) (instance : Instance → numbered.Instance) (w : W) (memory : Cell → ℤ) (views : Instance → V) (t : Run W) (c : Course W)
    (es : List numbers.Event) (opening : List ℤ)
    → IsCourse W V M next same w [] memory views t c → AreWritten cell instance (trace t) es
    → AreWritten cell instance (trace (run_of c)) (with_values es (trace (run_of c))) × IsAlong (planned es opening) (event_order_along es opening c)

-- If the event order of a course has a requested event at each position, each event of the course
-- is requested.
abbrev pub AskedEventOrdersAreOfAskedCourses : Type 0 → Type 0
AskedEventOrdersAreOfAskedCourses W =
    (cell : Cell → ℕ) (instance : Instance → numbered.Instance) (c : Course W) (es es' : List numbers.Event) (opening : List ℤ)
    → AreWritten cell instance (trace (run_of c)) es'
    → ((p : ℕ) → IsPosition es' p → IsAsked (event_order_of es opening es' c) p) → IsAskedThroughout c

-- Along an orderly plan of a program's serial run: if the event order of a course on other inputs
-- departs nowhere, the course is a serial run of the program on those.
abbrev pub InputsThatDepartNowhere : Type 0
InputsThatDepartNowhere =
    (p : Source) (inputs others : List ℤ) (t : Run FrameEnv) (c : Course FrameEnv) (cell : Cell → ℕ) (instance : Instance → numbered.Instance)
    (es es' : List numbers.Event) (opening : List ℤ) → IsSerialRunOn p inputs t → IsCourseOn p others t c
    → AreWritten cell instance (trace (run_of c)) es' → IsOrderly (planned es opening)
    → IsAlong (planned es opening) (event_order_of es opening es' c) → IsAsked (event_order_of es opening es' c) 1
    → DepartsNowhere (event_order_of es opening es' c) → IsSerialRunOn p others (run_of c)
