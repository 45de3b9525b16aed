-- The reducers of runs without a view-read race are settled.
use Rattle.std.specs.Prelude.{ℤ, IsTrue, List}
use Rattle.cilk_types.specs.declared.event.Event.{Event}
use Rattle.cilk_types.specs.declared.outcome.Outcome.{Outcome}
use Rattle.cilk_program.specs.Outcomes.{Leaves}
use Rattle.cilk_program.specs.SerialRun.{Transcript, IsSerialRun}
use Rattle.cilk_program.specs.Syntax.{Source}
use Rattle.cilk_program.specs.WellNamed.{is_well_named}
use Rattle.cilk_tree.specs.Shape.{Shape, Spells}
use Rattle.cilk_tree.specs.Tree.{tree}
use Rattle.cilk_peers.specs.ViewRaces.{HasNoViewRace}
use Rattle.cilk_tree.specs.declared.event_order.EventOrder.{EventOrder}
use Rattle.cilk_tree.specs.Along.{IsAlong}
use Rattle.cilk_tree.specs.Planned.{planned}
use Rattle.cilk_shared.specs.declared.reducers.Reducers.{Reducers}
use Rattle.cilk_shared.specs.Settled.{AreSettled}
use Rattle.cilk_threads.specs.Tables.{AreReducersOf}

-- If the reducers of a plan are settled, they are settled in each event order along it: values
-- don't matter.
abbrev pub EventOrdersAlongAreSettled : Type 0
EventOrdersAlongAreSettled = (plan s : EventOrder) (r : Reducers) → IsAlong plan s → AreSettled plan r → AreSettled s r

-- If a serial run ends without a fault and has no view-read race, its reducers are settled.
abbrev pub RaceFreeRunsAreSettled : Type 0
RaceFreeRunsAreSettled =
    (p : Source) (inputs : List ℤ) (run : Transcript) (es : List Event) (outcome : Outcome) (opening : List ℤ) (shape : Shape) (r : Reducers)
    → IsTrue (is_well_named p) → IsSerialRun p inputs run es (Leaves outcome) → Spells shape es → HasNoViewRace (tree shape) es
    → AreReducersOf p run r → AreSettled (planned es opening) r
