-- The event order of a plan's run on another input, as a function of the plan, the program and the
-- input.
use Rattle.std.specs.Prelude.{◌≡◌, ℕ, ℤ, pos, IsTrue, List, slice_index_or}
use Rattle.cilk_types.specs.declared.event.Event.{Event}
use Rattle.cilk_types.specs.declared.outcome.Outcome.{Outcome}
use Rattle.cilk_program.specs.Outcomes.{Leaves}
use Rattle.cilk_program.specs.SerialRun.{Transcript, IsSerialRun}
use Rattle.cilk_program.specs.Syntax.{Source}
use Rattle.cilk_program.specs.WellNamed.{is_well_named}
use Rattle.cilk_program.specs.Answered.{opening_cells}
use Rattle.cilk_tree.specs.declared.event_order.EventOrder.{EventOrder}
use Rattle.cilk_tree.specs.Values.{HasValues}
use Rattle.cilk_tree.specs.Along.{IsAlong}
use Rattle.cilk_tree.specs.Planned.{planned}
use Rattle.cilk_determinacy.specs.Nested.{named}
use Rattle.cilk_determinacy.specs.Words.{HasWords, InputsAreWords}
use Rattle.cilk_replay.specs.Frames.{course_on}
use Rattle.cilk_replay.specs.Lists.{event_order_along}

-- the event order on these inputs along the plan of a serial run with these events and opening
-- cells
abbrev pub event_order_on : Source → List ℤ → Transcript → List Event → List ℤ → EventOrder
event_order_on p inputs r es opening = event_order_along es opening (course_on p inputs (named p r))

-- The serial run of a program of words on these inputs, which ends without a fault. The cells open
-- with the globals' values.
pub record IsPlannedRun (p : Source) (inputs : List ℤ) (r : Transcript) (es : List Event) (opening : List ℤ) : Type 0 where
  pub named : IsTrue (is_well_named p)
  pub words : HasWords p
  pub inputs_words : InputsAreWords inputs
  pub outcome : Outcome
  pub runs : IsSerialRun p inputs r es (Leaves outcome)
  pub opens : (c : ℕ) → slice_index_or opening c (pos 0) ≡ opening_cells p inputs c

-- On its own inputs a run's event order is the plan's.
abbrev pub OwnEventOrder : Type 0
OwnEventOrder =
    (p : Source) (inputs : List ℤ) (r : Transcript) (es : List Event) (opening : List ℤ)
    → IsPlannedRun p inputs r es opening → event_order_on p inputs r es opening ≡ planned es opening

-- On all inputs of words the event order is along the plan and has values: a read at a followed
-- position gives the cell's last write before it, or the cell's opening value, and each value is a
-- word.
abbrev pub EventOrdersAlongHaveValues : Type 0
EventOrdersAlongHaveValues =
    (p : Source) (inputs others : List ℤ) (r : Transcript) (es : List Event) (opening : List ℤ)
    → IsPlannedRun p inputs r es opening → InputsAreWords others
    → IsAlong (planned es opening) (event_order_on p others r es opening) × HasValues (event_order_on p others r es opening)
