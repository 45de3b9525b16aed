-- The events of the serial run's list that a state of the free machine has made, by positions.
use Rattle.std.specs.Prelude.{ℤ, IsTrue, Bool, List, []}
use Rattle.cilk_types.specs.declared.event.Event.{Event}
use Rattle.cilk_types.specs.declared.outcome.Outcome.{Outcome}
use Rattle.cilk_program.specs.Outcomes.{Leaves}
use Rattle.cilk_program.specs.SerialRun as serial
use Rattle.cilk_program.specs.Syntax.{Source}
use Rattle.cilk_program.specs.WellNamed.{is_well_named}
use Rattle.cilk_determinacy.specs.Cuts.{below}
use Rattle.cilk_determinacy.specs.Machine.{State, deeds_at}
use Rattle.cilk_determinacy.specs.CutPositions.{made_at, IsClosedBefore}
use Rattle.cilk_tree.specs.Shape.{Shape, Spells}
use Rattle.cilk_tree.specs.Tree.{tree}
use Rattle.cilk_determinacy.specs.Reducers.{View}
use Rattle.cilk_determinacy.specs.FrameEnvs.{FrameEnv}
use Rattle.cilk_determinacy.specs.Nested.{named}
use Rattle.cilk_determinacy.specs.Theorem.{IsCut}

module _ (p : Source) (r : serial.Transcript) (s : State FrameEnv View) where
  -- for each event of the serial run, in order, whether the state has made it
  abbrev pub made : List Bool
  made = made_at (named p r) 1 (deeds_at (s.frames [])) (below s.frames)

-- each consistent cut of the serial run is closed under "before", by positions of the run's list
abbrev pub CutsAreClosed : Source → List ℤ → Type 0
CutsAreClosed p inputs =
    (r : serial.Transcript) (es : List Event) (outcome : Outcome) → IsTrue (is_well_named p) → serial.IsSerialRun p inputs r es (Leaves outcome)
    → (shape : Shape) → Spells shape es → (s : State FrameEnv View) → IsCut p inputs r s → IsClosedBefore es (tree shape) (made p r s)
