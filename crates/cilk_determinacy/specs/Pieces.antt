-- The stretches of the serial run that pieces cover, and their views.
use Rattle.std.specs.Prelude.{ℤ, List}
use Rattle.cilk_types.specs.declared.event.Event.{Event}
use Rattle.cilk_types.specs.declared.outcome.Outcome.{Outcome}
use Rattle.cilk_program.specs.SerialRun as serial
use Rattle.cilk_program.specs.Syntax.{Source}
use Rattle.cilk_determinacy.specs.Machine.{State}
use Rattle.cilk_determinacy.specs.Stretches.{AreStretches, PiecesAreViews}
use Rattle.cilk_determinacy.specs.Reducers.{View, monoid_of}
use Rattle.cilk_determinacy.specs.FrameEnvs.{FrameEnv}
use Rattle.cilk_determinacy.specs.Nested.{named}
use Rattle.cilk_determinacy.specs.Theorem.{RunsFree, IsCut}

-- in each consistent cut of a serial run without races each piece covers at most one stretch of the
-- run and has its views
abbrev pub PiecesCover : Source → List ℤ → Type 0
PiecesCover p inputs =
    (r : serial.Transcript) (es : List Event) (outcome : Outcome) → RunsFree p inputs r es outcome → (s : State FrameEnv View) → IsCut p inputs r s
    → AreStretches (named p r) s × PiecesAreViews monoid_of (named p r) s
