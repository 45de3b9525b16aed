-- The frame that makes each event of a plan's run, by names.
use Rattle.std.specs.Prelude.{◌≡◌, ℕ, ◌+◌, ◌<◌, ℤ, IsTrue, List, [], ◌∷◌, ◌++◌, map, length, slice_index_or}
use Rattle.cilk_types.specs.declared.event.Event.{Event}
use Rattle.cilk_types.specs.declared.outcome.Outcome.{Outcome}
use Rattle.cilk_program.specs.Outcomes.{Leaves}
use Rattle.cilk_program.specs.SerialRun.{Transcript, IsSerialRun}
use Rattle.cilk_program.specs.Syntax.{Source}
use Rattle.cilk_program.specs.WellNamed.{is_well_named}
use Rattle.cilk_tree.specs.Frames.{IsInFrame, AreFrames}
use Rattle.cilk_determinacy.specs.Runs.{Name, Run, stop, act, child}
use Rattle.cilk_determinacy.specs.FrameEnvs.{FrameEnv}
use Rattle.cilk_determinacy.specs.Nested.{named}
use Rattle.cilk_determinacy.specs.Numbers.{frame_number}

-- the name of the frame that makes each event, in serial order, of the run of the frame with this
-- name
abbrev pub makers : Name → Run FrameEnv → List Name
makers name stop = []
makers name (act e r) = name ∷ makers name r
makers name (child k w u r) = name ∷ (makers w.name u ++ makers name r)

-- the numbers of these frames, for a serial run
abbrev pub maker_numbers : Source → Transcript → List ℕ
maker_numbers p r = map (frame_number p r) (makers [] (named p r))

-- each event is in its frame in this list, and in no other
pub record AreTheFrames (es : List Event) (frames : List ℕ) : Type 0 where
  pub each : AreFrames es frames
  pub only : (i frame : ℕ) → i < length es → IsInFrame es (i + 1) frame → frame ≡ slice_index_or frames i 0

-- In the list of a serial run's events, each event is in the frame that makes it, by the frame's
-- number.
abbrev pub EventsAreInTheirFrames : Type 0
EventsAreInTheirFrames =
    (p : Source) (inputs : List ℤ) (r : Transcript) (es : List Event) (outcome : Outcome) → IsTrue (is_well_named p)
    → IsSerialRun p inputs r es (Leaves outcome) → AreTheFrames es (maker_numbers p r)
