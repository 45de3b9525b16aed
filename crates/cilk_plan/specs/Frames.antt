-- The frames of an accepted run by their numbers.
use Rattle.std.specs.Prelude.{◌≡◌, ℕ, zero, suc, ◌+◌, List, [], ◌∷◌, Option, None, slice_get}
use Rattle.cilk_program.specs.Outcomes.{Leaves}
use Rattle.cilk_program.specs.SerialRun.{Transcript, IsSerialRun}
use Rattle.cilk_program.specs.Sources.{source}
use Rattle.cilk_checker.specs.Frames.{frames_of}
use Rattle.cilk_lower.specs.declared.layout.PlannedFrame.{PlannedFrame}
use Rattle.cilk_checker.specs.Determinate.{AcceptedRun}

-- the frame with a number, from 1 on
abbrev pub frame_numbered : List PlannedFrame → ℕ → Option PlannedFrame
frame_numbered frames zero = None
frame_numbered frames (suc n) = slice_get frames n

-- the accepted run's frame with this number, if it has that frame
abbrev pub IsFrameOf : AcceptedRun → ℕ → Option PlannedFrame → Type 0
IsFrameOf a number frame =
    (run : Transcript) → IsSerialRun (source a.program) a.input run a.trace (Leaves a.outcome) → frame ≡ frame_numbered (frames_of (source a.program) run) number

-- the end of the cells of frames that follow one another: that of the last frame's cells
abbrev pub end_from : ℕ → List PlannedFrame → ℕ
end_from n [] = n
end_from n (f ∷ fs) = end_from (f.first_cell + f.cells) fs
