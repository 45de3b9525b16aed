-- The parent of each frame that a run shows.
use Rattle.std.specs.Prelude.{List, map}
use Rattle.cilk_frames.specs.declared.activation.Activation.{Activation}
use Rattle.cilk_scheduler.specs.declared.frame_state.FrameState.{FrameState}
use Rattle.cilk_schedule.specs.declared.showing.Link.{Link}
use Rattle.cilk_schedule.specs.declared.showing.ShownFrame.{ShownFrame}

-- a frame's parent, and its ordinal there
abbrev pub link_of : Activation FrameState → Link
link_of a = let x = a.cursor in record { parent = x.parent; ordinal = x.ordinal }

-- the links of frames that are shown, and of a scheduler's frames
abbrev pub links_in : List ShownFrame → List Link
links_in frames = map (λ (f : ShownFrame). f.link) frames

abbrev pub links_of : List (Activation FrameState) → List Link
links_of frames = map link_of frames
