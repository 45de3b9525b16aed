-- The frames and strands of a run that ends are within the limits.
use Rattle.std.specs.Prelude.{◌≡◌, ◌≤◌, ℤ, IsTrue, List, length}
use Rattle.cilk_types.specs.declared.event.Event.{Event}
use Rattle.cilk_types.specs.declared.limits.TheConstants.{MAX_EVENTS, MAX_FRAMES}
use Rattle.cilk_types.specs.declared.outcome.Outcome.{Outcome}
use Rattle.cilk_program.specs.Outcomes.{Leaves}
use Rattle.cilk_program.specs.Syntax.{Source}
use Rattle.cilk_program.specs.SerialRun.{Transcript, IsSerialRun}
use Rattle.cilk_program.specs.WellNamed.{is_well_named}
use Rattle.cilk_tree.specs.Shape.{Shape, Spells}
use Rattle.cilk_determinacy.specs.Events.{frames_begun}
use Rattle.cilk_cert_maker.specs.Frames.{frames_of, owners_of}

-- one frame for each `begin`, within the limit of frames; strands within the limit of events
pub record HasFewColumns (s : Shape) (es : List Event) : Type 0 where
  pub begun : length (frames_of s) ≡ length (frames_begun es)
  pub frames : length (frames_of s) ≤ MAX_FRAMES
  pub owners : length (owners_of s) ≤ MAX_EVENTS

abbrev pub RunsHaveFewColumns : Source → List ℤ → Type 0
RunsHaveFewColumns p inputs =
    (r : Transcript) (es : List Event) (outcome : Outcome) (s : Shape) → IsTrue (is_well_named p) → IsSerialRun p inputs r es (Leaves outcome) → Spells s es → HasFewColumns s es
