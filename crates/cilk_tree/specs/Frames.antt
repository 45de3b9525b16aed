-- The frame of each event.
use Rattle.std.specs.Prelude.{◌≡◌, ℕ, ◌+◌, ◌<◌, ◌≤◌, List, length, Option, Some, slice_index_or}
use Rattle.cilk_types.specs.declared.event.Event.{Event}
use Rattle.cilk_types.specs.declared.event.Event.TheVariants.{Begin, Resume}
use Rattle.cilk_tree.specs.Races.{event_at}

-- the event enters the frame: it is its `begin`, or its `resume` after a child
abbrev pub Enters : Option Event → ℕ → Type 0
Enters (Some (Begin f)) g = f ≡ g
Enters (Some (Resume f)) g = f ≡ g
Enters _ g = ⊥

-- an event is in the frame that was entered last
pub record IsInFrame (events : List Event) (p frame : ℕ) : Type 0 where
  pub since : ℕ
  pub upto : since ≤ p
  pub entered : Enters (event_at events since) frame
  pub last : (q other : ℕ) → since < q → q ≤ p → Enters (event_at events q) other → ⊥

-- the run begins with a frame's `begin`
abbrev pub BeginsAFrame : List Event → Type 0
BeginsAFrame events = (frame : ℕ) × (event_at events 1 ≡ Some (Begin frame))

-- the frames of all events of a list
pub record AreFrames (events : List Event) (frames : List ℕ) : Type 0 where
  pub all : length frames ≡ length events
  pub each : (i : ℕ) → i < length events → IsInFrame events (i + 1) (slice_index_or frames i 0)
