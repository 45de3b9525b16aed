-- The frame of each event of a list, and the parent of each frame, computed from the list alone.
use Rattle.std.specs.Prelude.{◌≡◌, ℕ, zero, suc, ◌-◌, ◌≤◌, nat_eq, if◌then◌else◌, List, [], ◌∷◌, length, map, take, Option, Some}
use Rattle.cilk_types.specs.declared.event.Event.{Event}
use Rattle.cilk_tree.specs.declared.mark.Mark.{Mark}
use Rattle.cilk_tree.specs.declared.mark.Mark.TheVariants.{Begin, End, Spawn, Call}
use Rattle.cilk_tree.specs.Before.{IsPosition}
use Rattle.cilk_tree.specs.Marks.{mark_of}
use Rattle.cilk_tree.specs.Races.{event_at, strand_at}
use Rattle.cilk_tree.specs.Shape.{Shape}
use Rattle.cilk_tree.specs.Worked.{spawn_race_events}
use Rattle.cilk_cert_text.specs.declared.line.Frame.{Frame}
use Rattle.cilk_cert_maker.specs.Frames.{frames_of, owners_of}
use Rattle.cilk_cert_maker.specs.Right.{IsAt}

-- these marks reversed, in front of those before them: the last mark comes first
abbrev pub turned : List Mark → List Mark → List Mark
turned [] past = past
turned (m ∷ ms) past = turned ms (m ∷ past)

-- the marks of the first p events, the last one first
abbrev pub upto : List Event → ℕ → List Mark
upto es p = turned (take p (map mark_of es)) []

-- how many frames have begun
abbrev pub frames_begun : List Mark → ℕ
frames_begun [] = 0
frames_begun (Begin ∷ past) = suc (frames_begun past)
frames_begun (m ∷ past) = frames_begun past

-- The innermost open frame, found by going back over the marks; 0 if no frame is open. `inner`
-- counts the `end`s that are passed and whose `begin` isn't. Frames are numbered as they begin.
abbrev pub open_frame : List Mark → ℕ → ℕ
open_frame [] inner = 0
open_frame (Begin ∷ past) zero = suc (frames_begun past)
open_frame (Begin ∷ past) (suc inner) = open_frame past inner
open_frame (End ∷ past) inner = open_frame past (suc inner)
open_frame (m ∷ past) inner = open_frame past inner

-- the frame of the last event; an `end` is in the frame that it ends
abbrev pub frame_of_last : List Mark → ℕ
frame_of_last (End ∷ past) = open_frame past 0
frame_of_last past = open_frame past 0

-- how many calls and spawns a frame has made so far
abbrev pub made_in : ℕ → List Mark → ℕ
made_in f [] = 0
made_in f (Spawn ∷ past) = if nat_eq (open_frame past 0) f then suc (made_in f past) else made_in f past
made_in f (Call ∷ past) = if nat_eq (open_frame past 0) f then suc (made_in f past) else made_in f past
made_in f (m ∷ past) = made_in f past

-- the frame of the event at a position
abbrev pub frame_at : List Event → ℕ → ℕ
frame_at es p = frame_of_last (upto es p)

-- The line of the frame that begins after these marks. The last event, which calls or spawns it, is
-- in its parent. Its ordinal counts the parent's calls and spawns, with this one. The root has
-- neither.
abbrev pub invoked : List Mark → Frame
invoked past = record { parent = frame_of_last past; ordinal = made_in (frame_of_last past) past }

abbrev pub Begins : Option Event → Type 0
Begins (Some e) = mark_of e ≡ Begin
Begins _ = ⊥

-- The columns of a run follow from the list of its events. There is one frame for each `begin`,
-- with its parent and ordinal by the event before. Each event is in the frame of its strand.
pub record FramesAreInvoked (s : Shape) (es : List Event) : Type 0 where
  pub many : frames_begun (upto es (length es)) ≡ length (frames_of s)
  pub frames : (p : ℕ) → 1 ≤ p → Begins (event_at es p) → IsAt (frames_of s) (frames_begun (upto es p) - 1) (invoked (upto es (p - 1)))
  pub owners : (p : ℕ) → IsPosition es p → IsAt (owners_of s) (strand_at es p - 1) (frame_at es p)

-- the frame of each event of a run with a spawned child
abbrev pub SpawnRaceFrames : Type 0
SpawnRaceFrames =
    map (frame_at spawn_race_events) (1 ∷ 2 ∷ 3 ∷ 4 ∷ 5 ∷ 6 ∷ 7 ∷ 8 ∷ 9 ∷ 10 ∷ 11 ∷ 12 ∷ 13 ∷ 14 ∷ 15 ∷ [])
    ≡ 1 ∷ 1 ∷ 1 ∷ 1 ∷ 2 ∷ 2 ∷ 2 ∷ 2 ∷ 1 ∷ 1 ∷ 1 ∷ 1 ∷ 1 ∷ 1 ∷ 1 ∷ []
