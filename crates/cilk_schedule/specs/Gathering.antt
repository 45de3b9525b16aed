-- How a run is gathered for showing: frames in the order in which they began, then events in the
-- order in which they were made.
use Rattle.std.specs.Prelude.{◌≡◌, ◌<◌, ℕ, suc, nat_eq, true, false, List, [], ◌∷◌, ◌++◌, length, slice_get, take, Some}
use Rattle.cilk_types.specs.declared.event.Event.{Event}
use Rattle.cilk_frames.specs.declared.activation.Activation.{Activation}
use Rattle.cilk_scheduler.specs.Numbered.{child_at, children_among, events_of}
use Rattle.cilk_scheduler.specs.declared.frame_state.JournalEntry.{JournalEntry}
use Rattle.cilk_scheduler.specs.declared.frame_state.FrameState.{FrameState}
use Rattle.cilk_schedule.specs.Links.{links_in, links_of}
use Rattle.cilk_schedule.specs.Showing.{IsNamedAs}
use Rattle.cilk_schedule.specs.declared.naming.ShownEvent.{ShownEvent}
use Rattle.cilk_schedule.specs.declared.showing.ShownFrame.{ShownFrame}

-- a frame is as before; if it is the parent, the next frame is added to its children
pub record HasChildMore (parent k : ℕ) (old : List ShownFrame) (f : ShownFrame) : Type 0 where
  pub before : ShownFrame
  pub at : slice_get old k ≡ Some before
  pub children : let c = f.children in let d = before.children in c.items ≡ d.items ++ child_at (Some parent) k (length old)
  pub events : f.events ≡ before.events

-- the next frame was added to its parent's children
pub record AddsChild (old new : List ShownFrame) (parent : ℕ) : Type 0 where
  pub links : links_in new ≡ links_in old
  pub each : (k : ℕ) (f : ShownFrame) → slice_get new k ≡ Some f → HasChildMore parent k old f

-- each frame but the first was started by an earlier one
abbrev pub HaveParents : List (Activation FrameState) → Type 0
HaveParents frames = (k : ℕ) (x : Activation FrameState) → slice_get frames (suc k) ≡ Some x → (let y = x.cursor in y.parent < suc k)

-- the first n frames, each with its children among them, and without events
pub record HaveLinks (frames : List (Activation FrameState)) (n : ℕ) (list : List ShownFrame) : Type 0 where
  pub links : links_in list ≡ links_of (take n frames)
  pub children : HaveParents frames → (k : ℕ) (f : ShownFrame) → slice_get list k ≡ Some f → let c = f.children in c.items ≡ children_among frames k n
  pub events : (k : ℕ) (f : ShownFrame) → slice_get list k ≡ Some f → let e = f.events in e.items ≡ []

-- these events by numbers have these names
abbrev pub AreNamedAs : List (Activation FrameState) → ℕ → List Event → List ShownEvent → Type 0
AreNamedAs frames globals [] [] = Unit {0}
AreNamedAs frames globals [] (e ∷ es) = ⊥
AreNamedAs frames globals (x ∷ xs) [] = ⊥
AreNamedAs frames globals (x ∷ xs) (e ∷ es) = IsNamedAs frames globals x e × AreNamedAs frames globals xs es

-- a frame is as before, with this event added if it made it
pub record HasEvent (frames : List (Activation FrameState)) (globals : ℕ) (entry : JournalEntry) (k : ℕ) (old : List ShownFrame) (f : ShownFrame) : Type 0 where
  pub before : ShownFrame
  pub at : slice_get old k ≡ Some before
  pub children : f.children ≡ before.children
  pub same : nat_eq entry.frame k ≡ false → f.events ≡ before.events
  pub more : nat_eq entry.frame k ≡ true → (e : ShownEvent) × IsNamedAs frames globals entry.event e × (let l = f.events in let m = before.events in l.items ≡ m.items ++ e ∷ [])

-- an event was added to its frame
pub record Gathers (frames : List (Activation FrameState)) (globals : ℕ) (old new : List ShownFrame) (entry : JournalEntry) : Type 0 where
  pub links : links_in new ≡ links_in old
  pub each : (k : ℕ) (f : ShownFrame) → slice_get new k ≡ Some f → HasEvent frames globals entry k old f

-- all frames, with these events
pub record AreGathered (frames : List (Activation FrameState)) (globals : ℕ) (es : List JournalEntry) (list : List ShownFrame) : Type 0 where
  pub links : links_in list ≡ links_of frames
  pub children : HaveParents frames → (k : ℕ) (f : ShownFrame) → slice_get list k ≡ Some f → let c = f.children in c.items ≡ children_among frames k (length frames)
  pub events : (k : ℕ) (f : ShownFrame) → slice_get list k ≡ Some f → let e = f.events in AreNamedAs frames globals (events_of k es) e.items
