-- The events of reducers in a range of a run's positions.
use Rattle.std.specs.Prelude.{◌≡◌, ℕ, zero, suc, ◌+◌, ◌-◌, ◌^◌, ◌<◌, cond, List, [], ◌∷◌, ◌++◌, length, Option, Some, slice_index_or}
use Rattle.cilk_types.specs.declared.event.Event.{Event}
use Rattle.cilk_types.specs.declared.event.Event.TheVariants as events
use Rattle.cilk_types.specs.declared.event.Instance.{Instance}
use Rattle.cilk_monoid.specs.declared.kind.MonoidKind.{MonoidKind}
use Rattle.cilk_monoid.specs.declared.kind.MonoidKind.TheVariants.{Append}
use Rattle.cilk_monoid.specs.Kinds.{structure_of}
use Rattle.cilk_monoid.specs.Ranges.{ReducerEvent, Created, Updated, SetTo, Retired, same_instance, view_after}
use Rattle.cilk_hypermap.specs.declared.hypermap.Hypermap.{Hypermap}
use Rattle.cilk_hypermap.specs.Hypermap.{value_in}
use Rattle.cilk_hypermap.specs.Views.{output}
use Rattle.cilk_tree.specs.declared.event_order.EventOrder.{EventOrder}
use Rattle.cilk_tree.specs.Word.{event}
use Rattle.cilk_shared.specs.declared.reducers.FrameReducers.{FrameReducers}
use Rattle.cilk_shared.specs.declared.reducers.Reducers.{Reducers}

-- the reducers of a frame
abbrev pub own : Reducers → ℕ → FrameReducers
own r f = slice_index_or r.frames (f - 1) (record { kinds = []; outlive = 0 })

-- each frame has fewer than 2^32 reducers
abbrev pub HasFew : Reducers → Type 0
HasFew r = (f : ℕ) → (let o = own r f in length o.kinds) < 2 ^ 32

-- the monoid of a reducer; the output is a list
abbrev pub kind_in : Reducers → Instance → MonoidKind
kind_in r i = cond (same_instance output i) Append (let o = own r i.frame in slice_index_or o.kinds (i.place - 1) Append)

-- the ends of n of a frame's reducers, from a place on
abbrev pub ends_from : ℕ → ℕ → ℕ → List ReducerEvent
ends_from f place zero = []
ends_from f place (suc n) = Retired (record { frame = f; place = place }) ∷ ends_from f (suc place) n

-- the ends of the reducers that don't outlive their frame
abbrev pub retired : ℕ → FrameReducers → List ReducerEvent
retired f o = ends_from f (suc o.outlive) (length o.kinds - o.outlive)

-- the frame has ended: the views of its own reducers are gone, and the others are unchanged
abbrev pub HasEnded : ℕ → FrameReducers → Hypermap → Hypermap → Type 0
HasEnded f o old new = (k : MonoidKind) (i : Instance) → value_in new k i ≡ view_after (structure_of k) i (retired f o) (value_in old k i)

-- the current frame after an event
abbrev pub entered : Event → ℕ → ℕ
entered (events.Begin f) g = f
entered (events.Resume f) g = f
entered e g = g

-- the current frame after the first n of these events, if it is f before them
abbrev pub frame_behind : List Event → ℕ → ℕ → ℕ
frame_behind es zero f = f
frame_behind [] (suc n) f = f
frame_behind (e ∷ es) (suc n) f = frame_behind es n (entered e f)

-- the frame of the event at a position
abbrev pub frame_in : List Event → ℕ → ℕ
frame_in es p = frame_behind es p 0

-- The reducer events of an event of a frame: a print updates the output, and an `end` retires the
-- reducers that don't outlive the frame.
abbrev pub of_event : Reducers → ℕ → Option Event → List ReducerEvent
of_event r f (Some (events.Create i)) = Created i ∷ []
of_event r f (Some (events.Update i x)) = Updated i x ∷ []
of_event r f (Some (events.Set i x)) = SetTo i x ∷ []
of_event r f (Some (events.Print x)) = Updated output x ∷ []
of_event r f (Some events.End) = retired f (own r f)
of_event r f _ = []

-- the reducer events of the event at a position
abbrev pub events_at : EventOrder → Reducers → ℕ → List ReducerEvent
events_at s r p = of_event r (frame_in s.events p) (event s p)

-- the reducer events of the n events from a on
unfoldable pub events_from : EventOrder → Reducers → ℕ → ℕ → List ReducerEvent
events_from s r a zero = []
events_from s r a (suc n) = events_from s r a n ++ events_at s r (a + n)

-- the reducer events of the events from a up to b, without b
abbrev pub events_over : EventOrder → Reducers → ℕ → ℕ → List ReducerEvent
events_over s r a b = events_from s r a (b - a)
