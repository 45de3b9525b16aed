-- The kind of an event: the event without its value.
use Rattle.std.specs.Prelude.{◌≡◌, ℕ, ◌+◌, ◌≤◌, map, length, Option, Some, None, slice_get, FitsSigned}
use Rattle.std.specs.Int.{w64}
use Rattle.cilk_types.specs.declared.event.Event.{Event}
use Rattle.cilk_types.specs.declared.event.Event.TheVariants as events
use Rattle.cilk_tree.specs.Frames.{IsInFrame}
use Rattle.cilk_tree.specs.declared.event_order.EventOrder.{EventOrder}
use Rattle.cilk_tree.specs.declared.kind.Asked.{Asked}
use Rattle.cilk_tree.specs.declared.kind.Asked.TheVariants.{Next, Nothing}
use Rattle.cilk_tree.specs.declared.kind.Kind.{Kind}
use Rattle.cilk_tree.specs.declared.kind.Kind.TheVariants.{Begin, Spawn, Call, Resume, Sync, End, Read, Write, Create, Update, Set, Value, Print}

abbrev pub kind_of : Event → Kind
kind_of (events.Begin f) = Begin f
kind_of (events.Spawn f) = Spawn f
kind_of (events.Call f) = Call f
kind_of (events.Resume f) = Resume f
kind_of events.Sync = Sync
kind_of events.End = End
kind_of (events.Read c v) = Read c
kind_of (events.Write c v) = Write c
kind_of (events.Create i) = Create i
kind_of (events.Update i v) = Update i
kind_of (events.Set i v) = Set i
kind_of (events.Value i v) = Value i
kind_of (events.Print v) = Print

abbrev pub kind_of_event : Option Event → Option Kind
kind_of_event (Some e) = Some (kind_of e)
kind_of_event None = None

-- the kind of the event after the first n events, none past the last
abbrev pub kind_behind : EventOrder → ℕ → Option Kind
kind_behind s after = slice_get (map kind_of s.events) after

-- the kind and frame of the event after the first n events, or nothing past the last
abbrev pub IsBehind : EventOrder → ℕ → Asked → Type 0
IsBehind s after Nothing = length s.events ≤ after
IsBehind s after (Next frame kind) = (kind_behind s after ≡ Some kind) × IsInFrame s.events (after + 1) frame

-- the value that the event reads or writes, if any, is a word
abbrev pub IsOfWords : Event → Type 0
IsOfWords (events.Read c v) = FitsSigned w64 v
IsOfWords (events.Write c v) = FitsSigned w64 v
IsOfWords _ = Unit {0}
