-- The events of a nested run in serial order, its shape, and the list of its events by numbers.
use Rattle.std.specs.Prelude.{◌≡◌, ℕ, List, [], ◌∷◌, ◌++◌}
use Rattle.cilk_types.specs.declared.event.Event as numbers
use Rattle.cilk_types.specs.declared.event.Event.TheVariants as events
use Rattle.cilk_types.specs.declared.event.Instance as numbered
use Rattle.cilk_types.specs.declared.invocation.Invocation.{Invocation}
use Rattle.cilk_types.specs.declared.invocation.Invocation.TheVariants.{Call, Spawn}
use Rattle.cilk_tree.specs.Shape as shapes
use Rattle.cilk_determinacy.specs.Runs.{Cell, Instance, Event, Reads, Writes, Syncs, Ends, Passes, Granted, Begins, Resumes, Creates, Updates, Sets, Values, Prints, Deed, Does, Invokes, Run, stop, act, child}

-- the deeds in serial order; an event's position is its place here, counted from 1
abbrev pub trace : {W : Type 0} → Run W → List (Deed W)
trace stop = []
trace (act e r) = Does e ∷ trace r
trace (child b w u r) = Invokes b w ∷ (trace u ++ trace r)

-- the shape of a nested run; its `begin`s and `resume`s are implied
abbrev pub shape_of : {W : Type 0} → Run W → shapes.Shape
shape_of stop = shapes.finish
shape_of (act (Reads c v) r) = shapes.act (shape_of r)
shape_of (act (Writes c v) r) = shapes.act (shape_of r)
shape_of (act Syncs r) = shapes.sync (shape_of r)
shape_of (act (Ends v gone) r) = shapes.finish
shape_of (act (Passes Begins) r) = shape_of r
shape_of (act (Passes Resumes) r) = shape_of r
shape_of (act (Passes (Creates i)) r) = shapes.act (shape_of r)
shape_of (act (Passes (Updates i x)) r) = shapes.act (shape_of r)
shape_of (act (Passes (Sets i x)) r) = shapes.act (shape_of r)
shape_of (act (Passes (Values i n)) r) = shapes.act (shape_of r)
shape_of (act (Passes (Prints x)) r) = shapes.act (shape_of r)
shape_of (child k w u r) = shapes.child k (shape_of u) (shape_of r)

-- the event due next in a frame: its `begin`, the `resume` after a child, or another one
pub data Due : Type 0 where
  begin_due : Due
  resume_due : Due
  neither_due : Due

-- each frame begins with its `begin`, has a `resume` after each child and nowhere else, and ends
-- with its `end`
abbrev pub IsFramed : {W : Type 0} → Due → Run W → Type 0
IsFramed begin_due (act (Passes Begins) r) = IsFramed neither_due r
IsFramed resume_due (act (Passes Resumes) r) = IsFramed neither_due r
IsFramed neither_due (act (Reads c v) r) = IsFramed neither_due r
IsFramed neither_due (act (Writes c v) r) = IsFramed neither_due r
IsFramed neither_due (act Syncs r) = IsFramed neither_due r
IsFramed neither_due (act (Ends v gone) r) = r ≡ stop
IsFramed neither_due (act (Passes (Creates i)) r) = IsFramed neither_due r
IsFramed neither_due (act (Passes (Updates i x)) r) = IsFramed neither_due r
IsFramed neither_due (act (Passes (Sets i x)) r) = IsFramed neither_due r
IsFramed neither_due (act (Passes (Values i n)) r) = IsFramed neither_due r
IsFramed neither_due (act (Passes (Prints x)) r) = IsFramed neither_due r
IsFramed neither_due (child k w u r) = IsFramed begin_due u × IsFramed resume_due r
IsFramed _ _ = ⊥

module _ (cell : Cell → ℕ) (instance : Instance → numbered.Instance) where
  -- the event by numbers, with the same values and any frame numbers
  abbrev pub IsWrittenMark : Granted → numbers.Event → Type 0
  IsWrittenMark Begins e = (f : ℕ) × (e ≡ events.Begin f)
  IsWrittenMark Resumes e = (f : ℕ) × (e ≡ events.Resume f)
  IsWrittenMark (Creates i) e = e ≡ events.Create (instance i)
  IsWrittenMark (Updates i x) e = e ≡ events.Update (instance i) x
  IsWrittenMark (Sets i x) e = e ≡ events.Set (instance i) x
  IsWrittenMark (Values i n) e = e ≡ events.Value (instance i) n
  IsWrittenMark (Prints x) e = e ≡ events.Print x

  abbrev pub IsWrittenEvent : Event → numbers.Event → Type 0
  IsWrittenEvent (Reads c v) e = e ≡ events.Read (cell c) v
  IsWrittenEvent (Writes c v) e = e ≡ events.Write (cell c) v
  IsWrittenEvent Syncs e = e ≡ events.Sync
  IsWrittenEvent (Ends v gone) e = e ≡ events.End
  IsWrittenEvent (Passes m) e = IsWrittenMark m e

  abbrev pub IsWritten : {W : Type 0} → Deed W → numbers.Event → Type 0
  IsWritten (Does d) e = IsWrittenEvent d e
  IsWritten (Invokes Call w) e = (f : ℕ) × (e ≡ events.Call f)
  IsWritten (Invokes Spawn w) e = (f : ℕ) × (e ≡ events.Spawn f)

  -- the list of events is that of the nested run, by numbers and with its values
  abbrev pub AreWritten : {W : Type 0} → List (Deed W) → List numbers.Event → Type 0
  AreWritten [] [] = Unit {0}
  AreWritten (d ∷ ds) (e ∷ es) = IsWritten d e × AreWritten ds es
  AreWritten _ _ = ⊥

-- The list of a nested run's events spells its shape.
abbrev pub EventsSpell : (W : Type 0) → Type 0
EventsSpell W = (cell : Cell → ℕ) (instance : Instance → numbered.Instance) (t : Run W) (es : List numbers.Event)
    → IsFramed begin_due t → AreWritten cell instance (trace t) es → shapes.Spells (shape_of t) es
