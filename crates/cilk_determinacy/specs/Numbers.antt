-- The numbers of a serial run's frames, cells and reducers, and its events by these numbers.
use Rattle.std.specs.Prelude.{◌≡◌, ℕ, zero, suc, ◌+◌, ◌<◌, ℤ, IsTrue, List, [], ◌∷◌, ◌++◌, length, slice_get, Option, Some, None}
use Rattle.cilk_types.specs.declared.event.Event as numbers
use Rattle.cilk_types.specs.declared.event.Event.TheVariants as events
use Rattle.cilk_types.specs.declared.event.Instance as numbered
use Rattle.cilk_monoid.specs.declared.kind.MonoidKind.{MonoidKind}
use Rattle.cilk_program.specs.declared.ask.Callee.{Callee}
use Rattle.cilk_program.specs.declared.ask.Callee.TheVariants as callees
use Rattle.cilk_program.specs.Outcomes.{Conclusion}
use Rattle.cilk_program.specs.Syntax.{Source, main_of, function_at}
use Rattle.cilk_program.specs.SerialRun as serial
use Rattle.cilk_program.specs.WellNamed.{is_kind, is_well_named}
use Rattle.cilk_program.specs.Numbering.{Block, frame_at}
use Rattle.cilk_types.specs.declared.invocation.Invocation.{Invocation}
use Rattle.cilk_types.specs.declared.invocation.Invocation.TheVariants.{Call, Spawn}
use Rattle.cilk_determinacy.specs.Runs.{Name, Cell, Global, Own, Instance, Output, Reducer, Event, Reads, Writes, Syncs, Ends, Passes, Granted, Begins, Resumes, Creates, Updates, Sets, Values, Prints, Run, stop, act, child}
use Rattle.cilk_determinacy.specs.Nested.{named}
use Rattle.cilk_determinacy.specs.FrameEnvs.{FrameEnv}

-- names count children from 1, paths count them from 0
abbrev pub up : List ℕ → Name
up [] = []
up (k ∷ path) = suc k ∷ up path

abbrev pub below_one : ℕ → ℕ
below_one zero = 0
below_one (suc k) = k

abbrev pub down : Name → List ℕ
down [] = []
down (k ∷ name) = below_one k ∷ down name

-- the code that the frame at a path runs: the path skips k children, and continues in the next one
abbrev pub child_runs : serial.Transcript → ℕ → List ℕ → Option Callee
child_runs serial.stop k path = None
child_runs (serial.act a v r) k path = child_runs r k path
child_runs (serial.child how callee u r) zero [] = Some callee
child_runs (serial.child how callee u r) zero (j ∷ path) = child_runs u j path
child_runs (serial.child how callee u r) (suc k) path = child_runs r k path

abbrev pub frame_runs : serial.Transcript → List ℕ → Option Callee
frame_runs r [] = Some callees.Root
frame_runs r (k ∷ path) = child_runs r k path

-- the monoids of all the reducers that a frame creates
abbrev pub all_reducers : Source → Callee → List MonoidKind
all_reducers p callees.Root = let f = main_of p in p.reducers ++ f.reducers
all_reducers p (callees.Function c) = let f = function_at p c.function in f.reducers
all_reducers p (callees.Loop l) = []

abbrev pub first_cell : Option Block → ℕ
first_cell None = 0
first_cell (Some b) = b.first

abbrev pub number_of : Option Block → ℕ
number_of None = 0
number_of (Some b) = b.number

abbrev pub start_event : Invocation → ℕ → numbers.Event
start_event Call n = events.Call n
start_event Spawn n = events.Spawn n

module _ (p : Source) (r : serial.Transcript) where
  -- frames are numbered from 1 as they begin
  abbrev pub frame_number : Name → ℕ
  frame_number name = number_of (frame_at p r (down name))

  -- the globals come first, then each frame's block as frames begin
  abbrev pub cell_number : Cell → ℕ
  cell_number (Global n) = n
  cell_number (Own name n) = first_cell (frame_at p r (down name)) + n

  -- a reducer has its frame's number and its place among that frame's reducers, from 1
  abbrev pub instance_number : Instance → numbered.Instance
  instance_number Output = record { frame = 0; place = 0 }
  instance_number (Reducer name n k) = record { frame = frame_number name; place = suc n }

  -- the run has a frame of this name
  pub record IsHere (name : Name) : Type 0 where
    pub path : List ℕ
    pub named : name ≡ up path
    pub block : Block
    pub found : frame_at p r path ≡ Some block

  -- the run has the cell
  abbrev pub HasCell : Cell → Type 0
  HasCell (Global n) = n < length p.openings
  HasCell (Own name n) = (here : IsHere name) × (n < here.block.cells)

  -- the run has the frame that creates the reducer
  pub record HasReducer (name : Name) (n : ℕ) (k : MonoidKind) : Type 0 where
    pub here : IsHere name
    pub callee : Callee
    pub runs : frame_runs r here.path ≡ Some callee
    pub declared : IsTrue (is_kind (slice_get (all_reducers p callee) n) k)

  abbrev pub HasInstance : Instance → Type 0
  HasInstance Output = ⊥
  HasInstance (Reducer name n k) = HasReducer name n k

  -- the numbers of the run's frames, cells and reducers are one to one
  pub record AreOneToOne : Type 0 where
    pub frames : (n m : Name) → IsHere n → IsHere m → frame_number n ≡ frame_number m → n ≡ m
    pub cells : (c d : Cell) → HasCell c → HasCell d → cell_number c ≡ cell_number d → c ≡ d
    pub reducers : (i j : Instance) → HasInstance i → HasInstance j → instance_number i ≡ instance_number j → i ≡ j

  -- an event by numbers, in the frame of this name
  abbrev pub numbered_mark : Name → Granted → numbers.Event
  numbered_mark name Begins = events.Begin (frame_number name)
  numbered_mark name Resumes = events.Resume (frame_number name)
  numbered_mark name (Creates i) = events.Create (instance_number i)
  numbered_mark name (Updates i x) = events.Update (instance_number i) x
  numbered_mark name (Sets i x) = events.Set (instance_number i) x
  numbered_mark name (Values i v) = events.Value (instance_number i) v
  numbered_mark name (Prints x) = events.Print x

  abbrev pub numbered_event : Name → Event → numbers.Event
  numbered_event name (Reads c v) = events.Read (cell_number c) v
  numbered_event name (Writes c v) = events.Write (cell_number c) v
  numbered_event name Syncs = events.Sync
  numbered_event name (Ends v gone) = events.End
  numbered_event name (Passes m) = numbered_mark name m

  -- the events of a run by names, of the frame of this name and those that it starts, in serial
  -- order
  abbrev pub numbered_events : Name → Run FrameEnv → List numbers.Event
  numbered_events name stop = []
  numbered_events name (act e t) = numbered_event name e ∷ numbered_events name t
  numbered_events name (child k w u t) = start_event k (frame_number w.name) ∷ (numbered_events w.name u ++ numbered_events name t)

  -- all that an event names exists in the run
  abbrev pub MarkIsHere : Granted → Type 0
  MarkIsHere Begins = Unit {0}
  MarkIsHere Resumes = Unit {0}
  MarkIsHere (Creates i) = HasInstance i
  MarkIsHere (Updates i x) = HasInstance i
  MarkIsHere (Sets i x) = HasInstance i
  MarkIsHere (Values i v) = HasInstance i
  MarkIsHere (Prints x) = Unit {0}

  abbrev pub EventIsHere : Event → Type 0
  EventIsHere (Reads c v) = HasCell c
  EventIsHere (Writes c v) = HasCell c
  EventIsHere Syncs = Unit {0}
  EventIsHere (Ends v gone) = Unit {0}
  EventIsHere (Passes m) = MarkIsHere m

  -- the frames that a run by names starts, and the cells and reducers that its events name, exist
  -- in the run
  abbrev pub AreHere : Run FrameEnv → Type 0
  AreHere stop = Unit {0}
  AreHere (act e t) = EventIsHere e × AreHere t
  AreHere (child k w u t) = IsHere w.name × AreHere u × AreHere t

-- the list is the run by names, with numbers for its frames, cells and reducers
pub record AreNumbered (p : Source) (r : serial.Transcript) (es : List numbers.Event) : Type 0 where
  pub events : es ≡ numbered_events p r [] (named p r)
  pub here : AreHere p r (named p r)

abbrev pub EventsHaveNumbers : Source → List ℤ → Type 0
EventsHaveNumbers p inputs =
    (r : serial.Transcript) (es : List numbers.Event) (c : Conclusion) → IsTrue (is_well_named p) → serial.IsSerialRun p inputs r es c → AreNumbered p r es
