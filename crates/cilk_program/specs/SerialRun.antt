-- The serial run of a program: the requests of its frames, one at a time, answered from one store.
-- A child runs where it is called or spawned, and its parent continues when it has ended.
use Rattle.std.specs.Prelude.{◌≡◌, ℕ, zero, suc, ◌+◌, ◌-◌, nat_eq, nat_lt, ℤ, pos, ◌-ℤ◌, if◌then◌else◌, List, [], ◌∷◌, ◌++◌, length, drop, Option, Some, None}
use Rattle.std.specs.Option.{option_map}
use Rattle.std.specs.Ordering.{int_eq}
use Rattle.cilk_types.specs.declared.fault.Fault.{Fault}
use Rattle.cilk_types.specs.declared.fault.Fault.TheVariants.{TooManyEvents, TooManyFrames, TooManyCells}
use Rattle.cilk_types.specs.declared.limits.TheConstants.{MAX_EVENTS, MAX_TICKS, MAX_FRAMES, MAX_CELLS}
use Rattle.cilk_types.specs.declared.event.Instance.{Instance}
use Rattle.cilk_types.specs.declared.event.Event.{Event}
use Rattle.cilk_types.specs.declared.event.Event.TheVariants as events
use Rattle.cilk_monoid.specs.declared.kind.MonoidKind.{MonoidKind}
use Rattle.cilk_monoid.specs.Ranges.{same_instance}
use Rattle.cilk_program.specs.declared.ask.Ask.{Ask}
use Rattle.cilk_program.specs.declared.ask.Ask.TheVariants as asks
use Rattle.cilk_program.specs.declared.ask.Callee.{Callee}
use Rattle.cilk_program.specs.declared.ask.Callee.TheVariants as callees
use Rattle.cilk_program.specs.declared.ask.LoopPart.{LoopPart}
use Rattle.cilk_types.specs.declared.invocation.Invocation.{Invocation}
use Rattle.cilk_types.specs.declared.invocation.Invocation.TheVariants.{Call, Spawn}
use Rattle.cilk_program.specs.declared.syntax.Place.{Place}
use Rattle.cilk_program.specs.declared.syntax.Reducer.{Reducer}
use Rattle.cilk_program.specs.Syntax.{Source, Function, function_at, main_of, loop_at}
use Rattle.cilk_program.specs.Scopes.{Home, Scope, cell_in, instance_in, instances_in}
use Rattle.cilk_program.specs.Store.{Store, opening, put, print, clear, clear_all, update, set, number_at}
use Rattle.cilk_program.specs.Behaviour.{asks_for, frame_asks}
use Rattle.cilk_program.specs.Outcomes.{Conclusion, Leaves, StopsBy, outcome_of}

-- The run of a frame, from its beginning or from a later event: a request with its answer, or a
-- child with its run. Places are those that the frame names.
pub data Transcript : Type 0 where
  stop : Transcript
  act : (ask : Ask) (answer : ℤ) (rest : Transcript) → Transcript
  child : (how : Invocation) (callee : Callee) (inner : Transcript) (rest : Transcript) → Transcript

-- The store; how many frames have begun and how many cells there are, the globals first; and the
-- number of events still allowed.
pub record Memory : Type 0 where
  pub store : Store Instance
  pub frames : ℕ
  pub cells : ℕ
  pub room : ℕ

-- A frame: its callee, its number, what it sees, and the cell that receives its result.
pub record Frame : Type 0 where
  pub callee : Callee
  pub number : ℕ
  pub scope : Scope ℕ Instance
  pub result : Option ℕ

-- a global cell is known by its number, a global reducer by its place in the first frame
abbrev pub itself : ℕ → ℕ
itself n = n

abbrev pub global_reducer : ℕ → Instance
global_reducer n = record { frame = 1; place = suc n }

abbrev pub cell_at : Frame → Place → ℕ
cell_at fr x = cell_in itself fr.scope x

abbrev pub reducer_at : Frame → Reducer → Instance
reducer_at fr r = instance_in global_reducer fr.scope r.place

-- the place of a frame's own first reducer; the root's follow the global ones
abbrev pub first_place : Source → Callee → ℕ
first_place p callees.Root = suc (length p.reducers)
first_place p (callees.Function c) = 1
first_place p (callees.Loop l) = 1

-- the monoids of the reducers that a frame declares
abbrev pub own_reducers : Source → Callee → List MonoidKind
own_reducers p callees.Root = let f = main_of p in f.reducers
own_reducers p (callees.Function c) = let f = function_at p c.function in f.reducers
own_reducers p (callees.Loop l) = []

-- the number of a frame's cells; a frame that halves the turns of a loop has none
abbrev pub cells_of : Source → Callee → ℕ
cells_of p callees.Root = let f = main_of p in f.cells
cells_of p (callees.Function c) = let f = function_at p c.function in f.cells
cells_of p (callees.Loop l) = let body = loop_at p l.number in if int_eq (l.high -ℤ l.low) (pos 1) then body.cells else 0

-- the home of a frame with this number, whose cells begin at `base`
abbrev pub home_of : Source → Callee → ℕ → ℕ → List Instance → Home ℕ Instance
home_of p callee number base given = record { cells = λ n. base + n; own = λ n. record { frame = number; place = first_place p callee + n }; given = given }

-- the frames around a frame's body, by static links
abbrev pub outer_of : Callee → Scope ℕ Instance → Scope ℕ Instance
outer_of callees.Root scope = []
outer_of (callees.Function c) scope = []
outer_of (callees.Loop l) scope = drop l.up scope

abbrev pub given_to : Callee → Scope ℕ Instance → List Instance
given_to callees.Root scope = []
given_to (callees.Function c) scope = instances_in global_reducer scope c.reducers
given_to (callees.Loop l) scope = []

abbrev pub result_of : Callee → Scope ℕ Instance → Option ℕ
result_of callees.Root scope = None
result_of (callees.Function c) scope = option_map (cell_in itself scope) c.result
result_of (callees.Loop l) scope = None

-- the next frame that a frame with this scope begins
abbrev pub next_frame : Source → Scope ℕ Instance → Memory → Callee → Frame
next_frame p scope m callee = record {
  callee = callee;
  number = suc m.frames;
  scope = home_of p callee (suc m.frames) m.cells (given_to callee scope) ∷ outer_of callee scope;
  result = result_of callee scope;
}

-- with one more frame
abbrev pub begun : Source → Callee → Memory → Memory
begun p callee m = record { store = m.store; frames = suc m.frames; cells = m.cells + cells_of p callee; room = m.room }

-- with one event fewer allowed
abbrev pub counted : Memory → Memory
counted m = record m { room = m.room - 1 }

-- with another store, and one event fewer allowed
abbrev pub with_store : Memory → Store Instance → Memory
with_store m store = record { store = store; frames = m.frames; cells = m.cells; room = m.room - 1 }

-- the answer to a request; 0 for one without a result
abbrev pub answer_to : Frame → Memory → Ask → ℤ
answer_to fr m asks.Begin = pos 0
answer_to fr m (asks.Read x) = m.store.cells (cell_at fr x)
answer_to fr m (asks.Write x v) = pos 0
answer_to fr m (asks.Create r) = pos 0
answer_to fr m (asks.Update r v) = pos 0
answer_to fr m (asks.Set r v) = pos 0
answer_to fr m (asks.Value r) = number_at r.kind (reducer_at fr r) m.store
answer_to fr m (asks.Print v) = pos 0
answer_to fr m (asks.Invoke how callee) = pos 0
answer_to fr m asks.Resume = pos 0
answer_to fr m asks.Sync = pos 0
answer_to fr m (asks.Result v) = pos 0
answer_to fr m (asks.End v) = pos 0
answer_to fr m (asks.Fault f) = pos 0

-- writes a cell, if there is one
abbrev pub put_result : Option ℕ → ℤ → Store Instance → Store Instance
put_result None v m = m
put_result (Some c) v m = put c v m

abbrev pub own_from : Source → Frame → ℕ → Instance
own_from p fr n = record { frame = fr.number; place = first_place p fr.callee + n }

-- the store after the event of a request; the end of a frame retires its own reducers
abbrev pub stored : Source → Frame → Memory → Ask → Store Instance
stored p fr m asks.Begin = m.store
stored p fr m (asks.Read x) = m.store
stored p fr m (asks.Write x v) = put (cell_at fr x) v m.store
stored p fr m (asks.Create r) = clear same_instance r.kind (reducer_at fr r) m.store
stored p fr m (asks.Update r v) = update same_instance r.kind (reducer_at fr r) v m.store
stored p fr m (asks.Set r v) = set same_instance r.kind (reducer_at fr r) v m.store
stored p fr m (asks.Value r) = m.store
stored p fr m (asks.Print v) = print v m.store
stored p fr m (asks.Invoke how callee) = m.store
stored p fr m asks.Resume = m.store
stored p fr m asks.Sync = m.store
stored p fr m (asks.Result v) = put_result fr.result v m.store
stored p fr m (asks.End v) = clear_all same_instance (own_from p fr) 0 (own_reducers p fr.callee) m.store
stored p fr m (asks.Fault f) = m.store

abbrev pub invocation : Invocation → ℕ → Event
invocation Call n = events.Call n
invocation Spawn n = events.Spawn n

abbrev pub result_written : Option ℕ → ℤ → Event
result_written None v = events.Write 0 v
result_written (Some c) v = events.Write c v

-- the event of a request, with numbers in place of names
abbrev pub event_of : Frame → Memory → Ask → Event
event_of fr m asks.Begin = events.Begin fr.number
event_of fr m (asks.Read x) = events.Read (cell_at fr x) (m.store.cells (cell_at fr x))
event_of fr m (asks.Write x v) = events.Write (cell_at fr x) v
event_of fr m (asks.Create r) = events.Create (reducer_at fr r)
event_of fr m (asks.Update r v) = events.Update (reducer_at fr r) v
event_of fr m (asks.Set r v) = events.Set (reducer_at fr r) v
event_of fr m (asks.Value r) = events.Value (reducer_at fr r) (number_at r.kind (reducer_at fr r) m.store)
event_of fr m (asks.Print v) = events.Print v
event_of fr m (asks.Invoke how callee) = invocation how (suc m.frames)
event_of fr m asks.Resume = events.Resume fr.number
event_of fr m asks.Sync = events.Sync
event_of fr m (asks.Result v) = result_written fr.result v
event_of fr m (asks.End v) = events.End
event_of fr m (asks.Fault f) = events.End

-- the fault instead of one more event, if any
abbrev pub full : Memory → Option Fault
full m = if nat_eq m.room 0 then Some TooManyEvents else None

-- The fault instead of one more frame, if any. The limit of events is checked first, then frames,
-- then cells.
abbrev pub crowded : Source → Callee → Memory → Option Fault
crowded p callee m =
    if nat_eq m.room 0 then Some TooManyEvents
    else (if nat_lt m.frames MAX_FRAMES then (if nat_lt MAX_CELLS (m.cells + cells_of p callee) then Some TooManyCells else None) else Some TooManyFrames)

-- the fault instead of the event of a request, if any
abbrev pub refused : Source → Memory → Ask → Option Fault
refused p m asks.Begin = full m
refused p m (asks.Read x) = full m
refused p m (asks.Write x v) = full m
refused p m (asks.Create r) = full m
refused p m (asks.Update r v) = full m
refused p m (asks.Set r v) = full m
refused p m (asks.Value r) = full m
refused p m (asks.Print v) = full m
refused p m (asks.Invoke how callee) = crowded p callee m
refused p m asks.Resume = full m
refused p m asks.Sync = full m
refused p m (asks.Result v) = full m
refused p m (asks.End v) = full m
refused p m (asks.Fault f) = Some f

-- a request after whose event the frame continues at once
abbrev pub IsInner : Ask → Type 0
IsInner asks.Begin = Unit {0}
IsInner (asks.Read x) = Unit {0}
IsInner (asks.Write x v) = Unit {0}
IsInner (asks.Create r) = Unit {0}
IsInner (asks.Update r v) = Unit {0}
IsInner (asks.Set r v) = Unit {0}
IsInner (asks.Value r) = Unit {0}
IsInner (asks.Print v) = Unit {0}
IsInner (asks.Invoke how callee) = ⊥
IsInner asks.Resume = Unit {0}
IsInner asks.Sync = Unit {0}
IsInner (asks.Result v) = Unit {0}
IsInner (asks.End v) = ⊥
IsInner (asks.Fault f) = ⊥

-- how a frame ends: with a value, the ticks left and the memory then, or the run is stopped by a
-- fault
pub data Ending : Type 0 where
  Finished : (value : ℤ) (left : ℕ) (memory : Memory) → Ending
  Stopped : (fault : Fault) → Ending

module _ (p : Source) (inputs : List ℤ) where
  -- The run of a frame after this history of answers, over this memory: its transcript, the events
  -- of it and its children, and how it ends. `start` is the number of ticks that were left when the
  -- frame began, less those that other frames have used since.
  pub data Serial : (frame : Frame) (start : ℕ) (history : List ℤ) → Memory → Transcript → List Event → Ending → Type 0 where
    Made : {fr : Frame} {start : ℕ} {history : List ℤ} {m : Memory} {r : Transcript} {es : List Event} {end : Ending} (k : Ask) (left : ℕ)
        → frame_asks p inputs fr.callee history start ≡ asks_for k left → IsInner k → refused p m k ≡ None
        → Serial fr start (history ++ answer_to fr m k ∷ []) (with_store m (stored p fr m k)) r es end
        → Serial fr start history m (act k (answer_to fr m k) r) (event_of fr m k ∷ es) end
    Ended : {fr : Frame} {start : ℕ} {history : List ℤ} {m : Memory} (v : ℤ) (left : ℕ)
        → frame_asks p inputs fr.callee history start ≡ asks_for (asks.End v) left → refused p m (asks.End v) ≡ None
        → Serial fr start history m (act (asks.End v) (pos 0) stop) (events.End ∷ []) (Finished v left (with_store m (stored p fr m (asks.End v))))
    Went : {fr : Frame} {start : ℕ} {history : List ℤ} {m : Memory} {u r : Transcript} {es es' : List Event} {end : Ending}
        (how : Invocation) (callee : Callee) (left : ℕ) (v : ℤ) (left' : ℕ) (m' : Memory)
        → frame_asks p inputs fr.callee history start ≡ asks_for (asks.Invoke how callee) left → refused p m (asks.Invoke how callee) ≡ None
        → Serial (next_frame p fr.scope m callee) left [] (begun p callee (counted m)) u es (Finished v left' m')
        → Serial fr (left' + (start - left)) (history ++ pos 0 ∷ []) m' r es' end
        → Serial fr start history m (child how callee u r) (invocation how (suc m.frames) ∷ (es ++ es')) end
    Broke : {fr : Frame} {start : ℕ} {history : List ℤ} {m : Memory} {u : Transcript} {es : List Event} (how : Invocation) (callee : Callee) (left : ℕ) (f : Fault)
        → frame_asks p inputs fr.callee history start ≡ asks_for (asks.Invoke how callee) left → refused p m (asks.Invoke how callee) ≡ None
        → Serial (next_frame p fr.scope m callee) left [] (begun p callee (counted m)) u es (Stopped f)
        → Serial fr start history m (child how callee u stop) (invocation how (suc m.frames) ∷ es) (Stopped f)
    Refused : {fr : Frame} {start : ℕ} {history : List ℤ} {m : Memory} (k : Ask) (left : ℕ) (f : Fault)
        → frame_asks p inputs fr.callee history start ≡ asks_for k left → refused p m k ≡ Some f
        → Serial fr start history m stop [] (Stopped f)

  -- the memory when a program begins: global cells have their opening values, and no frame has
  -- begun
  abbrev pub before_root : ℕ → Memory
  before_root room = record { store = opening p.openings; frames = 0; cells = length p.openings; room = room }

  abbrev pub root_frame : Frame
  root_frame = next_frame p [] (before_root 0) callees.Root

  abbrev pub conclusion_of : Ending → Conclusion
  conclusion_of (Finished v left m) = Leaves (outcome_of global_reducer p v m.store)
  conclusion_of (Stopped f) = StopsBy f

  -- the serial run of a program on these inputs, within the given ticks and events
  abbrev pub IsSerialRunWithin : ℕ → ℕ → Transcript → List Event → Conclusion → Type 0
  IsSerialRunWithin ticks room r es c =
      (end : Ending) × Serial root_frame ticks [] (begun p callees.Root (before_root room)) r es end × (c ≡ conclusion_of end)

  abbrev pub IsSerialRun : Transcript → List Event → Conclusion → Type 0
  IsSerialRun = IsSerialRunWithin MAX_TICKS MAX_EVENTS
