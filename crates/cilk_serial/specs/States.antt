-- The memory that the code's store, counters and events represent.
use Rattle.std.specs.Prelude.{◌≡◌, ℕ, suc, ◌+◌, ◌-◌, ◌<◌, ◌≤◌, ℤ, pos, [], ◌∷◌, ◌++◌, length, slice_index_or, Result, Ok, Err, IsErr, List}
use Rattle.cilk_types.specs.declared.event.Event.{Event}
use Rattle.cilk_types.specs.declared.event.Instance.{Instance}
use Rattle.cilk_types.specs.declared.limits.TheConstants.{MAX_EVENTS}
use Rattle.cilk_monoid.specs.declared.kind.MonoidKind.{MonoidKind}
use Rattle.cilk_hypermap.specs.Hypermap.{value_in}
use Rattle.cilk_hypermap.specs.declared.hypermap.Hypermap.{Hypermap}
use Rattle.cilk_program.specs.Syntax.{Source}
use Rattle.cilk_program.specs.Store.{Store, clear}
use Rattle.cilk_monoid.specs.Ranges.{same_instance}
use Rattle.cilk_program.specs.declared.ask.Ask.{Ask}
use Rattle.cilk_program.specs.declared.ask.Ask.TheVariants.{End, Fault, Invoke}
use Rattle.cilk_program.specs.declared.ask.Callee.TheVariants.{Loop}
use Rattle.cilk_program.specs.SerialRun.{Memory, Frame, IsInner, answer_to, event_of, invocation, stored, with_store}
use Rattle.cilk_types.specs.declared.invocation.Invocation.{Invocation}
use Rattle.cilk_frames.specs.declared.cursor.Answer.{Answer}
use Rattle.cilk_frames.specs.Following.{Fits, owed_for, word_in}
use Rattle.cilk_serial.specs.declared.answer.Told.{Told}
use Rattle.cilk_serial.specs.declared.answer.Told.TheVariants.{Goes, Turns, Ends, Stops}
use Rattle.cilk_serial.specs.declared.answer.Told.TheVariants as tolds
use Rattle.cilk_serial.specs.declared.state.Refused.{Refused}
use Rattle.cilk_serial.specs.declared.state.Refused.TheVariants as refuseds
use Rattle.cilk_serial.specs.declared.state.State.{State}

-- A state represents a memory. Cells that no frame has yet are 0, and an absent view counts as the
-- unit.
pub record Shows (s : State) (m : Memory) : Type 0 where
  pub cell : (n : ℕ) → m.store.cells n ≡ slice_index_or s.cells.items n (pos 0)
  pub view : (k : MonoidKind) (i : Instance) → m.store.views k i ≡ value_in s.views k i
  pub printed : m.store.output ≡ s.output.items
  pub frames : m.frames ≡ s.frames
  pub cells : m.cells ≡ length s.cells.items
  pub room : m.room ≡ MAX_EVENTS - length s.events.items

-- the code made one event, and then represents this memory
pub record EventMade (s s' : State) (event : Event) (m' : Memory) : Type 0 where
  pub shows : Shows s' m'
  pub events : s'.events.items ≡ s.events.items ++ event ∷ []

-- for any memory represented before: the answer `word`, the event made, and the store after it
abbrev pub Makes : State → State → (Memory → ℤ) → ℤ → (Memory → Event) → (Memory → Store Instance) → Type 0
Makes s s' word told event store = (m : Memory) → Shows s m → (told ≡ word m) × EventMade s s' (event m) (with_store m (store m))

-- the answer to a frame's request, its event, and the memory after it
pub record Answers (p : Source) (fr : Frame) (s s' : State) (k : Ask) (a : Answer) : Type 0 where
  pub fits : Fits (owed_for k) a
  pub makes : Makes s s' (λ m. answer_to fr m k) (word_in a) (λ m. event_of fr m k) (λ m. stored p fr m k)

-- whether there was room for one more event after these; where there wasn't, nothing has changed
abbrev pub Fills : {A V : Type 0} → Result A Refused → List Event → V → V → Type 0
Fills (Ok a) es v v' = length es < MAX_EVENTS
Fills (Err refuseds.Full) es v v' = (v' ≡ v) × (MAX_EVENTS ≤ length es)
Fills (Err refuseds.Memory) es v v' = Unit {0}

-- an answer as the effect of a request
abbrev pub Passes : {E : Type 0} → Result Answer Refused → Result Told E → Type 0
Passes (Ok a) r = r ≡ Ok (Goes a)
Passes (Err refuseds.Full) r = r ≡ Ok tolds.Full
Passes (Err refuseds.Memory) r = IsErr r

-- The effect of a request. The state changes only if the frame continues at once.
abbrev pub Tells : Source → Frame → State → State → Ask → Told → Type 0
Tells p fr s s' k (Goes a) = IsInner k × (length s.events.items < MAX_EVENTS) × Answers p fr s s' k a
Tells p fr s s' k tolds.Full = (s' ≡ s) × IsInner k × (MAX_EVENTS ≤ length s.events.items)
Tells p fr s s' k (Turns how part) = (s' ≡ s) × (k ≡ Invoke how (Loop part))
Tells p fr s s' k (Ends v) = (s' ≡ s) × (k ≡ End v)
Tells p fr s s' k (Stops f) = (s' ≡ s) × (k ≡ Fault f)

-- a reducer is retired, without an event
abbrev pub Retires : State → State → Instance → MonoidKind → Type 0
Retires s s' i k = (m : Memory) → Shows s m → Shows s' (record { store = clear same_instance k i m.store; frames = m.frames; cells = m.cells; room = m.room })

-- there are `count` more cells, and nothing else changes
pub record Extends (s s' : State) (count : ℕ) : Type 0 where
  pub cells : (n : ℕ) → slice_index_or s'.cells.items n (pos 0) ≡ slice_index_or s.cells.items n (pos 0)
  pub more : length s'.cells.items ≡ length s.cells.items + count
  pub views : s'.views ≡ s.views
  pub output : s'.output ≡ s.output
  pub events : s'.events ≡ s.events
  pub frames : s'.frames ≡ s.frames

-- an invocation, after which the child's cells exist
abbrev pub Begins : State → State → Invocation → ℕ → Type 0
Begins s s' how count = (m : Memory) → Shows s m → EventMade s s' (invocation how (suc m.frames)) (record { store = m.store; frames = suc m.frames; cells = m.cells + count; room = m.room - 1 })

-- the hypermap represents the views of a store, where an absent view counts as the unit
abbrev pub ShowsViews : Hypermap → Store Instance → Type 0
ShowsViews h m = (k : MonoidKind) (i : Instance) → m.views k i ≡ value_in h k i
