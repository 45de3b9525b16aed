-- A serial run in progress: every completion of the rest completes the whole.
use Rattle.std.specs.Prelude.{◌≡◌, ◌+◌, ◌≤◌, ℕ, suc, ℤ, pos, List, [], ◌∷◌, ◌++◌, length, All, None}
use Rattle.cilk_types.specs.declared.event.Event.{Event}
use Rattle.cilk_types.specs.declared.invocation.Invocation.{Invocation}
use Rattle.cilk_types.specs.declared.limits.TheConstants.{MAX_CELLS, MAX_EVENTS, MAX_TICKS}
use Rattle.cilk_program.specs.declared.ask.Ask.{Ask}
use Rattle.cilk_program.specs.declared.ask.Ask.TheVariants.{Begin}
use Rattle.cilk_program.specs.declared.ask.Callee.{Callee}
use Rattle.cilk_program.specs.declared.ask.Callee.TheVariants.{Root}
use Rattle.cilk_program.specs.Syntax.{Source}
use Rattle.cilk_program.specs.SerialRun.{Transcript, Frame, Memory, Ending, Finished, Stopped, Serial, root_frame, before_root, begun, refused}
use Rattle.cilk_lower.specs.Behaves.{Behaves}
use Rattle.cilk_lower.specs.Code.{CodeView}
use Rattle.cilk_lower.specs.declared.code.Owed.TheVariants.{Nothing}
use Rattle.cilk_frames.specs.Following.{Asking, Stands}
use Rattle.cilk_frames.specs.Cursor.{CursorView}
use Rattle.cilk_serial.specs.Scoped.{Activation, Frames}
use Rattle.cilk_serial.specs.declared.running.Halt.{Halt}
use Rattle.cilk_serial.specs.declared.running.Halt.TheVariants as halts
use Rattle.cilk_serial.specs.declared.running.Running.{Running}
use Rattle.cilk_serial.specs.declared.running.Step.{Step}
use Rattle.cilk_serial.specs.declared.running.Step.TheVariants as steps
use Rattle.cilk_serial.specs.declared.serial_run.Stage.{Stage}
use Rattle.cilk_serial.specs.declared.serial_run.Stage.TheVariants as stages
use Rattle.cilk_serial.specs.declared.state.State.{State}
use Rattle.cilk_serial.specs.Ran.{StopsAfter}
use Rattle.cilk_serial.specs.Scoped.{Parent, Scoped, Sees, waiting}
use Rattle.cilk_serial.specs.SoFar.{BeginsNoFrame, begun_in}
use Rattle.cilk_serial.specs.States.{Begins, Shows}

-- the root's frame had this run, with these events, these callees and this end
pub record Whole (p : Source) (inputs : List ℤ) (events : List Event) (callees : List Callee) (end : Ending) : Type 0 where
  pub run : Transcript
  pub begins : begun_in run ≡ callees
  pub serial : Serial p inputs (root_frame p inputs) MAX_TICKS [] (begun p Root (before_root p inputs MAX_EVENTS)) run events end

-- Suppose the running frame has ended in this way, after these events and callees. If no frame
-- waits, the whole run has ended. Otherwise the topmost waiting frame continues, or a fault stops
-- them all.
abbrev pub Completes : Source → List ℤ → List Parent → List Event → List Callee → Ending → Type 0
Completes p inputs [] events callees end = Whole p inputs events callees end
Completes p inputs (q ∷ qs) events callees (Finished v left m) =
    (r : Transcript) (es : List Event) (end : Ending) → Serial p inputs q.frame (left + q.took) (q.history ++ pos 0 ∷ []) m r es end → Completes p inputs qs (events ++ es) (callees ++ begun_in r) end
Completes p inputs (q ∷ qs) events callees (Stopped f) = Completes p inputs qs events callees (Stopped f)

-- an activation that waits for a child
pub record Waiting (code : CodeView) (p : Source) (inputs : List ℤ) (cells : ℕ) (a : Activation) (q : Parent) (parents : List Parent) : Type 0 where
  pub stands : Stands code inputs p q.frame.callee a.cursor q.history q.took
  pub owes : a.cursor.owed ≡ Nothing
  pub scoped : Scoped p a q.frame parents
  pub sees : Sees p q.frame cells

abbrev pub Wait : CodeView → Source → List ℤ → ℕ → List Activation → List Parent → Type 0
Wait code p inputs cells [] [] = Unit {0}
Wait code p inputs cells [] (q ∷ qs) = ⊥
Wait code p inputs cells (a ∷ list) [] = ⊥
Wait code p inputs cells (a ∷ list) (q ∷ qs) = Waiting code p inputs cells a q qs × Wait code p inputs cells list qs

-- the run so far
pub record Going (code : CodeView) (p : Source) (inputs : List ℤ) (running : Running) : Type 0 where
  pub frame : Frame
  pub history : List ℤ
  pub took : ℕ
  pub memory : Memory
  pub parents : List Parent
  pub callees : List Callee
  pub shows : Shows running.state memory
  pub asking : Asking code inputs p frame.callee running.frames.top.cursor history took running.ask running.left
  pub completes : (r : Transcript) (es : List Event) (end : Ending) → Serial p inputs frame (took + running.left) history memory r es end
      → Completes p inputs parents (running.state.events.items ++ es) (callees ++ begun_in r) end
  pub numbered : suc (length callees) ≡ memory.frames
  pub scoped : Scoped p running.frames.top frame parents
  pub sees : Sees p frame memory.cells
  pub wait : Wait code p inputs memory.cells (waiting running.frames) parents
  pub opened : length p.openings ≤ memory.cells
  pub counted : length running.state.events.items ≤ MAX_EVENTS
  pub small : memory.cells ≤ MAX_CELLS
  pub behaves : Behaves p code

-- the event of an invocation is made, the child with these cells runs, and the frame that invoked
-- it waits
pub record HasBegun (r r' : Running) (how : Invocation) (cells : ℕ) (child : Activation) : Type 0 where
  pub state : Begins r.state r'.state how cells
  pub top : r'.frames.top ≡ child
  pub below : r'.frames.below.items ≡ r.frames.below.items ++ r.frames.top ∷ []
  pub ask : r'.ask ≡ Begin
  pub left : r'.left ≡ r.left

-- the same, unless memory was refused
abbrev pub HasBegunIf : Step → Running → Running → Invocation → ℕ → Activation → Type 0
HasBegunIf steps.Made r r' how cells child = HasBegun r r' how cells child
HasBegunIf steps.NoMemory r r' how cells child = Unit {0}
HasBegunIf (steps.Last v) r r' how cells child = ⊥
HasBegunIf (steps.Stops f) r r' how cells child = ⊥

-- the run has ended with this result
pub record HasEnded (p : Source) (inputs : List ℤ) (s : State) (v : ℤ) : Type 0 where
  pub left : ℕ
  pub memory : Memory
  pub callees : List Callee
  pub shows : Shows s memory
  pub opened : length p.openings ≤ memory.cells
  pub counted : length s.events.items ≤ MAX_EVENTS
  pub whole : Whole p inputs s.events.items callees (Finished v left memory)

-- no fault replaces the next event
abbrev pub IsAllowed : Source → State → Ask → Type 0
IsAllowed p s k = (m : Memory) → Shows s m → refused p m k ≡ None

-- one more event
abbrev pub IsLonger : State → State → Type 0
IsLonger s s' = (e : Event) × (s'.events.items ≡ s.events.items ++ e ∷ [])

-- more events, or none
abbrev pub IsLater : State → State → Type 0
IsLater s s' = (more : List Event) × (s'.events.items ≡ s.events.items ++ more)

-- more events, or none, and no frame begins with them
abbrev pub AddsNoFrame : State → State → Type 0
AddsNoFrame s s' = (more : List Event) × (s'.events.items ≡ s.events.items ++ more) × All BeginsNoFrame more

-- the result of a step
abbrev pub Progresses : CodeView → Source → List ℤ → Running → Step → Running → Type 0
Progresses code p inputs r steps.Made r' = Going code p inputs r' × IsLonger r.state r'.state
Progresses code p inputs r (steps.Last v) r' = HasEnded p inputs r'.state v × IsLonger r.state r'.state
Progresses code p inputs r (steps.Stops f) r' = (r' ≡ r) × StopsAfter p inputs r.state.events.items f
Progresses code p inputs r steps.NoMemory r' = Unit {0}

-- how a run halts
abbrev pub Halts : CodeView → Source → List ℤ → Running → Halt → Type 0
Halts code p inputs r (halts.Ended v) = HasEnded p inputs r.state v
Halts code p inputs r (halts.Stopped f) = Going code p inputs r × StopsAfter p inputs r.state.events.items f

-- the invariant of a run at each stage
abbrev pub Keeps : CodeView → Source → List ℤ → Running → Stage → Type 0
Keeps code p inputs r stages.Going = Going code p inputs r
Keeps code p inputs r (stages.Ended v) = HasEnded p inputs r.state v
Keeps code p inputs r stages.Failed = Unit {0}

-- the frames with another cursor of the running one
abbrev pub with_cursor : Frames → CursorView → Frames
with_cursor frames c = record frames { top = record frames.top { cursor = c } }

-- the run with this state and these frames, whose running one has this cursor and makes this request
abbrev pub run_of : State → Frames → CursorView → Ask → ℕ → Running
run_of state frames c k left = record { state = state; frames = with_cursor frames c; ask = k; left = left }
