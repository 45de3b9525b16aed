-- A serial run, retold from the notes of its frames.
use Rattle.std.specs.Prelude.{◌≡◌, ℕ, ◌+◌, ◌-◌, ◌≤◌, ℤ, IsTrue, List, [], ◌∷◌, ◌++◌}
use Rattle.cilk_types.specs.declared.event.Event.TheVariants as events
use Rattle.cilk_types.specs.declared.invocation.Invocation.{Invocation}
use Rattle.cilk_types.specs.declared.limits.TheConstants.{MAX_TICKS}
use Rattle.cilk_monoid.specs.Ranges.{same_instance}
use Rattle.cilk_program.specs.declared.ask.Ask.{Ask}
use Rattle.cilk_program.specs.declared.ask.Ask.TheVariants as asks
use Rattle.cilk_program.specs.declared.ask.Callee.{Callee}
use Rattle.cilk_program.specs.Store.{clear_all}
use Rattle.cilk_program.specs.Syntax.{Source}
use Rattle.cilk_program.specs.SerialRun.{Memory, IsInner, cells_of, next_frame}
use Rattle.cilk_program.specs.WellNamed.{is_well_named}
use Rattle.cilk_lower.specs.Code.{CodeView}
use Rattle.cilk_program.specs.Ticks.{IsWithin}
use Rattle.cilk_frames.specs.declared.cursor.Answer.TheVariants.{Done}
use Rattle.cilk_frames.specs.Cursor.{CursorView}
use Rattle.cilk_serial.specs.declared.running.Running.{Running}
use Rattle.cilk_serial.specs.declared.state.State.{State}
use Rattle.cilk_serial.specs.Going.{Going, IsAllowed, HasEnded}
use Rattle.cilk_serial.specs.Scoped.{Activation, Frames, Parent, Scoped, kinds_of, own_of, waiting}
use Rattle.cilk_serial.specs.States.{Answers, Begins, Shows}
use Rattle.cilk_helpers.specs.Asked.{NoteView}
use Rattle.cilk_helpers.specs.Notes.{AreNotes, IsReplay}

-- the remaining notes of a frame, and the ticks left to its replay
pub record Held : Type 0 where
  pub mine : ℕ
  pub notes : List NoteView

-- These are the remaining notes of the frame, whose replay has at least as many ticks left as the
-- run.
pub record Holds (code : CodeView) (inputs : List ℤ) (left : ℕ) (a : Activation) (h : Held) : Type 0 where
  pub enough : left ≤ h.mine
  pub notes : AreNotes code inputs a.cursor h.mine h.notes

-- the same for each of these frames
abbrev pub HoldAll : CodeView → List ℤ → ℕ → List Activation → List Held → Type 0
HoldAll code inputs left [] [] = Unit {0}
HoldAll code inputs left (a ∷ list) (h ∷ all) = Holds code inputs left a h × HoldAll code inputs left list all
HoldAll code inputs left _ _ = ⊥

-- the run so far, with the remaining notes of the current frame and of the suspended ones
pub record Retold (code : CodeView) (p : Source) (inputs : List ℤ) (r : Running) (own : Held) (below : List Held) : Type 0 where
  pub going : Going code p inputs r
  pub holds : Holds code inputs r.left r.frames.top own
  pub waits : HoldAll code inputs r.left (waiting r.frames) below
  pub few : r.left ≤ MAX_TICKS

-- The note is taken from a frame with `mine` ticks; the run's ticks go from `left` to `left'`.
pub record IsTaken (left mine : ℕ) (n : NoteView) (left' : ℕ) : Type 0 where
  pub less : n.left ≤ mine
  pub spent : left' + (mine - n.left) ≡ left
  pub within : IsWithin n.ask

abbrev pub held : ℕ → List NoteView → Held
held mine ns = record { mine = mine; notes = ns }

-- the run with this cursor of the frame on top, this ask, and these ticks left
abbrev pub goes_to : State → Frames → CursorView → Ask → ℕ → Running
goes_to s frames c k left = record { state = s; frames = record frames { top = record frames.top { cursor = c } }; ask = k; left = left }

-- the state after a frame's end: one more event, and the frame's own reducers retired
pub record Closed (p : Source) (r : Running) (s' : State) : Type 0 where
  pub events : s'.events.items ≡ r.state.events.items ++ events.End ∷ []
  pub cleared : (m : Memory) → Shows r.state m
      → Shows s' (record { store = clear_all same_instance (own_of r.frames.top) 0 (kinds_of p r.frames.top.creator) m.store; frames = m.frames; cells = m.cells; room = m.room - 1 })

-- A serial run continues by the notes of its frames, if the store's answers are those in the notes.
pub record RunsAreRetold (code : CodeView) (p : Source) (inputs : List ℤ) : Type 0 where
  -- an event after which the frame continues
  pub inner : (r : Running) (s' : State) (mine : ℕ) (n : NoteView) (ns : List NoteView) (below : List Held) (left' : ℕ) (h : Retold code p inputs r (held mine (n ∷ ns)) below)
      → IsAllowed p r.state r.ask → IsInner r.ask → Answers p h.going.frame r.state s' r.ask n.told → IsTaken r.left mine n left'
      → (d : CursorView) × Retold code p inputs (goes_to s' r.frames d n.ask left') (held n.left ns) below
  -- a frame with a replay begins
  pub begins : (r : Running) (s' : State) (frames : Frames) (how : Invocation) (callee : Callee) (own : Held) (child : List NoteView) (below : List Held) (h : Retold code p inputs r own below)
      → IsTrue (is_well_named p) → IsAllowed p r.state r.ask → r.ask ≡ asks.Invoke how callee → Begins r.state s' how (cells_of p callee)
      → waiting frames ≡ r.frames.top ∷ waiting r.frames → (replay : IsReplay code p inputs callee child) → frames.top.cursor ≡ replay.cursor
      → ((q : Parent) → q.frame ≡ h.going.frame → Scoped p frames.top (next_frame p h.going.frame.scope h.going.memory callee) (q ∷ h.going.parents))
      → Retold code p inputs (record { state = s'; frames = frames; ask = asks.Begin; left = r.left }) (held MAX_TICKS child) (own ∷ below)
  -- a frame ends, and its parent continues
  pub returns : (r : Running) (s' : State) (v : ℤ) (frames : Frames) (own : Held) (mine : ℕ) (n : NoteView) (ns : List NoteView) (below : List Held) (left' : ℕ)
      → Retold code p inputs r own (held mine (n ∷ ns) ∷ below) → IsAllowed p r.state r.ask → r.ask ≡ asks.End v → Closed p r s'
      → waiting r.frames ≡ frames.top ∷ waiting frames → n.told ≡ Done → IsTaken r.left mine n left'
      → (d : CursorView) × Retold code p inputs (goes_to s' frames d n.ask left') (held n.left ns) below
  -- the first frame ends
  pub ends : (r : Running) (s' : State) (v : ℤ) (own : Held)
      → Retold code p inputs r own [] → IsAllowed p r.state r.ask → r.ask ≡ asks.End v → Closed p r s' → waiting r.frames ≡ [] → HasEnded p inputs s' v
