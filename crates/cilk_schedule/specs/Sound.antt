-- The invariant of a scheduler's state, by its own numbers, which makes the next choice safe.
use Rattle.std.specs.Prelude.{◌≡◌, ◌+◌, ◌-◌, ◌<◌, ◌≤◌, ℕ, ℤ, List, length, slice_get, Option, Some, None}
use Rattle.cilk_types.specs.declared.event.Instance.{Instance}
use Rattle.cilk_types.specs.declared.invocation.Invocation.{Invocation}
use Rattle.cilk_types.specs.declared.limits.TheConstants.{MAX_CELLS, MAX_EVENTS, MAX_FRAMES, MAX_TICKS}
use Rattle.cilk_program.specs.declared.ask.Ask.{Ask}
use Rattle.cilk_program.specs.declared.ask.Ask.TheVariants as asks
use Rattle.cilk_program.specs.declared.ask.Callee.{Callee}
use Rattle.cilk_program.specs.Inside.{AskIsThere}
use Rattle.cilk_program.specs.Scopes.{Scope}
use Rattle.cilk_program.specs.SerialRun.{Frame}
use Rattle.cilk_program.specs.Syntax.{Source}
use Rattle.cilk_program.specs.Visible.{CanInvoke}
use Rattle.cilk_lower.specs.Behaves.{IsCodeOf}
use Rattle.cilk_lower.specs.Code.{CodeView}
use Rattle.cilk_lower.specs.Layout.{function_frame}
use Rattle.cilk_lower.specs.declared.code.Owed.{Owed}
use Rattle.cilk_lower.specs.declared.code.Owed.TheVariants.{Nothing}
use Rattle.cilk_frames.specs.Cursor.{CursorView}
use Rattle.cilk_frames.specs.Following.{Fits, HasAnswer, Stands, owed_for}
use Rattle.cilk_frames.specs.Sight.{HasScope}
use Rattle.cilk_frames.specs.declared.activation.Activation.{Activation}
use Rattle.cilk_serial.specs.Scoped.{IsThere, Sees}
use Rattle.cilk_scheduler.specs.Asking.{refusal}
use Rattle.cilk_scheduler.specs.declared.scheduler.Scheduler.{Scheduler}
use Rattle.cilk_scheduler.specs.declared.frame_state.Due.{Due}
use Rattle.cilk_scheduler.specs.declared.frame_state.Due.TheVariants as due
use Rattle.cilk_scheduler.specs.declared.frame_state.FrameState.{FrameState}

-- the frame continues with what its cursor is owed
abbrev pub FitsDue : Owed → Due → Type 0
FitsDue o due.Begin = o ≡ Nothing
FitsDue o (due.Answer a) = Fits o a
FitsDue o due.Sync = o ≡ Nothing

-- the frame of an activation
abbrev pub frame_of : Callee → Scope ℕ Instance → Activation FrameState → Frame
frame_of callee scope a = record { callee = callee; number = a.number; scope = scope; result = a.result }

module _ (code : CodeView) (p : Source) (inputs : List ℤ) (frames : List (Activation FrameState)) (cells events : ℕ) where
  -- The body and the scope of a frame that hasn't ended. All cells and reducers in its sight exist.
  pub record Lives (a : Activation FrameState) : Type 0 where
    pub callee : Callee
    pub scope : Scope ℕ Instance
    pub history : List ℤ
    pub links : HasScope frames a scope
    pub sees : Sees p (frame_of callee scope a) cells

  -- Between two of its events, its cursor is at its history.
  pub record Rests (a : Activation FrameState) (c : CursorView) : Type 0 where
    pub lives : Lives a
    pub stands : let x = a.cursor in Stands code inputs p lives.callee c lives.history x.took
    pub fits : let x = a.cursor in FitsDue c.owed x.due

  -- The frame requests this, and what the request names exists.
  pub record Comes (a : Activation FrameState) (ask : Ask) : Type 0 where
    pub cursor : CursorView
    pub lives : Lives a
    pub here : let x = a.cursor in x.cursor ≡ Some cursor
    pub stands : HasAnswer ask → let x = a.cursor in Stands code inputs p lives.callee cursor lives.history x.took
    pub owes : HasAnswer ask → cursor.owed ≡ owed_for ask
    pub there : IsThere p (frame_of lives.callee lives.scope a) cells ask
    pub named : AskIsThere p lives.callee ask
    pub may : (how : Invocation) (child : Callee) → ask ≡ asks.Invoke how child → CanInvoke lives.callee child

  -- Its numbers are those of frames that exist, and are within limits.
  pub record Counts (a : Activation FrameState) : Type 0 where
    pub parent : let x = a.cursor in x.parent < length frames
    pub last : let x = a.cursor in x.last < length frames
    pub children : let x = a.cursor in x.children ≤ length frames
    pub strands : let x = a.cursor in x.strands ≤ events
    pub counted : let x = a.cursor in x.counted ≤ x.took
    pub took : let x = a.cursor in x.took ≤ MAX_TICKS
    pub low : a.first < 65536
    pub creates : (function : ℕ) → a.creator ≡ Some function → let f = function_frame code.layout function in length f.reducers ≤ 64

  -- The invariant of all frames: the one whose turn it is, if any, has made a request, and the
  -- others rest.
  pub record Sound (turn : Option ℕ) (ask : Ask) : Type 0 where
    pub counts : (k : ℕ) (a : Activation FrameState) → slice_get frames k ≡ Some a → Counts a
    pub rests : (k : ℕ) (a : Activation FrameState) (c : CursorView) → slice_get frames k ≡ Some a → (turn ≡ Some k → ⊥) → (let x = a.cursor in x.cursor ≡ Some c) → Rests a c
    pub comes : (k : ℕ) (a : Activation FrameState) → slice_get frames k ≡ Some a → turn ≡ Some k → Comes a ask
    pub few_frames : length frames ≤ MAX_FRAMES
    pub few_cells : cells ≤ MAX_CELLS
    pub few_events : events ≤ MAX_EVENTS
    pub opened : length p.openings ≤ cells

-- a change of frames that keeps them all sound, whosever turn it is
abbrev pub Keeps : List (Activation FrameState) → List (Activation FrameState) → Type 0
Keeps frames frames' =
    (code : CodeView) (p : Source) (inputs : List ℤ) (cells events : ℕ) (turn : Option ℕ) (ask : Ask) → Sound code p inputs frames cells events turn ask → Sound code p inputs frames' cells events turn ask

-- each frame has the same number of ticks, and the same number of them is counted
abbrev pub SameTicks : List (Activation FrameState) → List (Activation FrameState) → Type 0
SameTicks frames frames' =
    (k : ℕ) (a : Activation FrameState) → slice_get frames k ≡ Some a → (b : Activation FrameState) × (slice_get frames' k ≡ Some b) × (let x = a.cursor in let y = b.cursor in (y.took ≡ x.took) × (y.counted ≡ x.counted))

-- a change only of where frames are and of what is at their blocks
abbrev pub IsQuiet : List (Activation FrameState) → List (Activation FrameState) → Type 0
IsQuiet frames frames' = Keeps frames frames' × SameTicks frames frames' × (length frames' ≡ length frames)

-- the frame at place k requests this
abbrev pub HasCome : List (Activation FrameState) → ℕ → ℕ → Ask → Type 0
HasCome frames cells k ask = (code : CodeView) × (p : Source) × (inputs : List ℤ) × (events : ℕ) × Sound code p inputs frames cells events (Some k) ask

-- the event that the frame requested is made
abbrev pub Settles : List (Activation FrameState) → List (Activation FrameState) → ℕ → ℕ → ℕ → Ask → Type 0
Settles frames frames' cells cells' k ask =
    (code : CodeView) (p : Source) (inputs : List ℤ) (events : ℕ) → events + 1 ≤ MAX_EVENTS → Sound code p inputs frames cells events (Some k) ask → Sound code p inputs frames' cells' (events + 1) None asks.Begin

-- the scheduler between two choices
pub record Runs (code : CodeView) (inputs : List ℤ) (b : Scheduler) : Type 0 where
  pub program : Source
  pub is_code : IsCodeOf program code
  pub sound : let f = b.frames in let c = b.cells in let e = b.journal in Sound code program inputs f.items (length c.items) (length e.items) None asks.Begin
  pub ticks : b.ticks ≤ MAX_TICKS
  pub offers : let e = b.journal in b.offered ≤ length e.items

-- the frame at place k has made the current request
pub record IsAsked (code : CodeView) (inputs : List ℤ) (b : Scheduler) (k : ℕ) : Type 0 where
  pub program : Source
  pub is_code : IsCodeOf program code
  pub sound : let f = b.frames in let c = b.cells in let e = b.journal in Sound code program inputs f.items (length c.items) (length e.items) (Some k) b.asked
  pub here : let f = b.frames in k < length f.items
  pub few_ticks : b.ticks ≤ MAX_TICKS
  pub offers : let e = b.journal in b.offered ≤ length e.items

-- The current request causes no fault, with the ticks that the frame at place k has used.
pub record IsAccepted (code : CodeView) (b : Scheduler) (k : ℕ) : Type 0 where
  pub frame_state : Activation FrameState
  pub sits : let f = b.frames in slice_get f.items k ≡ Some frame_state
  pub accepted : let f = b.frames in let c = b.cells in let e = b.journal in let x = frame_state.cursor in refusal (b.ticks + (x.took - x.counted)) (length e.items) (length f.items) (length c.items) code.layout b.asked ≡ None

-- the frame at place k has made the current request, which causes no fault
pub record IsTurn (code : CodeView) (inputs : List ℤ) (b : Scheduler) (k : ℕ) : Type 0 where
  pub asked : IsAsked code inputs b k
  pub ticks : ℕ
  pub accepted : let f = b.frames in let c = b.cells in let e = b.journal in refusal ticks (length e.items) (length f.items) (length c.items) code.layout b.asked ≡ None

-- The requested event is made. It isn't in the journal yet.
pub record IsMade (code : CodeView) (inputs : List ℤ) (b : Scheduler) : Type 0 where
  pub program : Source
  pub is_code : IsCodeOf program code
  pub sound : let f = b.frames in let c = b.cells in let e = b.journal in Sound code program inputs f.items (length c.items) (length e.items + 1) None asks.Begin
  pub offers : let e = b.journal in b.offered ≤ length e.items + 1

-- The journal, the counted ticks and the stop are unchanged.
pub record SameRest (b b' : Scheduler) : Type 0 where
  pub journal : b'.journal ≡ b.journal
  pub ticks : b'.ticks ≡ b.ticks
  pub stopped : b'.stopped ≡ b.stopped

-- The workers, the journal, the outcome and the stop are unchanged.
pub record SameShown (b b' : Scheduler) : Type 0 where
  pub workers : b'.workers ≡ b.workers
  pub journal : b'.journal ≡ b.journal
  pub outcome : b'.outcome ≡ b.outcome
  pub stopped : b'.stopped ≡ b.stopped

-- the frame's event is made, and no ticks are used or counted
abbrev pub Makes : CodeView → Scheduler → Scheduler → ℕ → Type 0
Makes code b b' k = ((inputs : List ℤ) → IsTurn code inputs b k → IsMade code inputs b') × (let f = b.frames in let g = b'.frames in SameTicks f.items g.items)
