-- A cursor follows a behaviour.
use Rattle.std.specs.Prelude.{◌≡◌, ℕ, ◌+◌, ◌-◌, ◌≤◌, ℤ, pos, List, [], ◌∷◌, ◌++◌, Option, Some, None}
use Rattle.cilk_program.specs.declared.ask.Ask.{Ask}
use Rattle.cilk_program.specs.declared.ask.Ask.TheVariants as asks
use Rattle.cilk_program.specs.declared.ask.Callee.{Callee}
use Rattle.cilk_program.specs.Syntax.{Source}
use Rattle.cilk_program.specs.Behaviour.{Behaviour, asks_for, frame_asks}
use Rattle.cilk_lower.specs.declared.code.Owed.{Owed}
use Rattle.cilk_lower.specs.declared.code.Owed.TheVariants.{Nothing, Word}
use Rattle.cilk_lower.specs.Code.{CodeView}
use Rattle.cilk_lower.specs.Machine.{Given, Setting, MachineRun, Reaches, exec, received}
use Rattle.cilk_frames.specs.declared.cursor.Answer.{Answer}
use Rattle.cilk_frames.specs.declared.cursor.Answer.TheVariants.{Done, Value}
use Rattle.cilk_frames.specs.Cursor.{CursorView}

-- the answer has a value if and only if one is owed
abbrev pub Fits : Owed → Answer → Type 0
Fits Nothing Done = Unit {0}
Fits Nothing (Value v) = ⊥
Fits Word Done = ⊥
Fits Word (Value v) = Unit {0}

-- whether the answer to a request has a value
abbrev pub owed_for : Ask → Owed
owed_for asks.Begin = Nothing
owed_for (asks.Read x) = Word
owed_for (asks.Write x v) = Nothing
owed_for (asks.Create r) = Nothing
owed_for (asks.Update r v) = Nothing
owed_for (asks.Set r v) = Nothing
owed_for (asks.Value r) = Word
owed_for (asks.Print v) = Nothing
owed_for (asks.Invoke how callee) = Nothing
owed_for asks.Resume = Nothing
owed_for asks.Sync = Nothing
owed_for (asks.Result v) = Nothing
owed_for (asks.End v) = Nothing
owed_for (asks.Fault f) = Nothing

-- the answer in a history
abbrev pub word_in : Answer → ℤ
word_in Done = pos 0
word_in (Value v) = v

-- the request has an answer
abbrev pub HasAnswer : Ask → Type 0
HasAnswer asks.Begin = Unit {0}
HasAnswer (asks.Read x) = Unit {0}
HasAnswer (asks.Write x v) = Unit {0}
HasAnswer (asks.Create r) = Unit {0}
HasAnswer (asks.Update r v) = Unit {0}
HasAnswer (asks.Set r v) = Unit {0}
HasAnswer (asks.Value r) = Unit {0}
HasAnswer (asks.Print v) = Unit {0}
HasAnswer (asks.Invoke how callee) = Unit {0}
HasAnswer asks.Resume = Unit {0}
HasAnswer asks.Sync = Unit {0}
HasAnswer (asks.Result v) = Unit {0}
HasAnswer (asks.End v) = ⊥
HasAnswer (asks.Fault f) = ⊥

-- the callee of an invocation; none for other requests
abbrev pub child_of : Ask → Option Callee
child_of asks.Begin = None
child_of (asks.Read x) = None
child_of (asks.Write x v) = None
child_of (asks.Create r) = None
child_of (asks.Update r v) = None
child_of (asks.Set r v) = None
child_of (asks.Value r) = None
child_of (asks.Print v) = None
child_of (asks.Invoke how callee) = Some callee
child_of asks.Resume = None
child_of asks.Sync = None
child_of (asks.Result v) = None
child_of (asks.End v) = None
child_of (asks.Fault f) = None

-- the constants of a frame
abbrev pub setting_of : List ℤ → CodeView → Given → ℕ → Setting
setting_of inputs code given room = record { inputs = inputs; code = code; given = given; room = room }

abbrev pub setting_at : List ℤ → CodeView → CursorView → Setting
setting_at inputs code c = setting_of inputs code c.given c.room

-- the run of the machine from the cursor on, after an answer
abbrev pub resumes : CodeView → List ℤ → CursorView → ℕ → ℤ → List ℤ → ℕ → MachineRun
resumes code inputs c n a answers left = received c.room c.owed a c.stack (λ stack. exec (setting_at inputs code c) n c.place stack c.held answers left)

-- for any answers and ticks, the machine makes the next request of the behaviour
pub record Follows (code : CodeView) (inputs : List ℤ) (c : CursorView) (b : Behaviour) : Type 0 where
  pub by : (a : ℤ) (answers : List ℤ) (left : ℕ) → (n : ℕ) × (resumes code inputs c n a answers left ≡ Reaches (b (a ∷ answers) left))

-- the cursor follows some behaviour
abbrev pub Runs : CodeView → List ℤ → CursorView → Type 0
Runs code inputs c = (b : Behaviour) × Follows code inputs c b

-- the rest of a behaviour after an answer and `took` ticks
abbrev pub rest : Behaviour → ℤ → ℕ → Behaviour
rest b a took answers left = b (a ∷ answers) (left + took)

-- the next request is the behaviour's, and the cursor follows the rest of it
pub record Steps (code : CodeView) (inputs : List ℤ) (c : CursorView) (answer : Answer) (left : ℕ) (k : Ask) (c' : CursorView) (left' : ℕ) : Type 0 where
  pub less : left' ≤ left
  pub asks : (b : Behaviour) → Follows code inputs c b → b (word_in answer ∷ []) left ≡ asks_for k left'
  pub follows : (b : Behaviour) → Follows code inputs c b → HasAnswer k → Follows code inputs c' (rest b (word_in answer) (left - left'))
  pub owes : HasAnswer k → c'.owed ≡ owed_for k

-- the cursor is a frame of this callee, after this history of answers and `took` ticks
abbrev pub Stands : CodeView → List ℤ → Source → Callee → CursorView → List ℤ → ℕ → Type 0
Stands code inputs p callee c history took = Follows code inputs c (λ answers left. frame_asks p inputs callee (history ++ answers) (took + left))

-- the frame's next request after its history, and its cursor after that
pub record GoesOn (code : CodeView) (inputs : List ℤ) (c : CursorView) (answer : Answer) (left : ℕ) (k : Ask) (c' : CursorView) (left' : ℕ) (p : Source) (callee : Callee) (history : List ℤ) (took : ℕ) : Type 0 where
  pub less : left' ≤ left
  pub asks : frame_asks p inputs callee (history ++ word_in answer ∷ []) (took + left) ≡ asks_for k left'
  pub stands : HasAnswer k → Stands code inputs p callee c' (history ++ word_in answer ∷ []) (took + (left - left'))
  pub owes : HasAnswer k → c'.owed ≡ owed_for k

-- A frame of this callee that has made a request: what a caller knows of it between two steps. It
-- has this history of answers and has used `took` ticks. All frames together had `left` ticks at
-- its request.
pub record Asking (code : CodeView) (inputs : List ℤ) (p : Source) (callee : Callee) (c : CursorView) (history : List ℤ) (took : ℕ) (k : Ask) (left : ℕ) : Type 0 where
  pub asks : frame_asks p inputs callee history (took + left) ≡ asks_for k left
  pub stands : HasAnswer k → Stands code inputs p callee c history took
  pub owes : HasAnswer k → c.owed ≡ owed_for k
