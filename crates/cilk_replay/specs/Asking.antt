-- Requests of frames, and the events and answers that fit them.
use Rattle.std.specs.Prelude.{◌≡◌, ◌+◌, ◌-◌, ◌<◌, ◌≤◌, ℕ, suc, ℤ, List, length, Some}
use Rattle.cilk_types.specs.declared.event.Event.{Event}
use Rattle.cilk_types.specs.declared.event.Event.TheVariants as events
use Rattle.cilk_types.specs.declared.limits.TheConstants.{MAX_TICKS}
use Rattle.cilk_program.specs.declared.ask.Ask.{Ask}
use Rattle.cilk_program.specs.declared.ask.Callee.{Callee}
use Rattle.cilk_program.specs.Behaviour.{asks_for, frame_asks}
use Rattle.cilk_program.specs.SerialRun.{Transcript}
use Rattle.cilk_program.specs.Sources.{source}
use Rattle.cilk_program.specs.Syntax.{Source}
use Rattle.cilk_lower.specs.Code.{CodeView}
use Rattle.cilk_frames.specs.declared.cursor.Answer.{Answer}
use Rattle.cilk_frames.specs.declared.cursor.Answer.TheVariants.{Done, Value}
use Rattle.cilk_frames.specs.Following.{HasAnswer, Stands, owed_for}
use Rattle.cilk_tree.specs.declared.event_order.EventOrder.{EventOrder}
use Rattle.cilk_tree.specs.Runs.{IsAsked}
use Rattle.cilk_tree.specs.Word.{event, word_step, resume}
use Rattle.cilk_determinacy.specs.FrameEnvMachine.{asked_after}
use Rattle.cilk_determinacy.specs.FrameEnvs.{FrameEnv}
use Rattle.cilk_replay.specs.Points.{Point, IsEventOf}
use Rattle.cilk_replay.specs.declared.replay_frame.ReplayFrame.{ReplayFrame}
use Rattle.cilk_replay.specs.Replays.{ReplayValue, IsOfProgram, setting_of, point_at}

-- The next request of the current frame at a position: what its program requests after all answers
-- so far in the event order, with all the ticks of a run for itself.
pub record IsNextAsk (c : ReplayValue) (at : ℕ) (k : Ask) : Type 0 where
  pub run : Transcript
  pub of_program : IsOfProgram (setting_of c run)
  pub behind : ℕ
  pub place : suc behind ≡ at
  pub point : Point FrameEnv
  pub is : point_at (setting_of c run) behind ≡ Some point
  pub asks : k ≡ (asked_after (source c.program) c.inputs point.frame point.past).ask
  -- if it requests the order's event, that event is what the request makes: its kind, its cell or
  -- reducer by the run's numbers, and its value
  pub made : (let y = c.yard in IsAsked y.event_order at) → (here : Event) × (let y = c.yard in event y.event_order at ≡ Some here) × IsEventOf (source c.program) run point.frame k here

-- the answer has no value
abbrev pub IsDone : Answer → Type 0
IsDone Done = Unit {0}
IsDone (Value v) = ⊥

-- the answer is this value
abbrev pub Gives : ℤ → Answer → Type 0
Gives v Done = ⊥
Gives v (Value w) = w ≡ v

-- the answer to an event with which its frame continues
abbrev pub IsAnswerTo : Event → Answer → Type 0
IsAnswerTo (events.Begin f) a = IsDone a
IsAnswerTo (events.Spawn f) a = ⊥
IsAnswerTo (events.Call f) a = ⊥
IsAnswerTo (events.Resume f) a = IsDone a
IsAnswerTo events.Sync a = IsDone a
IsAnswerTo events.End a = ⊥
IsAnswerTo (events.Read c v) a = Gives v a
IsAnswerTo (events.Write c v) a = IsDone a
IsAnswerTo (events.Create i) a = IsDone a
IsAnswerTo (events.Update i v) a = IsDone a
IsAnswerTo (events.Set i v) a = IsDone a
IsAnswerTo (events.Value i v) a = Gives v a
IsAnswerTo (events.Print v) a = IsDone a

-- the current frame requests the event at a position, which isn't the last one
pub record Follows (s : EventOrder) (at : ℕ) (e : Event) : Type 0 where
  pub first : 1 ≤ at
  pub asked : IsAsked s at
  pub is : event s at ≡ Some e
  pub more : at < length s.events

-- the current frame requests an event with this answer
abbrev pub IsAnswered : EventOrder → ℕ → Answer → Type 0
IsAnswered s at a = (e : Event) × Follows s at e × IsAnswerTo e a

-- the current frame calls a child
abbrev pub Calls : EventOrder → ℕ → Type 0
Calls s at = (f : ℕ) × Follows s at (events.Call f)

-- the frame with this number begins right after
abbrev pub BeginsNext : EventOrder → ℕ → ℕ → Type 0
BeginsNext s at frame = event s (at + 1) ≡ Some (events.Begin frame)

-- the current frame spawns a child, and continues at `next`
abbrev pub Spawns : EventOrder → ℕ → ℕ → Type 0
Spawns s at next = ((f : ℕ) × Follows s at (events.Spawn f)) × (word_step s next ≡ resume at)

-- A frame of this callee, after these answers, has requested this: its cursor, and the ticks it
-- used.
pub record HasAsked (code : CodeView) (inputs : List ℤ) (p : Source) (callee : Callee) (history : List ℤ) (k : Ask) (l : ReplayFrame) : Type 0 where
  pub asks : frame_asks p inputs callee history MAX_TICKS ≡ asks_for k (MAX_TICKS - l.took)
  pub stands : HasAnswer k → Stands code inputs p callee l.cursor history l.took
  pub owes : HasAnswer k → let v = l.cursor in v.owed ≡ owed_for k
  pub small : l.took ≤ MAX_TICKS
