-- The cursor that a machine keeps of a frame between two of its events.
use Rattle.std.specs.Prelude.{◌≡◌, ◌≤◌, ◌-◌, ◌+◌, ℕ, suc, ℤ, false, List, [], ◌∷◌, ◌++◌, Some}
use Rattle.cilk_types.specs.declared.limits.TheConstants.{MAX_TICKS}
use Rattle.cilk_program.specs.declared.ask.Ask as language
use Rattle.cilk_program.specs.Syntax.{Source}
use Rattle.cilk_lower.specs.Code.{CodeView}
use Rattle.cilk_frames.specs.Cursor.{CursorView}
use Rattle.cilk_frames.specs.declared.cursor.Answer.{Answer}
use Rattle.cilk_frames.specs.Following.{Fits, GoesOn, HasAnswer, Stands, word_in}
use Rattle.cilk_determinacy.specs.Runs.{Deed}
use Rattle.cilk_determinacy.specs.Machine.{started}
use Rattle.cilk_determinacy.specs.Costs.{TickTotal, cost}
use Rattle.cilk_determinacy.specs.FrameEnvs.{FrameEnv}
use Rattle.cilk_determinacy.specs.FrameEnvMachine.{answer_of, answers_of, has_ended, next, taken, costs, named_ask}

-- A frame has made an event, and its cursor hasn't received the answer yet. The cursor is before
-- that answer, and `took` is the number of ticks that the frame had used up to that event.
pub record IsTold (code : CodeView) (p : Source) (inputs : List ℤ) (w : FrameEnv) (deeds : List (Deed FrameEnv)) (c : CursorView) (answer : Answer) (took : ℕ) : Type 0 where
  pub past : List (Deed FrameEnv)
  pub last : Deed FrameEnv
  pub deeds_are : deeds ≡ past ++ last ∷ []
  pub stands : Stands code inputs p w.callee c (answers_of past) took
  pub fits : Fits c.owed answer
  pub answers : word_in answer ≡ answer_of last
  pub took_is : took ≡ taken p inputs w past
  pub small : took ≤ MAX_TICKS

-- The frame's next ask is k, by names. Its ticks are those that the step used, and the cursor is
-- then at the end of the history.
pub record IsNext (code : CodeView) (p : Source) (inputs : List ℤ) (w : FrameEnv) (deeds : List (Deed FrameEnv)) (k : language.Ask) (c : CursorView) (took took' : ℕ) : Type 0 where
  pub asks : next p inputs w deeds ≡ Some (named_ask p w (suc (started deeds)) k)
  pub ticks : cost (costs p inputs) TickTotal w deeds (named_ask p w (suc (started deeds)) k) ≡ took' - took
  pub more : took ≤ took'
  pub took_is : took' ≡ taken p inputs w deeds
  pub small : took' ≤ MAX_TICKS
  pub stands : HasAnswer k → Stands code inputs p w.callee c (answers_of deeds) took'

-- A cursor that continues with the answer, and with the ticks of a run that its frame hasn't used,
-- comes to the frame's next ask.
abbrev pub NextIsNamed : Source → List ℤ → Type 0
NextIsNamed p inputs =
    (code : CodeView) (w : FrameEnv) (deeds : List (Deed FrameEnv)) (c c' : CursorView) (answer : Answer) (took left : ℕ) (k : language.Ask) (told : IsTold code p inputs w deeds c answer took) → has_ended deeds ≡ false
    → GoesOn code inputs c answer (MAX_TICKS - took) k c' left p w.callee (answers_of told.past) took → IsNext code p inputs w deeds k c' took (took + ((MAX_TICKS - took) - left))
