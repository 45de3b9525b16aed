-- The contents of a note.
use Rattle.std.specs.Prelude.{ℕ, ℤ, pos, ◌≤◌, Bool, true, false, length, Option, Some, None, option_map}
use Rattle.cilk_program.specs.declared.ask.Ask.{Ask}
use Rattle.cilk_program.specs.declared.ask.Ask.TheVariants as asks
use Rattle.cilk_program.specs.declared.ask.Callee.{Callee}
use Rattle.cilk_program.specs.declared.ask.Callee.TheVariants as callees
use Rattle.cilk_program.specs.declared.ask.FunctionCall.{FunctionCall}
use Rattle.cilk_frames.specs.AskSlot.{in_full}
use Rattle.cilk_frames.specs.declared.cursor.Answer.{Answer}
use Rattle.cilk_frames.specs.declared.cursor.Answer.TheVariants.{Done, Value}
use Rattle.cilk_helpers.specs.declared.called.Called.{Called}
use Rattle.cilk_helpers.specs.declared.called.Called.TheVariants as called
use Rattle.cilk_helpers.specs.declared.note.Asked.{Asked}
use Rattle.cilk_helpers.specs.declared.note.Asked.TheVariants as asked
use Rattle.cilk_helpers.specs.declared.note.Given.{Given}
use Rattle.cilk_helpers.specs.declared.note.Parts.{Parts}
use Rattle.cilk_helpers.specs.declared.note.Parts.TheVariants as parts

-- the call in a request
abbrev pub call_in : Given → FunctionCall
call_in g = record { function = g.function; words = g.words.items; reducers = g.reducers.items; result = g.result }

-- the callee in its contents
abbrev pub callee_in : Called → Callee
callee_in called.Root = callees.Root
callee_in (called.Function given) = callees.Function (call_in given.value)
callee_in (called.Loop part) = callees.Loop part

-- no turns of a loop, which no frame runs
abbrev pub nothing : Callee
nothing = callees.Loop (record { number = 0; up = 0; low = pos 0; high = pos 0 })

-- the request as an ask
abbrev pub ask_in : Asked → Ask
ask_in (asked.SmallAsk b) = in_full b
ask_in (asked.Function how given) = asks.Invoke how (callees.Function (call_in given.value))

-- the answer of a flag and a word
abbrev pub answer_of : Bool → ℤ → Answer
answer_of true word = Value word
answer_of false word = Done

-- the view of a note: the answer that a frame receives, its next ask, and the ticks left to it
pub record NoteView : Type 0 where
  pub told : Answer
  pub ask : Ask
  pub left : ℕ

abbrev pub note_of : Parts → NoteView
note_of (parts.SmallAsk is_word left word small_ask) = record { told = answer_of is_word word; ask = in_full small_ask; left = left }
note_of (parts.Function is_word how left word given) = record { told = answer_of is_word word; ask = asks.Invoke how (callees.Function (call_in given.value)); left = left }

-- the callee is none, or a call with more arguments than a function can have
abbrev pub IsTooMuch : Option Callee → Type 0
IsTooMuch None = Unit {0}
IsTooMuch (Some callees.Root) = ⊥
IsTooMuch (Some (callees.Function call)) = (length call.words ≤ 16) × (length call.reducers ≤ 16) → ⊥
IsTooMuch (Some (callees.Loop part)) = ⊥

-- the answer to an ask; none after an end or a fault, and none if its word is absent
abbrev pub answer_with : Ask → Option ℤ → Option Answer
answer_with asks.Begin word = Some Done
answer_with (asks.Read x) word = option_map (λ w. Value w) word
answer_with (asks.Write x v) word = Some Done
answer_with (asks.Create r) word = Some Done
answer_with (asks.Update r v) word = Some Done
answer_with (asks.Set r v) word = Some Done
answer_with (asks.Value r) word = option_map (λ w. Value w) word
answer_with (asks.Print v) word = Some Done
answer_with (asks.Invoke how callee) word = Some Done
answer_with asks.Resume word = Some Done
answer_with asks.Sync word = Some Done
answer_with (asks.Result v) word = Some Done
answer_with (asks.End v) word = None
answer_with (asks.Fault f) word = None
