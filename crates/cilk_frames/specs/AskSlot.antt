-- Requests, with the invocation of a function stored apart.
use Rattle.std.specs.Prelude.{ℤ, List, [], Option, Some, None}
use Rattle.cilk_program.specs.declared.ask.Ask.{Ask}
use Rattle.cilk_program.specs.declared.ask.Ask.TheVariants as asks
use Rattle.cilk_program.specs.declared.ask.Callee.TheVariants as callees
use Rattle.cilk_program.specs.declared.ask.FunctionCall.{FunctionCall}
use Rattle.cilk_types.specs.declared.invocation.Invocation.{Invocation}
use Rattle.cilk_frames.specs.declared.small_ask.SmallAsk.{SmallAsk}
use Rattle.cilk_frames.specs.declared.small_ask.SmallAsk.TheVariants as small_ask

-- a small request as a request
abbrev pub in_full : SmallAsk → Ask
in_full small_ask.Begin = asks.Begin
in_full (small_ask.Read x) = asks.Read x
in_full (small_ask.Write x v) = asks.Write x v
in_full (small_ask.Create r) = asks.Create r
in_full (small_ask.Update r v) = asks.Update r v
in_full (small_ask.Set r v) = asks.Set r v
in_full (small_ask.Value r) = asks.Value r
in_full (small_ask.Print v) = asks.Print v
in_full (small_ask.Turns how l) = asks.Invoke how (callees.Loop l)
in_full small_ask.Resume = asks.Resume
in_full small_ask.Sync = asks.Sync
in_full (small_ask.Result v) = asks.Result v
in_full (small_ask.End v) = asks.End v
in_full (small_ask.Fault f) = asks.Fault f

-- the request that these parts make: without a small one, a function is invoked
abbrev pub ask_of : Option SmallAsk → Invocation → FunctionCall → Ask
ask_of (Some b) how call = in_full b
ask_of None how call = asks.Invoke how (callees.Function call)

-- the request invokes a function
abbrev pub IsFunctionCall : Ask → Type 0
IsFunctionCall (asks.Invoke how (callees.Function call)) = Unit {0}
IsFunctionCall k = ⊥

-- the words that an invoked function is given
abbrev pub words_in : Ask → List ℤ
words_in (asks.Invoke how (callees.Function call)) = call.words
words_in k = []
