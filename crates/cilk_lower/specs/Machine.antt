-- The stack machine that runs a program's instructions (McCarthy and Painter 1967).
use Rattle.std.specs.Prelude.{ℕ, zero, suc, ◌+◌, ◌-◌, ℤ, pos, ◌+ℤ◌, ◌-ℤ◌, neg_ℤ, int_lt, Bool, false, if◌then◌else◌, List, [], ◌∷◌, Option, Some, None, slice_get, length, nat_lt}
use Rattle.std.specs.Option.{is_some}
use Rattle.std.specs.Ordering.{int_eq}
use Rattle.cilk_types.specs.Input.{input_at, input_count}
use Rattle.cilk_types.specs.Word.{word_of}
use Rattle.cilk_types.specs.declared.fault.Fault.{Fault}
use Rattle.cilk_types.specs.declared.fault.Fault.TheVariants.{DivisionByZero, IndexOutside, InputOutside, TooManyEvents}
use Rattle.cilk_program.specs.declared.ask.Ask.{Ask}
use Rattle.cilk_program.specs.declared.ask.Ask.TheVariants as asks
use Rattle.cilk_program.specs.declared.ask.Callee.{Callee}
use Rattle.cilk_program.specs.declared.ask.Callee.TheVariants as callees
use Rattle.cilk_program.specs.declared.ask.LoopPart.{LoopPart}
use Rattle.cilk_types.specs.declared.invocation.Invocation.TheVariants.{Call, Spawn}
use Rattle.cilk_program.specs.declared.syntax.Place.TheVariants as places
use Rattle.cilk_program.specs.Behaviour.{OpenAsk, asks_for, middle, part}
use Rattle.cilk_program.specs.Operators.{is_zero, truth, truth_of, apply, change}
use Rattle.cilk_program.specs.Syntax.{element}
use Rattle.cilk_lower.specs.declared.code.Instr.{Instr}
use Rattle.cilk_lower.specs.declared.code.Instr.TheVariants as instrs
use Rattle.cilk_lower.specs.declared.code.Owed.{Owed}
use Rattle.cilk_lower.specs.declared.code.Owed.TheVariants.{Nothing, Word}
use Rattle.cilk_lower.specs.declared.code.Site.{Site}
use Rattle.cilk_lower.specs.Code.{CodeView, entry_of}

-- The data of a frame's callee that the machine uses: the words that it is given, its turns if it
-- runs a loop, and whether its caller takes the result.
pub record Given : Type 0 where
  pub words : List ℤ
  pub part : Option LoopPart
  pub takes : Bool

abbrev pub given_of : Callee → Given
given_of callees.Root = record { words = []; part = None; takes = false }
given_of (callees.Function c) = record { words = c.words; part = None; takes = is_some c.result }
given_of (callees.Loop l) = record { words = []; part = Some l; takes = false }

-- The constants of a frame: the input, the program's code, its given data, and its room for
-- operands.
pub record Setting : Type 0 where
  pub inputs : List ℤ
  pub code : CodeView
  pub given : Given
  pub room : ℕ

-- The effect of one instruction: the machine continues, waits for the answer to a request, makes
-- its last request, or is stuck. Its state is the place of the next instruction, the operands with
-- the top first, and the result that a `return` has kept.
pub data Move : Type 0 where
  Goes : (place : ℕ) (stack : List ℤ) (held : ℤ) (left : ℕ) → Move
  Waits : (ask : Ask) (owed : Owed) (place : ℕ) (stack : List ℤ) (held : ℤ) (left : ℕ) → Move
  Stops : (ask : Ask) (left : ℕ) → Move
  Stuck : Move

abbrev pub ticked : ℕ → (ℕ → Move) → Move
ticked zero go = Stops (asks.Fault TooManyEvents) 0
ticked (suc left) go = go left

abbrev pub on_top : List ℤ → (ℤ → List ℤ → Move) → Move
on_top [] go = Stuck
on_top (x ∷ stack) go = go x stack

abbrev pub on_two : List ℤ → (ℤ → ℤ → List ℤ → Move) → Move
on_two [] go = Stuck
on_two (y ∷ []) go = Stuck
on_two (y ∷ x ∷ stack) go = go x y stack

-- the operand stack is empty while a child runs, and while the frame waits for its children
abbrev pub on_none : List ℤ → Move → Move
on_none [] go = go
on_none (x ∷ stack) go = Stuck

-- pops n words, and puts them before `words` in the order of their pushes
abbrev pub on_words : ℕ → List ℤ → List ℤ → (List ℤ → List ℤ → Move) → Move
on_words zero words stack go = go words stack
on_words (suc n) words [] go = Stuck
on_words (suc n) words (x ∷ stack) go = on_words n (x ∷ words) stack go

abbrev pub on_some : {A : Type 0} → Option A → (A → Move) → Move
on_some None go = Stuck
on_some (Some x) go = go x

-- a check, with a fault if it fails
abbrev pub or_stops : {A : Type 0} → Fault → Option A → ℕ → (A → Move) → Move
or_stops f None left go = Stops (asks.Fault f) left
or_stops f (Some x) left go = go x

-- the request of a call site with these words
abbrev pub invoked : Site → List ℤ → Ask
invoked s words = asks.Invoke s.how (callees.Function (record { function = s.function; words = words; reducers = s.reducers; result = s.result }))

abbrev pub loop_called : ℕ → ℤ → ℤ → Ask
loop_called n low high = asks.Invoke Call (callees.Loop (record { number = n; up = 0; low = low; high = high }))

abbrev pub has_one : LoopPart → Bool
has_one l = int_eq (l.high -ℤ l.low) (pos 1)

-- the two halves of a loop's turns
abbrev pub first_half : LoopPart → Ask
first_half l = asks.Invoke Spawn (part l l.low (middle l.low l.high))

abbrev pub second_half : LoopPart → Ask
second_half l = asks.Invoke Call (part l (middle l.low l.high) l.high)

module _ (m : Setting) where
  abbrev pub move : Option Instr → ℕ → List ℤ → ℤ → ℕ → Move
  move None place stack held left = Stuck
  move (Some instrs.Tick) place stack held left = ticked left (Goes (place + 1) stack held)
  move (Some (instrs.Push n)) place stack held left = if nat_lt (length stack) m.room then ticked left (Goes (place + 1) (n ∷ stack) held) else Stuck
  move (Some (instrs.Load x)) place stack held left = ticked left (Waits (asks.Read x) Word (place + 1) stack held)
  move (Some (instrs.LoadElement a)) place stack held left =
      on_top stack (λ i rest. or_stops IndexOutside (element a i) left (λ x. ticked left (Waits (asks.Read x) Word (place + 1) rest held)))
  move (Some (instrs.LoadUncounted x)) place stack held left = Waits (asks.Read x) Word (place + 1) stack held left
  move (Some (instrs.FetchElement a)) place stack held left =
      on_top stack (λ i rest. or_stops IndexOutside (element a i) left (λ x. Waits (asks.Read x) Word (place + 1) (i ∷ rest) held left))
  move (Some (instrs.Store x)) place stack held left = on_top stack (λ v rest. Waits (asks.Write x v) Nothing (place + 1) rest held left)
  move (Some (instrs.StoreElement a)) place stack held left =
      on_two stack (λ i v rest. or_stops IndexOutside (element a i) left (λ x. Waits (asks.Write x v) Nothing (place + 1) rest held left))
  move (Some (instrs.Zero n)) place stack held left = Waits (asks.Write (places.Local 0 n) (pos 0)) Nothing (place + 1) stack held left
  move (Some (instrs.Combine op)) place stack held left = on_two stack (λ x y rest. Goes (place + 1) (change op x y ∷ rest) held left)
  move (Some (instrs.AddNumber n)) place stack held left = on_top stack (λ x rest. Goes (place + 1) (word_of (x +ℤ n) ∷ rest) held left)
  move (Some instrs.Negate) place stack held left = on_top stack (λ v rest. ticked left (Goes (place + 1) (word_of (neg_ℤ v) ∷ rest) held))
  move (Some instrs.Not) place stack held left = on_top stack (λ v rest. ticked left (Goes (place + 1) (truth_of (is_zero v) ∷ rest) held))
  move (Some (instrs.Apply op)) place stack held left =
      on_two stack (λ x y rest. or_stops DivisionByZero (apply op x y) left (λ v. ticked left (Goes (place + 1) (v ∷ rest) held)))
  move (Some (instrs.ApplyNumber op n)) place stack held left =
      on_top stack (λ x rest. ticked left (λ left. or_stops DivisionByZero (apply op x n) left (λ v. ticked left (Goes (place + 2) (v ∷ rest) held))))
  move (Some instrs.Truth) place stack held left = on_top stack (λ v rest. ticked left (Goes (place + 1) (truth v ∷ rest) held))
  move (Some (instrs.Value r)) place stack held left = ticked left (Waits (asks.Value r) Word (place + 1) stack held)
  move (Some instrs.Input) place stack held left =
      on_top stack (λ x rest. or_stops InputOutside (input_at m.inputs x) left (λ v. ticked left (Goes (place + 1) (v ∷ rest) held)))
  move (Some instrs.InputCount) place stack held left =
      if nat_lt (length stack) m.room then ticked left (Goes (place + 1) (input_count m.inputs ∷ stack) held) else Stuck
  move (Some instrs.Print) place stack held left = on_top stack (λ v rest. Waits (asks.Print v) Nothing (place + 1) rest held left)
  move (Some (instrs.Create r)) place stack held left = Waits (asks.Create r) Nothing (place + 1) stack held left
  move (Some (instrs.Update r)) place stack held left = on_top stack (λ v rest. Waits (asks.Update r v) Nothing (place + 1) rest held left)
  move (Some (instrs.Set r)) place stack held left = on_top stack (λ v rest. Waits (asks.Set r v) Nothing (place + 1) rest held left)
  move (Some (instrs.Word n)) place stack held left =
      on_some (slice_get m.given.words n) (λ v. Waits (asks.Write (places.Local 0 n) v) Nothing (place + 1) stack held left)
  move (Some instrs.Turn) place stack held left =
      on_some m.given.part (λ l. Waits (asks.Write (places.Local 0 0) l.low) Nothing (place + 1) stack held left)
  move (Some (instrs.Invoke k)) place stack held left =
      on_some (slice_get m.code.sites k) (λ s. on_words s.words [] stack (λ words rest. on_none rest (Waits (invoked s words) Nothing (place + 1) [] held left)))
  move (Some (instrs.CallLoop n)) place stack held left =
      on_two stack (λ low high rest. on_none rest (
      if int_lt low high then Waits (loop_called n low high) Nothing (place + 1) [] held left else Goes (place + 2) [] held left
      ))
  move (Some instrs.SpawnHalf) place stack held left =
      on_some m.given.part (λ l. on_none stack (Waits (first_half l) Nothing (place + 1) [] held left))
  move (Some instrs.CallHalf) place stack held left =
      on_some m.given.part (λ l. on_none stack (Waits (second_half l) Nothing (place + 1) [] held left))
  move (Some instrs.Resume) place stack held left = Waits asks.Resume Nothing (place + 1) stack held left
  move (Some (instrs.JumpIfZero n)) place stack held left =
      on_top stack (λ v rest. if is_zero v then Goes (place + 1 + n) rest held left else Goes (place + 1) rest held left)
  move (Some (instrs.SkipUnlessOne n)) place stack held left =
      on_some m.given.part (λ l. if has_one l then Goes (place + 1) stack held left else Goes (place + 1 + n) stack held left)
  move (Some (instrs.Jump n)) place stack held left = Goes (place + 1 + n) stack held left
  move (Some (instrs.JumpBack n)) place stack held left = Goes (place - n) stack held left
  move (Some (instrs.JumpBackUnlessZero n)) place stack held left =
      on_top stack (λ v rest. if is_zero v then Goes (place + 1) rest held left else Goes (place - n) rest held left)
  move (Some instrs.SetResult) place stack held left = on_top stack (λ v rest. Goes (place + 1) rest v left)
  move (Some instrs.Sync) place stack held left = on_none stack (Waits asks.Sync Nothing (place + 1) [] held left)
  move (Some instrs.GiveResult) place stack held left =
      if m.given.takes then Waits (asks.Result held) Nothing (place + 1) stack held left else Goes (place + 1) stack held left
  move (Some instrs.End) place stack held left = Stops (asks.End held) left

-- the result of a run of the machine: a request without an answer, no more steps allowed, or stuck
pub data MachineRun : Type 0 where
  Reaches : (asked : OpenAsk) → MachineRun
  Unfinished : MachineRun
  Fails : MachineRun

-- a place, a stack, the kept result, the answers to come and the ticks left
abbrev pub Next : Type 0
Next = ℕ → List ℤ → ℤ → List ℤ → ℕ → MachineRun

-- continues after an answer
abbrev pub received : ℕ → Owed → ℤ → List ℤ → (List ℤ → MachineRun) → MachineRun
received room Nothing a stack go = go stack
received room Word a stack go = if nat_lt (length stack) room then go (a ∷ stack) else Fails

abbrev pub waiting : ℕ → Ask → Owed → ℕ → List ℤ → ℤ → List ℤ → ℕ → Next → MachineRun
waiting room k owed place stack held [] left next = Reaches (asks_for k left)
waiting room k owed place stack held (a ∷ answers) left next = received room owed a stack (λ stack. next place stack held answers left)

abbrev pub going : ℕ → Move → List ℤ → Next → MachineRun
going room (Goes place stack held left) answers next = next place stack held answers left
going room (Waits k owed place stack held left) answers next = waiting room k owed place stack held answers left next
going room (Stops k left) answers next = Reaches (asks_for k left)
going room Stuck answers next = Fails

-- runs at most n instructions
abbrev pub exec : Setting → ℕ → Next
exec m zero place stack held answers left = Unfinished
exec m (suc n) place stack held answers left = going m.room (move m (slice_get m.code.instrs place) place stack held left) answers (exec m n)

-- the constants of a callee's frame
abbrev pub setting : List ℤ → CodeView → Callee → Setting
setting inputs c callee = record { inputs = inputs; code = c; given = given_of callee; room = (entry_of c callee).room }

-- a frame begins without operands, and with 0 as its result
abbrev pub exec_frame : List ℤ → CodeView → Callee → ℕ → List ℤ → ℕ → MachineRun
exec_frame inputs c callee n answers left = exec (setting inputs c callee) n (entry_of c callee).place [] (pos 0) answers left
