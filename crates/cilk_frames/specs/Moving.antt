-- The meaning of one executed instruction.
use Rattle.std.specs.Prelude.{◌≡◌, ℕ, suc, ◌+◌, ◌-◌, ◌*◌, ◌<◌, Bool, true, false, if◌then◌else◌, ℤ, List, [], ◌∷◌, length, slice_get}
use Rattle.cilk_lower.specs.declared.code.Instr.{Instr}
use Rattle.cilk_lower.specs.declared.code.Owed.{Owed}
use Rattle.cilk_lower.specs.declared.code.Owed.TheVariants.{Nothing, Word}
use Rattle.cilk_lower.specs.Code.{CodeView, ticks}
use Rattle.cilk_lower.specs.Machine.{Move, Goes, Waits, Stops, move, on_some, on_words, on_none, invoked}
use Rattle.cilk_frames.specs.declared.cursor.Answer.{Answer}
use Rattle.cilk_frames.specs.declared.cursor.Answer.TheVariants.{Done, Value}
use Rattle.cilk_frames.specs.declared.moves.Moved.{Moved}
use Rattle.cilk_frames.specs.declared.moves.Moved.TheVariants as did
use Rattle.cilk_frames.specs.AskSlot.{in_full}
use Rattle.cilk_frames.specs.Cursor.{CursorView}
use Rattle.cilk_frames.specs.Following.{setting_at}

-- the machine's move at the cursor
abbrev pub move_at : CodeView → List ℤ → CursorView → ℕ → Move
move_at code inputs c left = move (setting_at inputs code c) (slice_get code.instrs c.place) c.place c.stack c.held left

-- the invocation at a call site, whose words are still on the stack
abbrev pub invoking : CodeView → ℕ → CursorView → ℕ → Move
invoking code number c left = on_some (slice_get code.sites number) (λ s. on_words s.words [] c.stack (λ words rest. on_none rest (Waits (invoked s words) c.owed c.place [] c.held left)))

-- the machine's move that an executed instruction represents
abbrev pub moved : CodeView → Moved → CursorView → ℕ → Move
moved code did.Goes c left = Goes c.place c.stack c.held left
moved code (did.Waits b) c left = Waits (in_full b) c.owed c.place c.stack c.held left
moved code (did.Stops b) c left = Stops (in_full b) left
moved code (did.Invokes number) c left = invoking code number c left

abbrev pub IsGoing : Moved → Type 0
IsGoing did.Goes = Unit {0}
IsGoing (did.Waits b) = ⊥
IsGoing (did.Stops b) = ⊥
IsGoing (did.Invokes number) = ⊥

abbrev pub TakesTick : ℕ → Bool → ℕ → Type 0
TakesTick left true left' = left ≡ suc left'
TakesTick left false left' = (left ≡ 0) × (left' ≡ 0)

-- A measure that decreases with each instruction: first the ticks left, then the instructions up to
-- one that uses a tick.
abbrev pub effort : List Instr → ℕ → ℕ → ℕ
effort code place left = left * (length code + 2) + (if ticks (slice_get code place) then 0 else length code + 1 - place)

-- there is room for a word that is owed
abbrev pub RoomFor : Owed → List ℤ → ℕ → Type 0
RoomFor Nothing stack room = Unit {0}
RoomFor Word stack room = length stack < room

abbrev pub HasRoom : CursorView → Type 0
HasRoom c = RoomFor c.owed c.stack c.room

-- the cursor after an answer
abbrev pub told : CursorView → Answer → CursorView
told c Done = c
told c (Value v) = record c { stack = v ∷ c.stack }
