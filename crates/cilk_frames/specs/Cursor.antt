-- The state of a frame in its code.
use Rattle.std.specs.Prelude.{Bool, true, false, ℕ, ℤ, pos, List, [], Option, None, Some}
use Rattle.cilk_program.specs.declared.ask.Callee.{Callee}
use Rattle.cilk_program.specs.declared.ask.LoopPart.{LoopPart}
use Rattle.cilk_lower.specs.declared.code.EntryPoint.{EntryPoint}
use Rattle.cilk_lower.specs.declared.code.Owed.{Owed}
use Rattle.cilk_lower.specs.declared.code.Owed.TheVariants.{Nothing}
use Rattle.cilk_lower.specs.Code.{CodeView, entry_of}
use Rattle.cilk_lower.specs.Machine.{Given, given_of}

-- What the frame was given, the place of the next instruction, what the answer to the last request
-- pushes, the operands with the top first, the room for them, and the result so far.
pub record CursorView : Type 0 where
  pub given : Given
  pub place : ℕ
  pub owed : Owed
  pub stack : List ℤ
  pub room : ℕ
  pub held : ℤ

-- the turns of a loop that a frame runs, if it runs some
abbrev pub turns_if : Bool → LoopPart → Option LoopPart
turns_if true part = Some part
turns_if false part = None

-- a frame with these arguments, before it begins at an entry point
abbrev pub begins_at : EntryPoint → Given → CursorView
begins_at e given = record { given = given; place = e.place; owed = Nothing; stack = []; room = e.room; held = pos 0 }

-- the frame of a callee before it begins
abbrev pub first_of : CodeView → Callee → CursorView
first_of code callee = begins_at (entry_of code callee) (given_of callee)
