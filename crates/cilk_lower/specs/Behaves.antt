-- The code of a program: it makes the requests of the program's frames, and has their layout.
use Rattle.std.specs.Prelude.{◌≡◌, ℕ, ℤ, IsTrue, List}
use Rattle.cilk_program.specs.declared.ask.Callee.{Callee}
use Rattle.cilk_program.specs.Behaviour.{ended, frame_gives}
use Rattle.cilk_program.specs.Inside.{CalleeIsFit}
use Rattle.cilk_program.specs.Syntax.{Source}
use Rattle.cilk_program.specs.WellNamed.{is_well_named}
use Rattle.cilk_lower.specs.Code.{CodeView}
use Rattle.cilk_lower.specs.Layout.{LaysOut}
use Rattle.cilk_lower.specs.Machine.{exec_frame, Reaches}

-- for any callee, inputs, answers and ticks
pub record Behaves (p : Source) (c : CodeView) : Type 0 where
  pub asks : (callee : Callee) → CalleeIsFit p callee → (inputs answers : List ℤ) (left : ℕ) → (n : ℕ) × (exec_frame inputs c callee n answers left ≡ Reaches (ended (frame_gives p inputs callee answers left)))

-- the code of a well-named program, with its layout
pub record IsCodeOf (p : Source) (code : CodeView) : Type 0 where
  pub well : IsTrue (is_well_named p)
  pub behaves : Behaves p code
  pub lays : LaysOut p code.layout

abbrev pub IsCode : CodeView → Type 0
IsCode code = (p : Source) × IsCodeOf p code
