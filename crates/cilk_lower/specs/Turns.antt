-- The code of a `for` while it is emitted.
use Rattle.std.specs.Prelude.{◌-◌, ℕ, List, [], ◌∷◌, ◌++◌, length, Option, Some, None, slice_set}
use Rattle.cilk_program.specs.Syntax.{Expression}
use Rattle.cilk_lower.specs.declared.code.Instr.{Instr}
use Rattle.cilk_lower.specs.declared.code.Instr.TheVariants as instrs
use Rattle.cilk_lower.specs.Code.{expr_code}

-- a condition, with a jump whose distance isn't known yet
abbrev pub test_code : Option Expression → List Instr
test_code None = []
test_code (Some e) = expr_code e ++ instrs.JumpIfZero 0 ∷ []

-- the condition again, and a jump back to the body
abbrev pub again : Expression → ℕ → List Instr → List Instr
again e start code = (code ++ expr_code e) ++ instrs.JumpBackUnlessZero (length (code ++ expr_code e) - start) ∷ []

-- Ends a turn whose body begins at `start`. The jump before the body then skips all code after it.
abbrev pub turned : Option Expression → ℕ → List Instr → List Instr
turned None start code = code ++ instrs.JumpBack (length code - start) ∷ []
turned (Some e) start code = slice_set (again e start code) (start - 1) (instrs.JumpIfZero (length (again e start code) - (start - 1) - 1))
