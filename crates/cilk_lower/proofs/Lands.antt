-- Facts about the instruction at a place.
use Rattle.std.proofs.Common.{◌≡◌, ℕ, List, Some}
use Rattle.std.specs.Prelude.{slice_get}
use Rattle.cilk_lower.specs.declared.code.Instr.{Instr}
use Rattle.cilk_lower.specs.Code.{Lands, JumpsLand}

pub lands_there : (code : List Instr) (place : ℕ) (i : Instr) → JumpsLand code → slice_get code place ≡ Some i → Lands code place i
lands_there code place i h e = h place i e
