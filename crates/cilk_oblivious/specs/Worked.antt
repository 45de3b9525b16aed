-- Worked programs: a product of hidden numbers decides nothing, a branch on one does.
use Rattle.std.specs.Prelude.{ℕ, ℤ, pos, Bool, true, List, [], ◌∷◌}
use Rattle.cilk_types.specs.declared.event.Event.{Event}
use Rattle.cilk_types.specs.declared.event.Event.TheVariants as event
use Rattle.cilk_program.specs.declared.syntax.Operator.TheVariants.{Multiply}
use Rattle.cilk_program.specs.Syntax.{Source, Binary, Input, If, Print}
use Rattle.cilk_program.specs.Outcomes.{Conclusion}
use Rattle.cilk_program.specs.Worked.{leaving, num, returns, single}
use Rattle.cilk_oblivious.specs.Open.{IsObliviousRun}

abbrev pub all_hidden : ℕ → Bool
all_hidden n = true

-- int main() { print(input(0) * input(1)); return 0; }
abbrev pub product : Source
product = single [] 0 (Print (Binary Multiply (Input (num 0)) (Input (num 1))) ∷ returns (num 0) ∷ [])

abbrev pub ProductIsOblivious : Type 0
ProductIsOblivious = IsObliviousRun product (pos 3 ∷ pos 4 ∷ []) all_hidden (event.Begin 1 ∷ event.Print (pos 12) ∷ event.Sync ∷ event.End ∷ []) (leaving (pos 0) [] (pos 12 ∷ []))

-- int main() { if (input(0)) print(1); return 0; }
abbrev pub branch : Source
branch = single [] 0 (If (Input (num 0)) (Print (num 1)) ∷ returns (num 0) ∷ [])

abbrev pub BranchIsNotOblivious : Type 0
BranchIsNotOblivious = (es : List Event) (c : Conclusion) → IsObliviousRun branch (pos 1 ∷ []) all_hidden es c → ⊥
