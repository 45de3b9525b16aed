-- A program text has at most one meaning or one first fault.
use Rattle.std.specs.Prelude.{◌≡◌, ◌≢◌, ℕ, List}
use Rattle.cilk_checker.specs.Judging.{IsProgramFault, IsProgramText, Meant}
use Rattle.cilk_checker.specs.declared.fault.ProgramFault.{ProgramFault}
use Rattle.cilk_checker.specs.declared.fault.ProgramFault.TheVariants.{Memory}

-- at most one meaning, at most one first fault, and not both
pub record HasOneMeaning (text : List ℕ) : Type 0 where
  pub meanings : (m m' : Meant) → IsProgramText text m → IsProgramText text m' → m ≡ m'
  pub faults : (f f' : ProgramFault) → f ≢ Memory → f' ≢ Memory → IsProgramFault f text → IsProgramFault f' text
      → f ≡ f'
  pub apart : (m : Meant) (f : ProgramFault) → f ≢ Memory → IsProgramText text m → IsProgramFault f text → ⊥
