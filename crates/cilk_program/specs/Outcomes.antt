-- How a program ends.
use Rattle.std.specs.Prelude.{ℕ, zero, suc, ℤ, List, [], ◌∷◌, length}
use Rattle.cilk_types.specs.declared.fault.Fault.{Fault}
use Rattle.cilk_types.specs.declared.outcome.Final.{Final}
use Rattle.cilk_types.specs.declared.outcome.Outcome.{Outcome}
use Rattle.cilk_monoid.specs.declared.kind.MonoidKind.{MonoidKind}
use Rattle.cilk_monoid.specs.Kinds.{final_of}
use Rattle.cilk_program.specs.Syntax.{Source}
use Rattle.cilk_program.specs.Store.{Store}

-- with an outcome, or by a fault
pub data Conclusion : Type 0 where
  Leaves : (outcome : Outcome) → Conclusion
  StopsBy : (fault : Fault) → Conclusion

-- the values of n cells, from this one on
abbrev pub cells_from : ℕ → ℕ → (ℕ → ℤ) → List ℤ
cells_from from zero cells = []
cells_from from (suc n) cells = cells from ∷ cells_from (suc from) n cells

-- the last values of the global reducers with these monoids, from this one on
abbrev pub finals_from : {I : Type 0} → (ℕ → I) → ℕ → List MonoidKind → Store I → List Final
finals_from global n [] m = []
finals_from global n (k ∷ ks) m = final_of (m.views k (global n)) ∷ finals_from global (suc n) ks m

-- the outcome of a program that ended with this result
abbrev pub outcome_of : {I : Type 0} → (ℕ → I) → Source → ℤ → Store I → Outcome
outcome_of global p v m = record { result = v; globals = cells_from 0 (length p.openings) m.cells; output = m.output; reducers = finals_from global 0 p.reducers m }
