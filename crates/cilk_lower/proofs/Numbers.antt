-- A number that is applied at once does what its two instructions do.
use Rattle.std.proofs.Common.{◌≡◌, ℕ, zero, suc, ◌+◌, ◌<◌, ℤ, List, ◌∷◌, length, Some, refl, ap, ◌∙◌, arith}
use Rattle.cilk_types.specs.declared.fault.Fault.TheVariants.{DivisionByZero}
use Rattle.cilk_program.specs.declared.syntax.Operator.{Operator}
use Rattle.cilk_program.specs.Operators.{apply}
use Rattle.cilk_lower.specs.declared.code.Instr.TheVariants as instrs
use Rattle.cilk_lower.specs.Machine.{Setting, Goes, Next, going, move, or_stops, ticked}
use Rattle.cilk_lower.proofs.Leads.{within}

module _ (m : Setting) (op : Operator) (n x : ℤ) (place : ℕ) (stack : List ℤ) (held : ℤ) (answers : List ℤ) (next : Next) where
  abbrev applies : Next
  applies place stack held answers left = going m.room (move m (Some (instrs.Apply op)) place stack held left) answers next

  pushed : (left : ℕ) → going m.room (ticked left (Goes (place + 1) (n ∷ x ∷ stack) held)) answers applies ≡ going m.room (move m (Some (instrs.ApplyNumber op n)) place (x ∷ stack) held left) answers next
  pushed zero = refl
  pushed (suc left) = let e : place + 1 + 1 ≡ place + 2 = omega arith in ap (λ p. going m.room (or_stops DivisionByZero (apply op x n) left (λ v. ticked left (Goes p (v ∷ stack) held))) answers next) e

  pub as_two : (left : ℕ) → length (x ∷ stack) < m.room → going m.room (move m (Some (instrs.Push n)) place (x ∷ stack) held left) answers applies ≡ going m.room (move m (Some (instrs.ApplyNumber op n)) place (x ∷ stack) held left) answers next
  as_two left fits = ap (λ move. going m.room move answers applies) (within (length (x ∷ stack)) m.room _ _ fits) ∙ pushed left
