-- An operator is applied to the operand on top and a number, and the `Apply` that follows is skipped.
use Rattle.std.proofs.Common.{◌≡◌, ℕ, suc, ◌+◌, ℤ, ◌∷◌, Option, sym, ap, ◌∙◌, arith}
use Rattle.cilk_types.specs.declared.fault.Fault.TheVariants.{DivisionByZero}
use Rattle.cilk_program.specs.declared.syntax.Operator.{Operator}
use Rattle.cilk_program.specs.Operators.{apply}
use Rattle.cilk_lower.specs.Machine.{Move, Goes, on_top, or_stops, ticked}
use Rattle.cilk_frames.specs.Cursor.{CursorView}

pub applied : (c c2 : CursorView) (op : Operator) (n x : ℤ) (word : Option ℤ) (left left1 : ℕ) (m : Move) → c.stack ≡ x ∷ c2.stack → c2.place ≡ c.place + 1 → c2.held ≡ c.held → left ≡ suc left1 → word ≡ apply op x n
    → or_stops DivisionByZero word left1 (λ v. ticked left1 (Goes (c2.place + 1) (v ∷ c2.stack) c2.held)) ≡ m
    → on_top c.stack (λ x rest. ticked left (λ left. or_stops DivisionByZero (apply op x n) left (λ v. ticked left (Goes (c.place + 2) (v ∷ rest) c.held)))) ≡ m
applied c c2 op n x word left left1 m stack place held ticks value is =
    let after : c.place + 2 ≡ c2.place + 1 = omega (arith, place) in
    ap (λ s. on_top s (λ x rest. ticked left (λ left. or_stops DivisionByZero (apply op x n) left (λ v. ticked left (Goes (c.place + 2) (v ∷ rest) c.held))))) stack
    ∙ ap (λ l. ticked l (λ left. or_stops DivisionByZero (apply op x n) left (λ v. ticked left (Goes (c.place + 2) (v ∷ c2.stack) c.held)))) ticks
    ∙ ap (λ w. or_stops DivisionByZero w left1 (λ v. ticked left1 (Goes (c.place + 2) (v ∷ c2.stack) c.held))) (sym value)
    ∙ ap (λ p. or_stops DivisionByZero word left1 (λ v. ticked left1 (Goes p (v ∷ c2.stack) c.held))) after
    ∙ ap (λ h. or_stops DivisionByZero word left1 (λ v. ticked left1 (Goes (c2.place + 1) (v ∷ c2.stack) h))) (sym held)
    ∙ is
