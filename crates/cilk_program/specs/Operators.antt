-- The values of operators.
use Rattle.std.specs.Prelude.{zero, suc, ℤ, pos, negsuc, ◌+ℤ◌, ◌-ℤ◌, ◌*ℤ◌, Bool, true, false, not, if◌then◌else◌, int_lt, Option, Some}
use Rattle.std.specs.Ordering.{int_eq}
use Rattle.cilk_types.specs.Word.{word_of, quotient, remainder}
use Rattle.cilk_program.specs.declared.syntax.Operator.{Operator}
use Rattle.cilk_program.specs.declared.syntax.Operator.TheVariants.{Add, Subtract, Multiply, Divide, Remainder, Less, LessEqual, Greater, GreaterEqual, Equal, NotEqual}
use Rattle.cilk_types.specs.declared.compound.Compound.{Compound}
use Rattle.cilk_types.specs.declared.compound.Compound.TheVariants as compounds

-- whether a value is 0, which is false as a condition
abbrev pub is_zero : ℤ → Bool
is_zero (pos zero) = true
is_zero (pos (suc n)) = false
is_zero (negsuc n) = false

-- 1 for true, 0 for false
abbrev pub truth_of : Bool → ℤ
truth_of b = if b then pos 1 else pos 0

-- 1 if the value isn't 0, else 0
abbrev pub truth : ℤ → ℤ
truth v = if is_zero v then pos 0 else pos 1

-- the value of an operator; none for a division by 0
abbrev pub apply : Operator → ℤ → ℤ → Option ℤ
apply Add x y = Some (word_of (x +ℤ y))
apply Subtract x y = Some (word_of (x -ℤ y))
apply Multiply x y = Some (word_of (x *ℤ y))
apply Divide x y = quotient x y
apply Remainder x y = remainder x y
apply Less x y = Some (truth_of (int_lt x y))
apply LessEqual x y = Some (truth_of (not (int_lt y x)))
apply Greater x y = Some (truth_of (int_lt y x))
apply GreaterEqual x y = Some (truth_of (not (int_lt x y)))
apply Equal x y = Some (truth_of (int_eq x y))
apply NotEqual x y = Some (truth_of (not (int_eq x y)))

-- the value of `+=`, `-=` and `*=`
abbrev pub change : Compound → ℤ → ℤ → ℤ
change compounds.Add x y = word_of (x +ℤ y)
change compounds.Subtract x y = word_of (x -ℤ y)
change compounds.Multiply x y = word_of (x *ℤ y)
