-- The value of a reducer's view, for all monoids.
use Rattle.std.specs.Prelude.{ℤ, List}

-- a number, a list of numbers, or the map y ↦ factor * y + offset
pub data ViewValue : Type 0 where
  Number : (number : ℤ) → ViewValue
  Elements : (elements : List ℤ) → ViewValue
  Map : (factor offset : ℤ) → ViewValue
