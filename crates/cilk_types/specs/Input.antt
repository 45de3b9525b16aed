-- The numbers that a program reads from its input.
use Rattle.std.specs.Prelude.{ℤ, pos, negsuc, List, length, slice_get, Option, None}

-- the input number at a place, counted from 0, or none outside the input
abbrev pub input_at : List ℤ → ℤ → Option ℤ
input_at inputs (pos n) = slice_get inputs n
input_at inputs (negsuc n) = None

-- the number of input numbers
abbrev pub input_count : List ℤ → ℤ
input_count inputs = pos (length inputs)
