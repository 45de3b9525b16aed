-- Numbers of the binary form, in LEB128: seven bits a byte, the lowest first, the highest bit set in all but the last byte.
use Rattle.std.specs.Prelude.{◌≡◌, ℕ, zero, suc, ◌+◌, ◌-◌, ◌*◌, ◌/◌, ◌%◌, ◌^◌, ◌<◌, ◌&&◌, List, [], ◌∷◌, ◌++◌, nat_lt, ◌==◌, if◌then◌else◌}

-- the numbers that bytes spell, up to the end, or to a number that is cut off or wrong
pub data Numbers : Type 0 where
  NoMore : Numbers
  Cut : Numbers
  Wrong : Numbers
  Next : ℕ → Numbers → Numbers

-- The numbers of these bytes after bytes of a number that make this value, where the next byte counts this often: 1 at its first one.
-- A number has at most five bytes, the last one of several isn't 0.
abbrev pub numbers_from : ℕ → ℕ → List ℕ → Numbers
numbers_from value unit [] = if unit == 1 then NoMore else Cut
numbers_from value unit (b ∷ bs) =
    if nat_lt b 128
    then (if b == 0 && nat_lt 1 unit then Wrong else Next (value + b * unit) (numbers_from 0 1 bs))
    else (if nat_lt 2097152 unit then Wrong else numbers_from (value + (b - 128) * unit) (128 * unit) bs)

abbrev pub numbers : List ℕ → Numbers
numbers bytes = numbers_from 0 1 bytes

-- the spelling of a number, in at most this many bytes
abbrev pub leb128_in : ℕ → ℕ → List ℕ
leb128_in zero n = []
leb128_in (suc k) n = if nat_lt n 128 then n ∷ [] else (128 + n % 128) ∷ leb128_in k (n / 128)

-- the spelling of a number below 2^35
abbrev pub leb128 : ℕ → List ℕ
leb128 n = leb128_in 5 n

-- a number is read from its spelling
abbrev pub ReadsNumbers : Type 0
ReadsNumbers = (n : ℕ) (bytes : List ℕ) → n < 2 ^ 35 → numbers (leb128 n ++ bytes) ≡ Next n (numbers bytes)
