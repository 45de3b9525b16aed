-- Two and three digits of a number.
use Rattle.std.specs.Prelude.{ℕ, ◌+◌, ◌/◌, ◌%◌, List, [], ◌∷◌}

-- the two digits of a number below 100, as text
abbrev pub pair_digits : ℕ → List ℕ
pair_digits n = (48 + n / 10) ∷ (48 + n % 10) ∷ []

-- the three digits of a number below 1000, as text
abbrev pub three_digits : ℕ → List ℕ
three_digits n = (48 + n / 100) ∷ pair_digits (n % 100)
