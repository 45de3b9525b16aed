-- The words after the first word of a line.
use Rattle.std.specs.Prelude.{ℕ, List, [], ◌∷◌, ◌++◌}

-- each word after a space
abbrev pub behind_spaces : List (List ℕ) → List ℕ
behind_spaces [] = []
behind_spaces (w ∷ ws) = 32 ∷ (w ++ behind_spaces ws)
