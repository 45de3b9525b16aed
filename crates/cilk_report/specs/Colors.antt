-- The word of a command line that asks for colours.
use Rattle.std.specs.Prelude.{ℕ, Bool, List, codes}
use Rattle.std.specs.Str.{bytes_eq}

abbrev pub is_color : List ℕ → Bool
is_color word = bytes_eq word (codes "--color")
