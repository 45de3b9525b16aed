-- Stacks as lists, the top first.
use Rattle.std.specs.Prelude.{ℕ, nat_eq, if◌then◌else◌, List, [], ◌∷◌, length, Option, Some, None}

-- the item at a place counted from the bottom
abbrev pub from_bottom : {A : Type 0} → List A → ℕ → Option A
from_bottom [] n = None
from_bottom (x ∷ xs) n = if nat_eq n (length xs) then Some x else from_bottom xs n
