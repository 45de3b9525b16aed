-- A tree of sums over a list of numbers, in one list: node i has the children 2i and 2i + 1, and
-- the numbers are the last half.
use Rattle.std.specs.Prelude.{◌≡◌, ◌+◌, ◌<◌, ℕ, List, length, get_or}

-- the second number is the first one, doubled any number of times
pub data Doubles : ℕ → ℕ → Type 0 where
  stays : (w : ℕ) → Doubles w w
  twice : (w n : ℕ) → Doubles (w + w) n → Doubles w n

-- node i is the sum of its two children
abbrev pub AddsUp : List ℕ → ℕ → Type 0
AddsUp nodes i = get_or nodes i 0 ≡ get_or nodes (i + i) 0 + get_or nodes (i + i + 1) 0

-- the tree over `count` numbers
pub record IsTree (nodes : List ℕ) (count : ℕ) : Type 0 where
  pub long : length nodes ≡ count + count
  pub doubled : 0 < count → Doubles 1 count
  pub sums : (i : ℕ) → 0 < i → i < count → AddsUp nodes i
