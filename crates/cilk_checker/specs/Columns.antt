-- The columns of a run, and the first wrong place of a column.
use Rattle.std.specs.Prelude.{◌≡◌, ℕ, ◌+◌, ◌||◌, nat_lt, if◌then◌else◌, Option, Some, None, MatchOption}
use Rattle.cilk_tree.specs.Shape.{Shape, Spells}
use Rattle.cilk_tree.specs.Tree.{tree}
use Rattle.cilk_tree.specs.Hebrew.{hebrews}
use Rattle.cilk_peers.specs.Peers.{class_numbers}
use Rattle.cilk_cert_maker.specs.Frames.{frames_of, owners_of}
use Rattle.cilk_cert_maker.specs.Right.{IsLeast, IsNowhere}
use Rattle.cilk_checker.specs.declared.first.First.{First}
use Rattle.cilk_checker.specs.declared.right.Right.{Right}

-- these are the columns of a run of this shape
pub record HasColumns (s : Shape) (r : Right) : Type 0 where
  pub spells : Spells s r.trace
  pub frames : r.frames.items ≡ frames_of s
  pub owners : r.owners.items ≡ owners_of s
  pub hebrews : r.labels ≡ hebrews (tree s) 1
  pub classes : r.classes ≡ class_numbers (tree s) 0 1

-- the place of the first wrong item, from 1; the right column has `count` items
abbrev pub place_of : First → ℕ → Option ℕ
place_of f count = if f.differs || nat_lt f.agreed count then Some (f.agreed + 1) else None

-- the least place that has this property, or none if no place has it
abbrev pub IsFirstPlace : (ℕ → Type 0) → Option ℕ → Type 0
IsFirstPlace P found = MatchOption found (IsNowhere P) (λ k. IsLeast P k)
