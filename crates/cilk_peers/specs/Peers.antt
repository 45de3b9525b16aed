-- Peers of strands (Lee and Schardl 2015, "Efficiently detecting races in Cilk programs that use
-- reducer hyperobjects"), and their classes.
use Rattle.std.specs.Prelude.{ℕ, ◌+◌, ◌-◌, ◌↔◌, List, [], ◌∷◌, ◌++◌, slice_index}
use Rattle.cilk_tree.specs.Tree.{Tree, strand, series, parallel, leaves}
use Rattle.cilk_tree.specs.Parallel.{Parallel}

-- the same strands are parallel to both
abbrev pub SamePeers : Tree → ℕ → ℕ → Type 0
SamePeers t u v = (w : ℕ) → Parallel t 1 u w ↔ Parallel t 1 v w

-- The leaves' classes in serial order, where leaves are counted from o. A leaf's class is the first
-- leaf of the lowest child of a P node that holds it, and c if there is no such child.
abbrev pub class_numbers : Tree → ℕ → ℕ → List ℕ
class_numbers (strand n) c o = c ∷ []
class_numbers (series a b) c o = class_numbers a c o ++ class_numbers b c (o + leaves a)
class_numbers (parallel a b) c o = class_numbers a o o ++ class_numbers b (o + leaves a) (o + leaves a)

-- the class of a strand
abbrev pub class : Tree → ℕ → ℕ
class t u = slice_index (class_numbers t 0 1) (u - 1)
