-- Which strands may run in parallel, and which strands are before which (Feng and Leiserson 1997,
-- section 2).
use Rattle.std.specs.Prelude.{ℕ, ◌+◌, ◌<◌, ◌≤◌, ◌⊎◌}
use Rattle.cilk_tree.specs.Tree.{Tree, strand, series, parallel, leaves}

-- leaf u is in the tree whose leaves are counted from o
abbrev pub Holds : Tree → ℕ → ℕ → Type 0
Holds t o u = (o ≤ u) × (u < o + leaves t)

-- Two leaves of the tree, counted from o, are on the two sides of a P node, their lowest common
-- ancestor.
abbrev pub Parallel : Tree → ℕ → ℕ → ℕ → Type 0
Parallel (strand n) o u v = ⊥
Parallel (series a b) o u v = Parallel a o u v ⊎ Parallel b (o + leaves a) u v
Parallel (parallel a b) o u v =
    Parallel a o u v ⊎ Parallel b (o + leaves a) u v
    ⊎ (Holds a o u × Holds b (o + leaves a) v)
    ⊎ (Holds a o v × Holds b (o + leaves a) u)

-- leaf u is left of leaf v, and their lowest common ancestor is an S node
abbrev pub Before : Tree → ℕ → ℕ → ℕ → Type 0
Before (strand n) o u v = ⊥
Before (series a b) o u v = Before a o u v ⊎ Before b (o + leaves a) u v ⊎ (Holds a o u × Holds b (o + leaves a) v)
Before (parallel a b) o u v = Before a o u v ⊎ Before b (o + leaves a) u v
