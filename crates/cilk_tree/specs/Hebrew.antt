-- The second numbering of strands (Bender, Fineman, Gilbert and Leiserson 2004, section 2: the
-- Hebrew order).
use Rattle.std.specs.Prelude.{ℕ, ◌+◌, ◌-◌, List, [], ◌∷◌, ◌++◌, slice_index}
use Rattle.cilk_tree.specs.Tree.{Tree, strand, series, parallel, leaves}

-- the leaves' numbers in serial order, counted from h: right before left at P nodes, left before
-- right at S nodes
abbrev pub hebrews : Tree → ℕ → List ℕ
hebrews (strand n) h = h ∷ []
hebrews (series a b) h = hebrews a h ++ hebrews b (h + leaves a)
hebrews (parallel a b) h = hebrews a (h + leaves b) ++ hebrews b h

-- the Hebrew number of a strand
abbrev pub hebrew : Tree → ℕ → ℕ
hebrew t u = slice_index (hebrews t 1) (u - 1)
