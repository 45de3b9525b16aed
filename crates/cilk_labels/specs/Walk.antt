-- One walk over a tree's nodes in preorder, with a stack of the subtrees' first numbers.
use Rattle.std.specs.Prelude.{ℕ, ◌+◌, ◌-◌, ◌^◌, min, List, [], ◌∷◌}
use Rattle.cilk_tree.specs.declared.tree.Node.{Node}
use Rattle.cilk_tree.specs.declared.tree.Node.TheVariants.{Strand, Series, Parallel}

-- the Hebrew numbers of the leaves among these nodes, given the first numbers of the subtrees that
-- the nodes make up
abbrev pub numbers_from : List Node → List ℕ → List ℕ
numbers_from [] hs = []
numbers_from (n ∷ ns) [] = []
numbers_from (Strand e ∷ ns) (h ∷ hs) = h ∷ numbers_from ns hs
numbers_from (Series l ∷ ns) (h ∷ hs) = numbers_from ns (h ∷ min (h + l) (2 ^ 32 - 1) ∷ hs)
numbers_from (Parallel l r ∷ ns) (h ∷ hs) = numbers_from ns (min (h + r) (2 ^ 32 - 1) ∷ h ∷ hs)
