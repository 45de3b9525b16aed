-- One walk over a tree's nodes in preorder, with a stack of classes.
use Rattle.std.specs.Prelude.{ℕ, ◌+◌, ◌-◌, ◌^◌, min, List, [], ◌∷◌}
use Rattle.cilk_tree.specs.declared.tree.Node.{Node}
use Rattle.cilk_tree.specs.declared.tree.Node.TheVariants.{Strand, Series, Parallel}

-- the classes of the leaves among these nodes, whose first leaf is leaf o, given the classes
-- around the subtrees that the nodes make up
abbrev pub classes_from : List Node → ℕ → List ℕ → List ℕ
classes_from [] o cs = []
classes_from (n ∷ ns) o [] = []
classes_from (Strand e ∷ ns) o (c ∷ cs) = c ∷ classes_from ns (o + 1) cs
classes_from (Series l ∷ ns) o (c ∷ cs) = classes_from ns o (c ∷ c ∷ cs)
classes_from (Parallel l r ∷ ns) o (c ∷ cs) = classes_from ns o (o ∷ min (o + l) (2 ^ 32 - 1) ∷ cs)
