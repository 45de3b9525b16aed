-- How the pass over a tree's nodes, from the last to the first, finds the span.
use Rattle.std.specs.Prelude.{ℕ, ◌+◌, ◌-◌, ◌^◌, min, max, List, [], ◌∷◌}
use Rattle.cilk_tree.specs.declared.tree.Node.{Node}
use Rattle.cilk_tree.specs.declared.tree.Node.TheVariants.{Strand, Series, Parallel}

-- the number on top of the stack, and those below it
abbrev pub top : List ℕ → ℕ
top [] = 0
top (x ∷ xs) = x

abbrev pub below : List ℕ → List ℕ
below [] = []
below (x ∷ xs) = xs

-- the stack after a node whose two parts are on top
abbrev pub joined : Node → List ℕ → List ℕ
joined (Strand n) xs = n ∷ xs
joined (Series l) xs = min (top xs + top (below xs)) (2 ^ 64 - 1) ∷ below (below xs)
joined (Parallel l r) xs = max (top xs) (top (below xs)) ∷ below (below xs)

-- the spans of the trees that these nodes make up
abbrev pub spans_from : List Node → List ℕ
spans_from [] = []
spans_from (n ∷ ns) = joined n (spans_from ns)
