-- The burdened span of a run (He, Leiserson and Leiserson 2010): its span if each spawn on the way
-- costs what a steal costs. A worker that takes the continuation of a spawn has to fetch it, and a
-- child whose parent was taken has to return to another worker. So the edge from a spawn to its
-- continuation, and the edge on which its child returns, have the weight of a burden; an event has
-- weight 1.
use Rattle.std.specs.Prelude.{◌≡◌, ℕ, ◌+◌, ◌-◌, ◌^◌, ◌≤◌, ◌⊎◌, min, max, List, ◌∷◌}
use Rattle.cilk_tree.specs.Tree.{Tree, strand, series, parallel}
use Rattle.cilk_tree.specs.Spans.{top, below}
use Rattle.cilk_tree.specs.declared.tree.Node.{Node}
use Rattle.cilk_tree.specs.declared.tree.Node.TheVariants.{Strand, Series, Parallel}

-- A path from the begin to the end of the run, with its weight. At a P node it goes through the child
-- and its return, or through the continuation.
abbrev pub IsPath : ℕ → Tree → ℕ → Type 0
IsPath burden (strand n) w = w ≡ n
IsPath burden (series a b) w = (m : ℕ) × (n : ℕ) × IsPath burden a m × IsPath burden b n × (w ≡ m + n)
IsPath burden (parallel a b) w = (n : ℕ) × (IsPath burden a n ⊎ IsPath burden b n) × (w ≡ n + burden)

-- the weight of the heaviest path
pub record IsBurdenedSpan (burden : ℕ) (t : Tree) (n : ℕ) : Type 0 where
  pub path : IsPath burden t n
  pub heaviest : (w : ℕ) → IsPath burden t w → w ≤ n

-- How the pass over a tree's nodes, from the last to the first, finds it: the stack after a node whose
-- two parts are on top.
abbrev pub joined : ℕ → Node → List ℕ → List ℕ
joined burden (Strand n) xs = n ∷ xs
joined burden (Series l) xs = min (top xs + top (below xs)) (2 ^ 64 - 1) ∷ below (below xs)
joined burden (Parallel l r) xs = min (max (top xs) (top (below xs)) + burden) (2 ^ 64 - 1) ∷ below (below xs)
