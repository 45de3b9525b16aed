-- A tree under construction, as contracts see it.
use Rattle.std.specs.Prelude.{ℕ, List}
use Rattle.cilk_tree.specs.declared.tree.Node.{Node}
use Rattle.cilk_tree.specs.declared.building.StrandCounts.{StrandCounts}

-- the nodes, the last one first; the outer frames, the innermost first; and the fields of the same
-- name
pub record Built : Type 0 where
  pub nodes : List Node
  pub outer : List StrandCounts
  pub place : StrandCounts
  pub strands : ℕ
  pub events : ℕ
