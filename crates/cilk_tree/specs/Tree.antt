-- The series-parallel tree of a run (Feng and Leiserson 1997, section 2), whose leaves are strands.
use Rattle.std.specs.Prelude.{ℕ, suc, ◌+◌, List, [], ◌∷◌, ◌++◌, Option, Some, None}
use Rattle.cilk_types.specs.declared.invocation.Invocation.{Invocation}
use Rattle.cilk_types.specs.declared.invocation.Invocation.TheVariants as invocations
use Rattle.cilk_tree.specs.Shape.{Shape, finish, act, sync, child}
use Rattle.cilk_tree.specs.declared.tree.Node.{Node}
use Rattle.cilk_tree.specs.declared.tree.Node.TheVariants as nodes

-- a strand of n events, an S node, or a P node
pub data Tree : Type 0 where
  strand : (events : ℕ) → Tree
  series : (left : Tree) (right : Tree) → Tree
  parallel : (left : Tree) (right : Tree) → Tree

-- a tree, in series with what comes later, if anything does
abbrev pub then_later : Tree → Option Tree → Tree
then_later t None = t
then_later t (Some later) = series t later

-- a child and the rest of its parent's block
abbrev pub beside : Invocation → Tree → Tree → Tree
beside invocations.Call inner rest = series inner rest
beside invocations.Spawn inner rest = parallel inner rest

-- the rest of a frame after a point: the number of events left in the strand, what follows the
-- strand in its block, and the later blocks
pub record Rest : Type 0 where
  pub events : ℕ
  pub after : Option Tree
  pub later : Option Tree

-- a block, or the rest of a block, whose first strand begins one event before this point
abbrev pub block : Rest → Tree
block x = then_later (strand (suc x.events)) x.after

-- blocks in series; the first begins one event before this point
abbrev pub blocks : Rest → Tree
blocks x = then_later (block x) x.later

-- A sync begins a block. A called child is in series with the strand that starts it and the rest of
-- the block. A spawned child is beside the rest of the block at a P node.
abbrev pub rest_of : Shape → Rest
rest_of finish = record { events = 1; after = None; later = None }
rest_of (act r) = let x = rest_of r in record { events = suc x.events; after = x.after; later = x.later }
rest_of (sync r) = record { events = 0; after = None; later = Some (blocks (rest_of r)) }
rest_of (child k u r) = let x = rest_of r in record { events = 1; after = Some (beside k (blocks (rest_of u)) (block x)); later = x.later }

-- the tree of a frame of this shape
abbrev pub tree : Shape → Tree
tree s = blocks (rest_of s)

-- the number of leaves of a tree
abbrev pub leaves : Tree → ℕ
leaves (strand n) = 1
leaves (series a b) = leaves a + leaves b
leaves (parallel a b) = leaves a + leaves b

-- the nodes of a tree in preorder
abbrev pub preorder : Tree → List Node
preorder (strand n) = nodes.Strand n ∷ []
preorder (series a b) = nodes.Series (leaves a) ∷ preorder a ++ preorder b
preorder (parallel a b) = nodes.Parallel (leaves a) (leaves b) ∷ preorder a ++ preorder b
