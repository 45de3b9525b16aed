-- The product of adjoining pieces, where an absent view counts as the unit.
use Rattle.std.specs.Prelude.{Option, option_map}
use Rattle.cilk_types.specs.declared.event.Instance.{Instance}
use Rattle.cilk_monoid.specs.declared.kind.MonoidKind.{MonoidKind}
use Rattle.cilk_monoid.specs.Kinds.{structure_of}
use Rattle.cilk_monoid.specs.Values.{ViewValue}
use Rattle.cilk_hypermap.specs.Hypermap.{value_in}
use Rattle.cilk_hypermap.specs.declared.hypermap.Hypermap.{Hypermap}
use Rattle.cilk_join.specs.Rows as rows

-- a product gives the view of each reducer
abbrev pub Product : Type 0
Product = MonoidKind → Instance → ViewValue

-- the product of no pieces
abbrev pub nothing : Product
nothing k i = let S = structure_of k in S.unit

-- the product of one piece
abbrev pub product : Hypermap → Product
product h k i = value_in h k i

-- the product of two, left first
abbrev pub times : Product → Product → Product
times a b k i = let S = structure_of k in S.combine (a k i) (b k i)

-- the product of a run of pieces, if there is a run
abbrev pub run_of : Option Hypermap → Option Product
run_of o = option_map product o

-- a piece between two runs, left first
abbrev pub between : Option Product → Product → Option Product → Product
between left x right = rows.between nothing times left x right
