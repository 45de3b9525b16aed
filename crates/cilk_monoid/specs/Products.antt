-- Products of several values, and all ways to bracket them.
use Rattle.std.specs.Prelude.{ℤ, List, [], ◌∷◌, ◌++◌, map}
use Rattle.cilk_monoid.specs.Laws.{MonoidStructure}

-- the product of the values in order; the unit if there are none
abbrev pub product : {V : Type 0} → MonoidStructure V → List V → V
product M [] = M.unit
product M (v ∷ vs) = M.combine v (product M vs)

-- the product of one update with each number, in order
abbrev pub product_of_updates : {V : Type 0} → MonoidStructure V → List ℤ → V
product_of_updates M xs = product M (map M.single xs)

-- values in order with brackets: a binary tree with a value or nothing at each leaf
pub data Grouping (V : Type 0) : Type 0 where
  Empty : Grouping V
  One : (value : V) → Grouping V
  Both : (left right : Grouping V) → Grouping V

-- the values in a grouping, from left to right
abbrev pub values_in : {V : Type 0} → Grouping V → List V
values_in Empty = []
values_in (One v) = v ∷ []
values_in (Both l r) = values_in l ++ values_in r

-- the product in the order of the brackets
abbrev pub product_by : {V : Type 0} → MonoidStructure V → Grouping V → V
product_by M Empty = M.unit
product_by M (One v) = v
product_by M (Both l r) = M.combine (product_by M l) (product_by M r)
