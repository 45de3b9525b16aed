-- The values of the five monoids' views, and their room.
use Rattle.std.specs.Prelude.{ℕ, ◌-◌, ◌^◌, vec_len, vec_capacity}
use Rattle.cilk_monoid.specs.declared.view.NumberView.{NumberView}
use Rattle.cilk_monoid.specs.declared.view.ListView.{ListView}
use Rattle.cilk_monoid.specs.declared.view.AffineView.{AffineView}
use Rattle.cilk_monoid.specs.Values.{ViewValue, Number, Elements, Map}

abbrev pub number_value : NumberView → ViewValue
number_value v = Number v.number

abbrev pub list_value : ListView → ViewValue
list_value v = Elements v.items.items

-- the number of elements that can be appended without allocating
abbrev pub list_room : ListView → ℕ
list_room v = vec_capacity v.items - vec_len v.items

abbrev pub affine_value : AffineView → ViewValue
affine_value v = Map v.factor v.offset

-- the room of a view whose products don't allocate: more than any size
abbrev pub unlimited : ℕ
unlimited = 2 ^ 64
