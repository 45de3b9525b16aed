-- The definitions in the contracts of `Hypermap`: a finite map from kinds and instances to the
-- values of their views (hypermaps: Frigo, Halpern, Leiserson and Lewin-Berlin 2009).
use Rattle.std.specs.Prelude.{◌≡◌, cond, ◌&&◌, Option, Some, None, ◌⊎◌}
use Rattle.cilk_types.specs.declared.event.Instance.{Instance}
use Rattle.cilk_monoid.specs.declared.kind.MonoidKind.{MonoidKind}
use Rattle.cilk_monoid.specs.declared.kind.MonoidKind.TheVariants.{Add, Least, Greatest, Append, Affine}
use Rattle.cilk_monoid.specs.Kinds.{structure_of, same_kind}
use Rattle.cilk_monoid.specs.Ranges.{same_instance}
use Rattle.cilk_monoid.specs.Values.{ViewValue}
use Rattle.cilk_monoid.specs.Views.{number_value, list_value, affine_value, list_room, unlimited}
use Rattle.cilk_hypermap.specs.declared.hypermap.Hypermap.{Hypermap}
use Rattle.cilk_hypermap.specs.Views.{or_unit, view_at, HasRoom, Fits, Loses}

-- P holds of each kind of monoid
abbrev pub EachKind : (MonoidKind → Type 0) → Type 0
EachKind P = P Add × P Least × P Greatest × P Append × P Affine

-- the value of the instance's view of this kind, if there is one
abbrev pub view_in : Hypermap → MonoidKind → Instance → Option ViewValue
view_in h Add i = view_at number_value h.sums i
view_in h Least i = view_at number_value h.least i
view_in h Greatest i = view_at number_value h.greatest i
view_in h Append i = view_at list_value h.lists i
view_in h Affine i = view_at affine_value h.maps i

-- the value of the view, where an absent view counts as the unit
abbrev pub value_in : Hypermap → MonoidKind → Instance → ViewValue
value_in h k i = or_unit (structure_of k) (view_in h k i)

-- the instance's view of this kind is w now, and the others are unchanged
abbrev pub ChangesIn : Hypermap → Hypermap → MonoidKind → Instance → Option ViewValue → Type 0
ChangesIn old new k i w = EachKind (λ k'. (j : Instance) → view_in new k' j ≡ cond (same_kind k k' && same_instance i j) w (view_in old k' j))

-- all views are unchanged
abbrev pub KeepsAll : Hypermap → Hypermap → Type 0
KeepsAll old new = EachKind (λ k. (j : Instance) → view_in new k j ≡ view_in old k j)

-- the values are unchanged, where an absent view counts as the unit
abbrev pub KeepsAllValues : Hypermap → Hypermap → Type 0
KeepsAllValues old new = EachKind (λ k. (j : Instance) → value_in new k j ≡ value_in old k j)

-- the instance has no view of any kind now, and the others are unchanged
abbrev pub Retires : Hypermap → Hypermap → Instance → Type 0
Retires old new i = EachKind (λ k. (j : Instance) → view_in new k j ≡ cond (same_instance i j) None (view_in old k j))

-- the views are unchanged, except that some needed instances without a view now have the unit
abbrev pub FillsAll : (MonoidKind → Instance → Type 0) → Hypermap → Hypermap → Type 0
FillsAll IsNeeded old new = EachKind (λ k. (j : Instance) → (view_in new k j ≡ view_in old k j)
    ⊎ ((view_in old k j ≡ None) × (view_in new k j ≡ Some (structure_of k).unit) × IsNeeded k j))

-- `left` has room for the views of `middle` and `right`, of each kind
abbrev pub HasRoomForAll : Hypermap → Hypermap → Hypermap → Type 0
HasRoomForAll left middle right = HasRoom (structure_of Add) number_value (λ _. unlimited) left.sums middle.sums right.sums
    × HasRoom (structure_of Least) number_value (λ _. unlimited) left.least middle.least right.least
    × HasRoom (structure_of Greatest) number_value (λ _. unlimited) left.greatest middle.greatest right.greatest
    × HasRoom (structure_of Append) list_value list_room left.lists middle.lists right.lists
    × HasRoom (structure_of Affine) affine_value (λ _. unlimited) left.maps middle.maps right.maps

-- the views of `right` fit in the room of `left`, of each kind
abbrev pub FitsAll : Hypermap → Hypermap → Type 0
FitsAll left right = Fits (structure_of Add) number_value (λ _. unlimited) left.sums right.sums
    × Fits (structure_of Least) number_value (λ _. unlimited) left.least right.least
    × Fits (structure_of Greatest) number_value (λ _. unlimited) left.greatest right.greatest
    × Fits (structure_of Append) list_value list_room left.lists right.lists
    × Fits (structure_of Affine) affine_value (λ _. unlimited) left.maps right.maps

-- `new` has the room of `left`, less at most the sizes of the views of `right`, of each kind
abbrev pub LosesAtMost : Hypermap → Hypermap → Hypermap → Type 0
LosesAtMost left right new = Loses (structure_of Add) number_value (λ _. unlimited) left.sums right.sums new.sums
    × Loses (structure_of Least) number_value (λ _. unlimited) left.least right.least new.least
    × Loses (structure_of Greatest) number_value (λ _. unlimited) left.greatest right.greatest new.greatest
    × Loses (structure_of Append) list_value list_room left.lists right.lists new.lists
    × Loses (structure_of Affine) affine_value (λ _. unlimited) left.maps right.maps new.maps
