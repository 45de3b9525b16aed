-- The definitions in the contracts of `Views`: a finite map from instances to the values of their
-- views.
use Rattle.std.specs.Prelude.{◌≡◌, ℕ, ◌+◌, ◌≤◌, cond, List, [], Option, Some, None, IsSome, ◌⊎◌, Box}
use Rattle.std.specs.Option.{option_map, unwrap_or}
use Rattle.indexmap.specs.IndexMap.{IndexMap}
use Rattle.std.specs.Map.{lookup}
use Rattle.cilk_types.specs.declared.event.Instance.{Instance}
use Rattle.cilk_monoid.specs.Laws.{MonoidStructure}
use Rattle.cilk_monoid.specs.Ranges.{same_instance}
use Rattle.cilk_monoid.specs.Values.{ViewValue}
use Rattle.cilk_hypermap.specs.declared.views.Views.{Views}

-- the product of two views, where an absent one leaves the other unchanged
abbrev pub merged : MonoidStructure ViewValue → Option ViewValue → Option ViewValue → Option ViewValue
merged S None r = r
merged S (Some a) None = Some a
merged S (Some a) (Some b) = Some (S.combine a b)

-- the value of a view, where an absent view counts as the unit
abbrev pub or_unit : MonoidStructure ViewValue → Option ViewValue → ViewValue
or_unit S o = unwrap_or o S.unit

-- the ordered output
abbrev pub output : Instance
output = record { frame = 0; place = 0 }

-- the entries of a map that is made once it has one
abbrev pub entries_in : {K X S A : Type 0} → Option (Box (IndexMap K X S) A) → List (K × X)
entries_in None = []
entries_in (Some b) = b.value.entries

module _ {M V : Type 0} where
  -- the instances that have a view, each with that
  abbrev pub entries : Views M V → List (Instance × V)
  entries m = entries_in m.views

  -- the view of i, if there is one
  abbrev pub found : Views M V → Instance → Option V
  found m i = lookup (same_instance i) (entries m)

module _ {M V : Type 0} (value : V → ViewValue) where
  -- the value of the view of i, if there is one
  abbrev pub view_at : Views M V → Instance → Option ViewValue
  view_at m i = option_map value (found m i)

  -- the view at i is w now, and the others are unchanged
  abbrev pub ChangesAt : Views M V → Views M V → Instance → Option ViewValue → Type 0
  ChangesAt old new i w = (j : Instance) → view_at new j ≡ cond (same_instance i j) w (view_at old j)

  -- all views are unchanged
  abbrev pub KeepsViews : Views M V → Views M V → Type 0
  KeepsViews old new = (j : Instance) → view_at new j ≡ view_at old j

-- how much room the view of i has reserved, 0 where there is none
abbrev pub room_at : {M V : Type 0} → (V → ℕ) → Views M V → Instance → ℕ
room_at reserved m i = unwrap_or (option_map reserved (found m i)) 0

module _ {M V : Type 0} (S : MonoidStructure ViewValue) (value : V → ViewValue) where
  -- the value of the view of i, where an absent view counts as the unit
  abbrev pub value_at : Views M V → Instance → ViewValue
  value_at m i = or_unit S (view_at value m i)

  -- the room that the view of i needs as a right side, 0 where there is none
  abbrev pub size_at : Views M V → Instance → ℕ
  size_at m i = unwrap_or (option_map S.size (view_at value m i)) 0

  -- the views are unchanged, except that some needed instances without a view now have the unit
  abbrev pub FillsIn : (Instance → Type 0) → Views M V → Views M V → Type 0
  FillsIn IsNeeded old new = (j : Instance) → (view_at value new j ≡ view_at value old j)
      ⊎ ((view_at value old j ≡ None) × (view_at value new j ≡ Some S.unit) × IsNeeded j)

  -- the values are unchanged, where an absent view counts as the unit
  abbrev pub KeepsValues : Views M V → Views M V → Type 0
  KeepsValues old new = (j : Instance) → value_at new j ≡ value_at old j

  -- the views of `right` fit in the room of `left`
  abbrev pub Fits : (V → ℕ) → Views M V → Views M V → Type 0
  Fits reserved left right = (j : Instance) → size_at right j ≤ room_at reserved left j

  -- `new` has the room of `left`, less at most the sizes of the views of `right`
  abbrev pub Loses : (V → ℕ) → Views M V → Views M V → Views M V → Type 0
  Loses reserved left right new = (j : Instance) → room_at reserved left j ≤ room_at reserved new j + size_at right j

  -- `left` has a view wherever `middle` has one, with room for the views of `middle` and `right`;
  -- and `middle` has a view wherever `right` has one
  pub record HasRoom (reserved : V → ℕ) (left middle right : Views M V) : Type 0 where
    pub in_middle : (j : Instance) → IsSome (view_at value right j) → IsSome (view_at value middle j)
    pub in_left : (j : Instance) → IsSome (view_at value middle j) → IsSome (view_at value left j)
    pub room : (j : Instance) → size_at middle j + size_at right j ≤ room_at reserved left j
