-- Memory, reducers and output while a program runs.
use Rattle.std.specs.Prelude.{ℕ, zero, suc, ◌+◌, ℤ, pos, Bool, nat_eq, if◌then◌else◌, ◌&&◌, List, [], ◌∷◌, ◌++◌, slice_get, unwrap_or}
use Rattle.cilk_monoid.specs.declared.kind.MonoidKind.{MonoidKind}
use Rattle.cilk_monoid.specs.Kinds.{structure_of, same_kind}
use Rattle.cilk_monoid.specs.Values.{ViewValue}

-- The value of each cell by its number, the view of each reducer, and the printed numbers in order.
-- I is the type of reducers, and an absent view counts as the unit.
pub record Store (I : Type 0) : Type 0 where
  pub cells : ℕ → ℤ
  pub views : MonoidKind → I → ViewValue
  pub output : List ℤ

-- the store with these values of the global cells, without views or output
abbrev pub opening : {I : Type 0} → List ℤ → Store I
opening globals = record { cells = λ n. unwrap_or (slice_get globals n) (pos 0); views = λ k i. (structure_of k).unit; output = [] }

-- writes one cell
abbrev pub put : {I : Type 0} → ℕ → ℤ → Store I → Store I
put c v m = record m { cells = λ n. if nat_eq c n then v else m.cells n }

-- writes these values to cells, from this one on
abbrev pub put_all : {I : Type 0} → ℕ → List ℤ → Store I → Store I
put_all c [] m = m
put_all c (v ∷ vs) m = put_all (suc c) vs (put c v m)

-- prints one number
abbrev pub print : {I : Type 0} → ℤ → Store I → Store I
print v m = record m { output = m.output ++ v ∷ [] }

module _ {I : Type 0} (same : I → I → Bool) where
  -- sets the view of a reducer
  abbrev pub put_view : MonoidKind → I → ViewValue → Store I → Store I
  put_view k i v m = record m { views = λ k' j. if same_kind k k' && same i j then v else m.views k' j }

  -- the reducer has the unit as its view, as when it is created or retired
  abbrev pub clear : MonoidKind → I → Store I → Store I
  clear k i m = put_view k i ((structure_of k).unit) m

  -- the same for reducers with these monoids, from this one of a frame's own on
  abbrev pub clear_all : (ℕ → I) → ℕ → List MonoidKind → Store I → Store I
  clear_all own n [] m = m
  clear_all own n (k ∷ ks) m = clear_all own (suc n) ks (clear k (own n) m)

  -- combines a view with a number on the right
  abbrev pub update : MonoidKind → I → ℤ → Store I → Store I
  update k i x m = put_view k i ((structure_of k).combine (m.views k i) ((structure_of k).single x)) m

  -- replaces a view by that of a number alone
  abbrev pub set : MonoidKind → I → ℤ → Store I → Store I
  set k i x m = put_view k i ((structure_of k).single x) m

-- the number of a view
abbrev pub number_at : {I : Type 0} → MonoidKind → I → Store I → ℤ
number_at k i m = (structure_of k).number (m.views k i)
