-- The views of the language that the free machine's views are, and that the machine multiplies them
-- as the monoids do.
use Rattle.std.specs.Prelude.{◌≡◌, ℤ, List, true}
use Rattle.cilk_types.specs.declared.event.Instance as numbered
use Rattle.cilk_monoid.specs.declared.kind.MonoidKind.{MonoidKind}
use Rattle.cilk_monoid.specs.Kinds.{structure_of, IsMember}
use Rattle.cilk_monoid.specs.Ranges.{ReducerEvent, Created, Updated, SetTo, Retired, after_event}
use Rattle.cilk_monoid.specs.Values.{ViewValue}
use Rattle.cilk_types.specs.Word.{IsWord}
use Rattle.cilk_determinacy.specs.Runs.{Instance, Output, has_instance, Event, Ends, Passes, Creates, Updates, Sets, Prints}
use Rattle.cilk_determinacy.specs.Monoids.{on_view}
use Rattle.cilk_determinacy.specs.Reducers.{View, value_of, views_of, kind_of, monoid_of}

-- The function v is the view x of kind k: x is a view of that kind, and v u is `combine u x` for
-- each view u of that kind.
pub record IsViewOf (k : MonoidKind) (v : View) (x : ViewValue) : Type 0 where
  pub member : IsMember k x
  pub multiplies : (u : ViewValue) → IsMember k u → v u ≡ (structure_of k).combine u x

-- The machine's event changes a view of reducer i as the monoid's event changes the same view of
-- reducer j.
abbrev pub LeavesSame : Instance → Event → numbered.Instance → ReducerEvent → Type 0
LeavesSame i e j e' = (v : View) (x : ViewValue) → IsViewOf (kind_of i) v x → IsViewOf (kind_of i) (on_view (monoid_of i) i e v) (after_event (structure_of (kind_of i)) j e' x)

-- The machine's views are views of the language, and their operations are those of the monoid of
-- their kind.
pub record AreMultiplied : Type 0 where
  -- the empty view is the unit
  pub unit : (k : MonoidKind) → IsViewOf k ((views_of k).unit) ((structure_of k).unit)
  -- the view of one word
  pub single : (k : MonoidKind) (n : ℤ) → IsWord n → IsViewOf k ((views_of k).single n) ((structure_of k).single n)
  -- two views in serial order are their product
  pub join : (k : MonoidKind) (v w : View) (x y : ViewValue) → IsViewOf k v x → IsViewOf k w y → IsViewOf k ((views_of k).combine v w) ((structure_of k).combine x y)
  -- the value of a view, and the number that a program reads
  pub value : (k : MonoidKind) (v : View) (x : ViewValue) → IsViewOf k v x → value_of k v ≡ x
  pub number : (k : MonoidKind) (v : View) (x : ViewValue) → IsViewOf k v x → (views_of k).number v ≡ (structure_of k).number x
  -- A reducer begins with the unit, is updated, and is set to the view of one word. The end that
  -- retires it resets it to the unit.
  pub created : (i : Instance) (j : numbered.Instance) → LeavesSame i (Passes (Creates i)) j (Created j)
  pub updated : (i : Instance) (j : numbered.Instance) (n : ℤ) → IsWord n → LeavesSame i (Passes (Updates i n)) j (Updated j n)
  pub set : (i : Instance) (j : numbered.Instance) (n : ℤ) → IsWord n → LeavesSame i (Passes (Sets i n)) j (SetTo j n)
  pub retired : (i : Instance) (j : numbered.Instance) (n : ℤ) (gone : List Instance) → has_instance gone i ≡ true → LeavesSame i (Ends n gone) j (Retired j)
  -- a print updates the output
  pub printed : (j : numbered.Instance) (n : ℤ) → IsWord n → LeavesSame Output (Passes (Prints n)) j (Updated j n)
