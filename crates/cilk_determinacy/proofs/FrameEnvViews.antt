-- The machine multiplies views as the monoids do.
use Rattle.std.proofs.Common.{◌≡◌, ℤ, Bool, true, false, true≢false, cond, List, refl, sym, ap, ◌∙◌}
use Rattle.cilk_types.specs.declared.event.Instance as numbered
use Rattle.cilk_monoid.specs.declared.kind.MonoidKind.{MonoidKind}
use Rattle.cilk_monoid.specs.declared.kind.MonoidKind.TheVariants.{Append}
use Rattle.cilk_monoid.specs.Kinds.{structure_of}
use Rattle.cilk_monoid.specs.Lawful.{lawful}
use Rattle.cilk_monoid.specs.Ranges.{Created, Updated, SetTo, Retired}
use Rattle.cilk_monoid.specs.Ranges as ranges
use Rattle.cilk_monoid.specs.Values.{ViewValue}
use Rattle.cilk_types.specs.Word.{IsWord}
use Rattle.cilk_monoid.proofs.RangeLaws.{same_self}
use Rattle.cilk_determinacy.specs.Runs.{Instance, Output, same_instance, has_instance, Ends, Passes, Creates, Updates, Sets, Prints}
use Rattle.cilk_determinacy.proofs.Basics.{same_instance-refl}
use Rattle.cilk_determinacy.specs.Reducers.{View, value_of, views_of, kind_of}
use Rattle.cilk_determinacy.specs.FrameEnvViews.{IsViewOf, LeavesSame, AreMultiplied}

module _ (k : MonoidKind) where
  unit_is : IsViewOf k ((views_of k).unit) ((structure_of k).unit)
  unit_is = let law = lawful k in record { member = law.unit_member; multiplies = λ u h. sym (law.right_neutral u h) }

  single_is : (n : ℤ) → IsWord n → IsViewOf k ((views_of k).single n) ((structure_of k).single n)
  single_is n word = let law = lawful k in record { member = law.single_member n word; multiplies = λ u h. refl }

  join_is : (v w : View) (x y : ViewValue) → IsViewOf k v x → IsViewOf k w y → IsViewOf k ((views_of k).combine v w) ((structure_of k).combine x y)
  join_is v w x y h g =
      let law = lawful k in
      record {
        member = law.combine_member x y h.member g.member;
        multiplies = λ u m.
            ap w (h.multiplies u m) ∙ g.multiplies ((structure_of k).combine u x) (law.combine_member u x m h.member) ∙ law.associative u x y m h.member g.member;
      }

  value_is : (v : View) (x : ViewValue) → IsViewOf k v x → value_of k v ≡ x
  value_is v x h = let law = lawful k in h.multiplies ((structure_of k).unit) law.unit_member ∙ law.left_neutral x h.member

  updated_is : (v : View) (x : ViewValue) (n : ℤ) → IsWord n → IsViewOf k v x → IsViewOf k ((views_of k).combine v ((views_of k).single n)) ((structure_of k).combine x ((structure_of k).single n))
  updated_is v x n word h = join_is v ((views_of k).single n) x ((structure_of k).single n) h (single_is n word)

  -- where the event is of the reducer, its view is the one that the event makes
  chosen : (b b' : Bool) (v w : View) (x y : ViewValue) → b ≡ true → b' ≡ true → IsViewOf k v x → IsViewOf k (cond b v w) (cond b' x y)
  chosen true true v w x y e f h = h
  chosen true false v w x y e f h = absurd (true≢false (sym f))
  chosen false b' v w x y e f h = absurd (true≢false (sym e))

module _ (i : Instance) (j : numbered.Instance) where
  created_is : LeavesSame i (Passes (Creates i)) j (Created j)
  created_is v x h = chosen (kind_of i) (same_instance i i) (ranges.same_instance j j) ((views_of (kind_of i)).unit) v ((structure_of (kind_of i)).unit) x (same_instance-refl i) (same_self j) (unit_is (kind_of i))

  update_is : (n : ℤ) → IsWord n → LeavesSame i (Passes (Updates i n)) j (Updated j n)
  update_is n word v x h =
      chosen (kind_of i) (same_instance i i) (ranges.same_instance j j) ((views_of (kind_of i)).combine v ((views_of (kind_of i)).single n)) v ((structure_of (kind_of i)).combine x ((structure_of (kind_of i)).single n)) x
      (same_instance-refl i) (same_self j) (updated_is (kind_of i) v x n word h)

  set_is : (n : ℤ) → IsWord n → LeavesSame i (Passes (Sets i n)) j (SetTo j n)
  set_is n word v x h =
      chosen (kind_of i) (same_instance i i) (ranges.same_instance j j) ((views_of (kind_of i)).single n) v ((structure_of (kind_of i)).single n) x (same_instance-refl i) (same_self j) (single_is (kind_of i) n word)

  retired_is : (n : ℤ) (gone : List Instance) → has_instance gone i ≡ true → LeavesSame i (Ends n gone) j (Retired j)
  retired_is n gone among v x h =
      chosen (kind_of i) (has_instance gone i) (ranges.same_instance j j) ((views_of (kind_of i)).unit) v ((structure_of (kind_of i)).unit) x among (same_self j) (unit_is (kind_of i))

printed_is : (j : numbered.Instance) (n : ℤ) → IsWord n → LeavesSame Output (Passes (Prints n)) j (Updated j n)
printed_is j n word v x h =
    chosen Append true (ranges.same_instance j j) ((views_of Append).combine v ((views_of Append).single n)) v ((structure_of Append).combine x ((structure_of Append).single n)) x
    refl (same_self j) (updated_is Append v x n word h)

pub are_multiplied : AreMultiplied
are_multiplied = record {
  unit = unit_is;
  single = single_is;
  join = join_is;
  value = value_is;
  number = λ k v x h. ap (structure_of k).number (value_is k v x h);
  created = created_is;
  updated = update_is;
  set = set_is;
  retired = retired_is;
  printed = printed_is;
}
