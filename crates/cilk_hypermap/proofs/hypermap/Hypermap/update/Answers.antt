-- Each branch changes the views of its own kind. The number is passed to it unchanged.
use Rattle.std.proofs.Common.{◌≡◌, ℤ, Some, refl, subst, w64, to_z, of_z}
use Rattle.std.proofs.lemmas.Int.{to_z-of_z}
use Rattle.std.proofs.lemmas.Result.{on_ok_weaker}
use Rattle.cilk_types.specs.declared.event.Instance.{Instance}
use Rattle.cilk_monoid.specs.declared.kind.MonoidKind.TheVariants.{Add, Least, Greatest, Append, Affine}
use Rattle.cilk_monoid.specs.Kinds.{structure_of}
use Rattle.cilk_monoid.specs.Laws.{MonoidStructure}
use Rattle.cilk_monoid.specs.Values.{ViewValue}
use Rattle.cilk_monoid.specs.Views.{number_value, list_value, affine_value}
use Rattle.cilk_hypermap.specs.declared.views.Views.{Views}
use Rattle.cilk_hypermap.specs.Views.{value_at, ChangesAt}
use Rattle.cilk_hypermap.proofs.hypermap.Hypermap.update.Goals as goal

changed : {M V : Type 0} (S : MonoidStructure ViewValue) (value : V → ViewValue) (old new : Views M V) (i : Instance) (x y : ℤ) → x ≡ y
    → ChangesAt value old new i (Some (S.combine (value_at S value old i) (S.single x))) → ChangesAt value old new i (Some (S.combine (value_at S value old i) (S.single y)))
changed S value old new i x y same h =
    let Changed : ℤ → Type 0 = λ z. ChangesAt value old new i (Some (S.combine (value_at S value old i) (S.single z))) in
    subst Changed same h

pub returns-in-Add-clause-ok : goal.returns-in-Add-clause-ok
returns-in-Add-clause-ok c = rw c.in-Add.is (on_ok_weaker c.update.result (λ h. (changed (structure_of Add) number_value c.args.self.now.sums c.update.new.self c.args.instance (to_z w64 (of_z w64 c.args.x)) c.args.x (to_z-of_z w64 c.args.x c.ranges.x) h, λ j. refl, λ j. refl, λ j. refl, λ j. refl)) c.update.ensures.ok)

pub returns-in-Least-clause-ok : goal.returns-in-Least-clause-ok
returns-in-Least-clause-ok c = rw c.in-Least.is (on_ok_weaker c.update-in-Least.result (λ h. (λ j. refl, changed (structure_of Least) number_value c.args.self.now.least c.update-in-Least.new.self c.args.instance (to_z w64 (of_z w64 c.args.x)) c.args.x (to_z-of_z w64 c.args.x c.ranges.x) h, λ j. refl, λ j. refl, λ j. refl)) c.update-in-Least.ensures.ok)

pub returns-in-Greatest-clause-ok : goal.returns-in-Greatest-clause-ok
returns-in-Greatest-clause-ok c = rw c.in-Greatest.is (on_ok_weaker c.update-in-Greatest.result (λ h. (λ j. refl, λ j. refl, changed (structure_of Greatest) number_value c.args.self.now.greatest c.update-in-Greatest.new.self c.args.instance (to_z w64 (of_z w64 c.args.x)) c.args.x (to_z-of_z w64 c.args.x c.ranges.x) h, λ j. refl, λ j. refl)) c.update-in-Greatest.ensures.ok)

pub returns-in-Append-clause-ok : goal.returns-in-Append-clause-ok
returns-in-Append-clause-ok c = rw c.in-Append.is (on_ok_weaker c.update-in-Append.result (λ h. (λ j. refl, λ j. refl, λ j. refl, changed (structure_of Append) list_value c.args.self.now.lists c.update-in-Append.new.self c.args.instance (to_z w64 (of_z w64 c.args.x)) c.args.x (to_z-of_z w64 c.args.x c.ranges.x) h, λ j. refl)) c.update-in-Append.ensures.ok)

pub returns-in-Affine-clause-ok : goal.returns-in-Affine-clause-ok
returns-in-Affine-clause-ok c = rw c.in-Affine.is (on_ok_weaker c.update-in-Affine.result (λ h. (λ j. refl, λ j. refl, λ j. refl, λ j. refl, changed (structure_of Affine) affine_value c.args.self.now.maps c.update-in-Affine.new.self c.args.instance (to_z w64 (of_z w64 c.args.x)) c.args.x (to_z-of_z w64 c.args.x c.ranges.x) h)) c.update-in-Affine.ensures.ok)
