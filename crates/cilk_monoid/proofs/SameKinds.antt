-- Equality of kinds of monoids.
--   kind_itself  a kind is the same as itself
--   same_kind-eq    kinds that are the same are equal
use Rattle.std.proofs.Common.{◌≡◌, true, refl}
use Rattle.cilk_monoid.specs.declared.kind.MonoidKind.{MonoidKind}
use Rattle.cilk_monoid.specs.declared.kind.MonoidKind.TheVariants.{Add, Least, Greatest, Append, Affine}
use Rattle.cilk_monoid.specs.Kinds.{same_kind}

pub kind_itself : (k : MonoidKind) → same_kind k k ≡ true
kind_itself Add = refl
kind_itself Least = refl
kind_itself Greatest = refl
kind_itself Append = refl
kind_itself Affine = refl

pub same_kind-eq : (j k : MonoidKind) → same_kind j k ≡ true → j ≡ k
same_kind-eq Add Add h = refl
same_kind-eq Least Least h = refl
same_kind-eq Greatest Greatest h = refl
same_kind-eq Append Append h = refl
same_kind-eq Affine Affine h = refl
same_kind-eq j k h = absurd cc
