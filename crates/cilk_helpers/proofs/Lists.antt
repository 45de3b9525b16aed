-- Properties of all elements of a list.
--
-- - `rest_of`, `one_of`: after the last element is taken out;
-- - `picked`: for the elements that are picked;
-- - `changed`: after one element is changed.
use Rattle.std.proofs.Common.{◌≡◌, ℕ, Bool, List, [], ◌∷◌, ◌++◌, set, sym, subst}
use Rattle.std.specs.Prelude.{All}
use Rattle.std.specs.List.{items_where_true}
use Rattle.std.proofs.lemmas.List.Elements.{All-pop, All-set}
use Rattle.std.proofs.lemmas.Grind.{get_or_picked}
use Rattle.std.proofs.Common.{Some}

pub rest_of : {X : Type 0} (P : X → Type 0) (xs ys : List X) (x : X) → xs ≡ ys ++ x ∷ [] → All P xs → All P ys
rest_of P xs ys x is h = (All-pop P xs ys (Some x) is h).0

pub one_of : {X : Type 0} (P : X → Type 0) (xs ys : List X) (x : X) → xs ≡ ys ++ x ∷ [] → All P xs → P x
one_of P xs ys x is h = (All-pop P xs ys (Some x) is h).1

pub picked : {X : Type 0} (P : X → Type 0) (bs : List Bool) (xs ys : List X) → ys ≡ items_where_true bs xs → All P xs → All P ys
picked {X} P bs xs ys is h = subst (λ (l : List X). All P l) (sym is) each
  where
    each : All P (items_where_true bs xs)
    each k d lt = let w = (get_or_picked bs xs k d lt).1 in subst P (sym w.2) (h w.0 d w.1)

pub changed : {X : Type 0} (P : X → Type 0) (xs : List X) (i : ℕ) (x : X) → P x → All P xs → All P (set xs i x)
changed P xs i x p h = All-set P xs i x p h
