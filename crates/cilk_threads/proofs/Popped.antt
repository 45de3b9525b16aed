-- The last element of a list, and the rest.
use Rattle.std.proofs.Common.{◌≡◌, zero, suc, List, [], ◌∷◌, ◌++◌, Option, sym, subst, arith}
use Rattle.std.specs.Prelude.{All, Some, None, IfSome, option_to_list}
use Rattle.std.proofs.lemmas.List.Elements.{All-append}

module _ {X : Type 0} (P : X → Type 0) where
  front : (xs ys : List X) → All P (xs ++ ys) → All P xs
  front [] ys h k d lt = absurd (omega (arith, lt))
  front (x ∷ xs) ys h zero d lt = h zero d (omega arith)
  front (x ∷ xs) ys h (suc k) d lt = front xs ys (λ j e l. h (suc j) e (omega (arith, l))) k d (omega (arith, lt))

  back : (xs : List X) (x : X) → All P (xs ++ x ∷ []) → P x
  back [] x h = h zero x (omega arith)
  back (y ∷ xs) x h = back xs x (λ j e l. h (suc j) e (omega (arith, l)))

  pub rest : (xs ys : List X) (r : Option X) → xs ≡ ys ++ option_to_list r → All P xs → All P ys
  rest xs ys r is h = front ys (option_to_list r) (subst (λ (zs : List X). All P zs) is h)

  pub one : (xs ys : List X) (r : Option X) → xs ≡ ys ++ option_to_list r → All P xs → IfSome r P
  one xs ys None is h = tt
  one xs ys (Some x) is h = back ys x (subst (λ (zs : List X). All P zs) is h)

  pub more : (xs ys : List X) (x : X) → ys ≡ xs ++ x ∷ [] → All P xs → P x → All P ys
  more xs ys x is all h = subst (λ (zs : List X). All P zs) (sym is) (All-append P xs (x ∷ []) all alone)
    where
      alone : All P (x ∷ [])
      alone zero d lt = h
      alone (suc k) d lt = absurd (omega (arith, lt))
