-- Products in a lawful monoid.
use Rattle.std.proofs.Common.{◌≡◌, List, [], ◌∷◌, ◌++◌, map, sym, ap, ◌∙◌, refl, subst}
use Rattle.std.specs.List.{AllByRecursion}
use Rattle.cilk_monoid.specs.Laws.{MonoidStructure, IsLawful}
use Rattle.cilk_monoid.specs.Products.{Grouping, Empty, One, Both, values_in, product, product_by}

module _ {V : Type 0} (M : MonoidStructure V) (IsMember : V → Type 0) (laws : IsLawful M IsMember) where
  pub product_member : (vs : List V) → AllByRecursion IsMember vs → IsMember (product M vs)
  product_member [] h = laws.unit_member
  product_member (v ∷ vs) h = laws.combine_member v (product M vs) h.0 (product_member vs h.1)

  pub product-append : (vs ws : List V) → AllByRecursion IsMember vs → AllByRecursion IsMember ws → product M (vs ++ ws) ≡ M.combine (product M vs) (product M ws)
  product-append [] ws h k = sym (laws.left_neutral (product M ws) (product_member ws k))
  product-append (v ∷ vs) ws h k =
      ap (M.combine v) (product-append vs ws h.1 k)
      ∙ sym (laws.associative v (product M vs) (product M ws) h.0 (product_member vs h.1) (product_member ws k))

  -- two neighbouring values may be multiplied first
  pub product-combine : (a b : V) (vs : List V) → IsMember a → IsMember b → AllByRecursion IsMember vs → product M (M.combine a b ∷ vs) ≡ product M (a ∷ b ∷ vs)
  product-combine a b vs h k l = laws.associative a b (product M vs) h k (product_member vs l)

  all_left : (vs ws : List V) → AllByRecursion IsMember (vs ++ ws) → AllByRecursion IsMember vs
  all_left [] ws h = tt
  all_left (v ∷ vs) ws h = (h.0, all_left vs ws h.1)

  all_right : (vs ws : List V) → AllByRecursion IsMember (vs ++ ws) → AllByRecursion IsMember ws
  all_right [] ws h = h
  all_right (v ∷ vs) ws h = all_right vs ws h.1

  -- however the values are bracketed, the product is the same
  pub product_by-product : (g : Grouping V) → AllByRecursion IsMember (values_in g) → product_by M g ≡ product M (values_in g)
  product_by-product Empty h = refl
  product_by-product (One v) h = sym (laws.right_neutral v h.0)
  product_by-product (Both l r) h =
      let hl = all_left (values_in l) (values_in r) h in
      let hr = all_right (values_in l) (values_in r) h in
      (λ i. M.combine (product_by-product l hl i) (product_by-product r hr i)) ∙ sym (product-append (values_in l) (values_in r) hl hr)

  -- the values of a list of views; each view is a member
  pub members_of : {X : Type 0} (value : X → V) → ((x : X) → IsMember (value x)) → (xs : List X) → AllByRecursion IsMember (map value xs)
  members_of value all [] = tt
  members_of value all (x ∷ xs) = (all x, members_of value all xs)

  -- a product of views has the value of each grouping of them
  pub product-grouped : (v : V) (vs : List V) (g : Grouping V) → v ≡ product M vs → AllByRecursion IsMember vs → values_in g ≡ vs → v ≡ product_by M g
  product-grouped v vs g p h e =
      p ∙ ap (product M) (sym e) ∙ sym (product_by-product g (subst (AllByRecursion IsMember) (sym e) h))
