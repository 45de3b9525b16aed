-- Views to which units were added, and products with them.
use Rattle.std.proofs.Common.{◌≡◌, Option, Some, None, IsSome, is_some, ◌⊎◌, inl, inr, sym, ap, ◌∙◌, refl, subst, true≢false}
use Rattle.std.specs.Option.{option_map}
use Rattle.cilk_monoid.specs.Laws.{MonoidStructure, IsLawful}
use Rattle.cilk_monoid.specs.Values.{ViewValue}
use Rattle.cilk_hypermap.specs.Views.{merged, or_unit}

-- the view is that of before, or the unit where there was none and one is needed
abbrev pub FillsOne : ViewValue → Type 0 → Option ViewValue → Option ViewValue → Type 0
FillsOne unit Need f g = (g ≡ f) ⊎ ((f ≡ None) × (g ≡ Some unit) × Need)

pub fills_some : {unit : ViewValue} {Need : Type 0} (f g : Option ViewValue) → FillsOne unit Need f g → IsSome f → IsSome g
fills_some f g (inl e) h = subst IsSome (sym e) h
fills_some f g (inr p) h = subst IsSome (sym p.1) refl

pub fills_trans : {unit : ViewValue} {Need : Type 0} (f g h : Option ViewValue) → FillsOne unit Need f g → FillsOne unit Need g h → FillsOne unit Need f h
fills_trans f g h (inl e) (inl k) = inl (k ∙ e)
fills_trans f g h (inl e) (inr p) = inr (sym e ∙ p.0, p.1, p.2)
fills_trans f g h (inr p) (inl k) = inr (p.0, k ∙ p.1, p.2)
fills_trans f g h (inr p) (inr q) = inr (p.0, q.1, p.2)

pub fills_weaker : {unit : ViewValue} {Need Need' : Type 0} (f g : Option ViewValue) → (Need → Need') → FillsOne unit Need f g → FillsOne unit Need' f g
fills_weaker f g weaken (inl e) = inl e
fills_weaker f g weaken (inr p) = inr (p.0, p.1, weaken p.2)

-- where nothing is needed, nothing was added
pub fills_none : {unit : ViewValue} {r : Option ViewValue} (f g : Option ViewValue) → r ≡ None → FillsOne unit (IsSome r) f g → g ≡ f
fills_none f g none (inl e) = e
fills_none f g none (inr p) = absurd (true≢false (sym p.2 ∙ ap is_some none))

module _ (S : MonoidStructure ViewValue) (IsMember : ViewValue → Type 0) (laws : IsLawful S IsMember) where
  -- the value, if there is one, is a member
  abbrev pub IsMemberIfAny : Option ViewValue → Type 0
  IsMemberIfAny None = Unit {0}
  IsMemberIfAny (Some a) = IsMember a

  pub keeps_value : {Need : Type 0} (f g : Option ViewValue) → FillsOne S.unit Need f g → or_unit S g ≡ or_unit S f
  keeps_value f g (inl e) = ap (or_unit S) e
  keeps_value f g (inr p) = ap (or_unit S) p.1 ∙ sym (ap (or_unit S) p.0)

  -- an absent view counts as the unit
  pub or_unit-merged : (l r : Option ViewValue) → IsMemberIfAny l → IsMemberIfAny r → or_unit S (merged S l r) ≡ S.combine (or_unit S l) (or_unit S r)
  or_unit-merged None None h k = sym (laws.left_neutral S.unit laws.unit_member)
  or_unit-merged None (Some b) h k = sym (laws.left_neutral b k)
  or_unit-merged (Some a) None h k = sym (laws.right_neutral a h)
  or_unit-merged (Some a) (Some b) h k = refl

  pub merged_member : (l r : Option ViewValue) → IsMemberIfAny l → IsMemberIfAny r → IsMemberIfAny (merged S l r)
  merged_member None r h k = k
  merged_member (Some a) None h k = h
  merged_member (Some a) (Some b) h k = laws.combine_member a b h k

  pub merged_some : (l r : Option ViewValue) → IsSome l → IsSome (merged S l r)
  merged_some None r h = absurd (true≢false (sym h))
  merged_some (Some a) None h = refl
  merged_some (Some a) (Some b) h = refl

  -- a unit on the left of a view, or on its right, changes no product
  pub merged_left : (l l' r : Option ViewValue) → IsMemberIfAny r → FillsOne S.unit (IsSome r) l l' → merged S l' r ≡ merged S l r
  merged_left l l' r k (inl e) = ap (λ x. merged S x r) e
  merged_left l l' None k (inr p) = absurd (true≢false (sym p.2))
  merged_left l l' (Some b) k (inr p) =
      ap (λ x. merged S x (Some b)) p.1 ∙ ap Some (laws.left_neutral b k) ∙ sym (ap (λ x. merged S x (Some b)) p.0)

  -- the units that `room` puts change no product of two
  pub merged_two : (l l' r r' none : Option ViewValue) → IsMemberIfAny r → none ≡ None → FillsOne S.unit (IsSome r ⊎ IsSome none) l l' → FillsOne S.unit (IsSome none) r r' → merged S l' r' ≡ merged S l r
  merged_two l l' r r' none k empty left right =
      let needed = λ (need : IsSome r ⊎ IsSome none). elim need as (λ _. IsSome r) [ inl h ↦ h | inr h ↦ absurd (true≢false (sym h ∙ ap is_some empty)) ] in
      ap (merged S l') (fills_none r r' empty right) ∙ merged_left l l' r k (fills_weaker l l' needed left)

  units_once : (l m r : Option ViewValue) → IsMemberIfAny l → IsMemberIfAny m → IsMemberIfAny r → IsSome m ⊎ IsSome r → l ≡ None → merged S (merged S (Some S.unit) m) r ≡ merged S (merged S l m) r
  units_once l None None hl hm hr (inl h) e = absurd (true≢false (sym h))
  units_once l None None hl hm hr (inr h) e = absurd (true≢false (sym h))
  units_once l None (Some c) hl hm hr need e = ap Some (laws.left_neutral c hr) ∙ ap (λ x. merged S (merged S x None) (Some c)) (sym e)
  units_once l (Some b) r hl hm hr need e = ap (λ x. merged S (Some x) r) (laws.left_neutral b hm) ∙ ap (λ x. merged S (merged S x (Some b)) r) (sym e)

  middle_unit : (l r : Option ViewValue) → IsMemberIfAny l → IsMemberIfAny r → IsSome r → merged S (merged S l (Some S.unit)) r ≡ merged S (merged S l None) r
  middle_unit l None hl hr h = absurd (true≢false (sym h))
  middle_unit None (Some c) hl hr h = ap Some (laws.left_neutral c hr)
  middle_unit (Some a) (Some c) hl hr h = ap (λ x. merged S (Some x) (Some c)) (laws.right_neutral a hl)

  -- the units that `room` puts change no product of three
  pub merged_room : (l l' m m' r : Option ViewValue) → IsMemberIfAny l → IsMemberIfAny m → IsMemberIfAny r → FillsOne S.unit (IsSome m ⊎ IsSome r) l l' → FillsOne S.unit (IsSome r) m m'
      → merged S (merged S l' m') r ≡ merged S (merged S l m) r
  merged_room l l' m m' r hl hm hr (inl e) (inl f) = (λ i. merged S (merged S (e i) (f i)) r)
  merged_room l l' m m' r hl hm hr (inr p) (inl f) =
      (λ i. merged S (merged S (p.1 i) (f i)) r) ∙ units_once l m r hl hm hr p.2 p.0
  merged_room l l' m m' r hl hm hr (inl e) (inr q) =
      (λ i. merged S (merged S (e i) (q.1 i)) r) ∙ middle_unit l r hl hr q.2 ∙ ap (λ x. merged S (merged S l x) r) (sym q.0)
  merged_room l l' m m' r hl hm hr (inr p) (inr q) =
      (λ i. merged S (merged S (p.1 i) (q.1 i)) r) ∙ middle_unit (Some S.unit) r laws.unit_member hr q.2
      ∙ ap (λ x. merged S (merged S (Some S.unit) x) r) (sym q.0) ∙ units_once l m r hl hm hr p.2 p.0

-- views that are members by their type
pub members_by_type : {V : Type 0} (IsMember : ViewValue → Type 0) (S : MonoidStructure ViewValue) (laws : IsLawful S IsMember) (value : V → ViewValue) → ((v : V) → IsMember (value v)) → (o : Option V) → IsMemberIfAny S IsMember laws (option_map value o)
members_by_type IsMember S laws value all None = tt
members_by_type IsMember S laws value all (Some v) = all v
