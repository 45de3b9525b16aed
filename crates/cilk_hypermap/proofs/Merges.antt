-- Merges of hypermaps, one kind at a time.
use Rattle.std.proofs.Common.{◌≡◌, None, IsSome, ◌⊎◌, sym, ap, ◌∙◌, subst}
use Rattle.cilk_types.specs.declared.event.Instance.{Instance}
use Rattle.cilk_monoid.specs.declared.kind.MonoidKind.{MonoidKind}
use Rattle.cilk_monoid.specs.declared.kind.MonoidKind.TheVariants.{Add, Least, Greatest, Append, Affine}
use Rattle.cilk_monoid.specs.Kinds.{structure_of, IsMember}
use Rattle.cilk_monoid.specs.Lawful.{lawful}
use Rattle.cilk_monoid.specs.Views.{number_value, list_value, affine_value}
use Rattle.cilk_hypermap.specs.declared.hypermap.Hypermap.{Hypermap}
use Rattle.cilk_hypermap.specs.Hypermap.{EachKind, view_in, value_in}
use Rattle.cilk_hypermap.specs.Ranges.{JoinsRanges}
use Rattle.cilk_hypermap.specs.Views.{found, merged, or_unit}
use Rattle.cilk_monoid.proofs.RangeLaws.{view_of-adjoining}
use Rattle.cilk_hypermap.proofs.Fills.{FillsOne, IsMemberIfAny, keeps_value, merged_two, merged_room, merged_some, merged_member, or_unit-merged, members_by_type}

-- a fact of each kind, at one of them
pub each_kind : (P : MonoidKind → Type 0) → EachKind P → (k : MonoidKind) → P k
each_kind P h Add = h.0
each_kind P h Least = h.1
each_kind P h Greatest = h.2
each_kind P h Append = h.3
each_kind P h Affine = h.4

-- a view of a kind is a member of its monoid
pub view_in_member : (h : Hypermap) (k : MonoidKind) (j : Instance) → IsMemberIfAny (structure_of k) (IsMember k) (lawful k) (view_in h k j)
view_in_member h Add j = members_by_type (IsMember Add) (structure_of Add) (lawful Add) number_value (λ v. v.word) (found h.sums j)
view_in_member h Least j = members_by_type (IsMember Least) (structure_of Least) (lawful Least) number_value (λ v. v.word) (found h.least j)
view_in_member h Greatest j = members_by_type (IsMember Greatest) (structure_of Greatest) (lawful Greatest) number_value (λ v. v.word) (found h.greatest j)
view_in_member h Append j = members_by_type (IsMember Append) (structure_of Append) (lawful Append) list_value (λ v. v.words) (found h.lists j)
view_in_member h Affine j = members_by_type (IsMember Affine) (structure_of Affine) (lawful Affine) affine_value (λ v. (v.factor_word, v.offset_word)) (found h.maps j)

-- the values are kept where units were filled in
pub values_kept : (old new : Hypermap) (k : MonoidKind) (Need : Instance → Type 0) → ((j : Instance) → FillsOne (structure_of k).unit (Need j) (view_in old k j) (view_in new k j)) → (j : Instance) → value_in new k j ≡ value_in old k j
values_kept old new k Need h j = keeps_value (structure_of k) (IsMember k) (lawful k) (view_in old k j) (view_in new k j) (h j)

-- l and r before room was reserved, l' and r' after, with nothing in `none`
module _ (l l' r r' none new : Hypermap) (k : MonoidKind)
    (views : (j : Instance) → view_in new k j ≡ merged (structure_of k) (view_in l' k j) (view_in r' k j)) (empty : (j : Instance) → view_in none k j ≡ None)
    (left : (j : Instance) → FillsOne (structure_of k).unit (IsSome (view_in r k j) ⊎ IsSome (view_in none k j)) (view_in l k j) (view_in l' k j))
    (right : (j : Instance) → FillsOne (structure_of k).unit (IsSome (view_in none k j)) (view_in r k j) (view_in r' k j)) where
  pub two_views : (j : Instance) → view_in new k j ≡ merged (structure_of k) (view_in l k j) (view_in r k j)
  two_views j = views j ∙ merged_two (structure_of k) (IsMember k) (lawful k) (view_in l k j) (view_in l' k j) (view_in r k j) (view_in r' k j) (view_in none k j) (view_in_member r k j) (empty j) (left j) (right j)

  pub two_values : (j : Instance) → value_in new k j ≡ (structure_of k).combine (value_in l k j) (value_in r k j)
  two_values j = ap (or_unit (structure_of k)) (two_views j) ∙ or_unit-merged (structure_of k) (IsMember k) (lawful k) (view_in l k j) (view_in r k j) (view_in_member l k j) (view_in_member r k j)

-- l and m before room was reserved, l' and m' after; `one` is the product of these two
module _ (l l' m m' r one new : Hypermap) (k : MonoidKind)
    (first : (j : Instance) → view_in one k j ≡ merged (structure_of k) (view_in l' k j) (view_in m' k j))
    (second : (j : Instance) → view_in new k j ≡ merged (structure_of k) (view_in one k j) (view_in r k j))
    (left : (j : Instance) → FillsOne (structure_of k).unit (IsSome (view_in m k j) ⊎ IsSome (view_in r k j)) (view_in l k j) (view_in l' k j))
    (middle : (j : Instance) → FillsOne (structure_of k).unit (IsSome (view_in r k j)) (view_in m k j) (view_in m' k j)) where
  pub three_views : (j : Instance) → view_in new k j ≡ merged (structure_of k) (merged (structure_of k) (view_in l k j) (view_in m k j)) (view_in r k j)
  three_views j =
      second j ∙ ap (λ x. merged (structure_of k) x (view_in r k j)) (first j)
      ∙ merged_room (structure_of k) (IsMember k) (lawful k) (view_in l k j) (view_in l' k j) (view_in m k j) (view_in m' k j) (view_in r k j) (view_in_member l k j) (view_in_member m k j) (view_in_member r k j) (left j) (middle j)

  pub three_values : (j : Instance) → value_in new k j ≡ (structure_of k).combine ((structure_of k).combine (value_in l k j) (value_in m k j)) (value_in r k j)
  three_values j =
      let S = structure_of k in
      let hl = view_in_member l k j in
      let hm = view_in_member m k j in
      ap (or_unit S) (three_views j)
      ∙ or_unit-merged S (IsMember k) (lawful k) (merged S (view_in l k j) (view_in m k j)) (view_in r k j) (merged_member S (IsMember k) (lawful k) (view_in l k j) (view_in m k j) hl hm) (view_in_member r k j)
      ∙ ap (λ x. S.combine x (value_in r k j)) (or_unit-merged S (IsMember k) (lawful k) (view_in l k j) (view_in m k j) hl hm)

-- an instance on the right is in the product of the other two, if it is in the left one
pub present_in_product : (l m r one : Hypermap) (k : MonoidKind) → ((j : Instance) → view_in one k j ≡ merged (structure_of k) (view_in l k j) (view_in m k j)) → ((j : Instance) → IsSome (view_in r k j) → IsSome (view_in l k j))
    → (j : Instance) → IsSome (view_in r k j) → IsSome (view_in one k j)
present_in_product l m r one k first there j h =
    subst IsSome (sym (first j)) (merged_some (structure_of k) (IsMember k) (lawful k) (view_in l k j) (view_in m k j) (there j h))

-- the product of the views of adjoining ranges is the view of the joined range
pub joins_ranges : (l r h : Hypermap) → EachKind (λ k. (j : Instance) → value_in h k j ≡ (structure_of k).combine (value_in l k j) (value_in r k j)) → JoinsRanges l r h
joins_ranges l r h values kinds left right wl wr apart shows_left shows_right i =
    let k = kinds i in
    let S = structure_of k in
    each_kind (λ n. (j : Instance) → value_in h n j ≡ (structure_of n).combine (value_in l n j) (value_in r n j)) values k i
    ∙ (λ t. S.combine (shows_left i t) (shows_right i t))
    ∙ sym (view_of-adjoining S i (IsMember k) (lawful k) left right wl wr (apart i))
