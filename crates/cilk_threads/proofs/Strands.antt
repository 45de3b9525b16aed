-- Events of the same kinds begin the same strands: `strands_along`.
use Rattle.std.proofs.Common.{◌≡◌, ℕ, zero, suc, ◌+◌, List, [], ◌∷◌, map, length, refl, sym, ap, ap₂, ◌∙◌, arith}
use Rattle.std.proofs.lemmas.List.{length-map}
use Rattle.cilk_types.specs.declared.event.Event.{Event}
use Rattle.cilk_types.specs.declared.event.Event.TheVariants as events
use Rattle.cilk_tree.specs.Races.{strand_at}
use Rattle.cilk_tree.specs.Marks.{mark_of, begun_by}
use Rattle.cilk_tree.specs.declared.kind.Kind.{Kind}
use Rattle.cilk_tree.specs.declared.kind.Kind.TheVariants as kinds
use Rattle.cilk_tree.specs.Kinds.{kind_of}
use Rattle.cilk_tree.specs.PlanStrands.{BeginsStrand}
use Rattle.cilk_tree.specs.Columns.{AreStrands}

-- how many strands an event of this kind begins
abbrev begun : Kind → ℕ
begun (kinds.Begin f) = 1
begun (kinds.Resume f) = 1
begun kinds.Sync = 1
begun k = 0

begun_is : (e : Event) → begun_by (mark_of e) ≡ begun (kind_of e)
begun_is (events.Begin f) = refl
begun_is (events.Resume f) = refl
begun_is events.Sync = refl
begun_is e = refl

same_strand : (es fs : List Event) → map kind_of es ≡ map kind_of fs → (p : ℕ) → strand_at es p ≡ strand_at fs p
same_strand [] [] same p = refl
same_strand [] (f ∷ fs) same p = absurd (cc same)
same_strand (e ∷ es) [] same p = absurd (cc same)
same_strand (e ∷ es) (f ∷ fs) same zero = refl
same_strand (e ∷ es) (f ∷ fs) same (suc p) =
    let head : kind_of e ≡ kind_of f = cc same in
    let tail : map kind_of es ≡ map kind_of fs = cc same in
    ap₂ (λ (n m : ℕ). n + m) (begun_is e ∙ ap begun head ∙ sym (begun_is f)) (same_strand es fs tail p)

begins_along : (es fs : List Event) → map kind_of es ≡ map kind_of fs → (n p : ℕ) → BeginsStrand es n p → BeginsStrand fs n p
begins_along es fs same n p h = record {
  place = (h.place.0, let l : length es ≡ length fs = sym (length-map es kind_of) ∙ ap length same ∙ length-map fs kind_of in let le = h.place.1 in omega (arith, l, le));
  is = sym (same_strand es fs same p) ∙ h.is;
  first = λ q low less e. h.first q low less (same_strand es fs same q ∙ e);
}

pub strands_along : (es fs : List Event) → map kind_of es ≡ map kind_of fs → (strands : List ℕ) → AreStrands es strands → AreStrands fs strands
strands_along es fs same strands are p n some =
    let h = are p n some in
    (λ is. begins_along es fs same n p (h.0 is), λ begin. h.1 (begins_along fs es (sym same) n p begin))
