-- The strands that the first events begin, in a column: `strand_few`, `begun_few`, `begun_first`,
-- `begun_here`, `begun_none`, `begun_all`.
use Rattle.std.proofs.Common.{◌≡◌, ◌≢◌, ◌↔◌, ℕ, zero, suc, ◌+◌, ◌<◌, ◌≤◌, List, [], ◌∷◌, ◌++◌, length, get_or, refl, sym, ap, ◌∙◌, subst, arith, length-append}
use Rattle.std.proofs.lemmas.List.{get_or_append_left, get_or_past, get_or_push}
use mathlib.Core.Logic.{dite}
use native.Mathlib.Decide.{ℕ_discrete, dec_lt}
use Rattle.cilk_types.specs.declared.event.Event.{Event}
use Rattle.cilk_tree.specs.declared.mark.Mark.{Mark}
use Rattle.cilk_tree.specs.declared.mark.Mark.TheVariants.{Begin, Resume, Sync}
use Rattle.cilk_tree.specs.Marks.{mark_of, begun_by}
use Rattle.cilk_tree.specs.Races.{strand_at}
use Rattle.cilk_tree.proofs.Strands.{strand_grows, strand_next, strand_zero}
use Rattle.cilk_tree.specs.PlanStrands.{BeginsStrand}
use Rattle.cilk_tree.specs.Columns.{AreStrands}
use Rattle.cilk_tree.specs.Placing.{AreBegun}

pub begun_few : (m : Mark) → begun_by m ≢ 1 → begun_by m ≡ 0
begun_few Begin h = absurd (h refl)
begun_few Sync h = absurd (h refl)
begun_few Resume h = absurd (h refl)
begun_few m h = refl

begun_most : (m : Mark) → begun_by m ≤ 1
begun_most Begin = omega arith
begun_most Sync = omega arith
begun_most Resume = omega arith
begun_most m = omega arith

pub strand_few : (es : List Event) (p : ℕ) → strand_at es p ≤ p
strand_few [] p = omega arith
strand_few (e ∷ es) zero = omega arith
strand_few (e ∷ es) (suc p) = let few = begun_most (mark_of e) in let rest = strand_few es p in omega (arith, few, rest)

pub begun_first : (es : List Event) → AreBegun es 0 0 (0 ∷ [])
begun_first es = record {
  many = sym (strand_zero es);
  exact = λ p k some. (
    λ v. absurd (let z = none p in omega (arith, some, v, z)),
    λ h. absurd (let l = h.1.place.0 in let m = h.0 in omega (arith, l, m)),
  );
  places = refl;
}
  where
    one : List ℕ
    one = 0 ∷ []

    none : (p : ℕ) → get_or one p 0 ≡ 0
    none zero = refl
    none (suc p) = refl

-- one more entry, that of the position n + 1
begun_next : (es : List Event) (n strands x : ℕ) (column : List ℕ) → length column ≡ n + 1
    → ((p k : ℕ) → 1 ≤ k → (get_or column p 0 ≡ k) ↔ ((p ≤ n) × BeginsStrand es k p))
    → ((k : ℕ) → 1 ≤ k → (x ≡ k) ↔ BeginsStrand es k (n + 1))
    → (p k : ℕ) → 1 ≤ k → (get_or (column ++ x ∷ []) p 0 ≡ k) ↔ ((p ≤ n + 1) × BeginsStrand es k p)
begun_next es n strands x column long exact here p k some = dite (ℕ_discrete p (n + 1))
    (λ (last : p ≡ n + 1).
    let there : get_or (column ++ x ∷ []) p 0 ≡ x = get_or_push column x 0 p (sym (last ∙ sym long)) in (
      λ v. (omega (arith, last), subst (BeginsStrand es k) (sym last) ((here k some).0 (sym there ∙ v))),
      λ h. there ∙ (here k some).1 (subst (BeginsStrand es k) last h.1),
    ))
    (λ (other : p ≢ n + 1). dite (dec_lt p (n + 1))
    (λ (less : p < n + 1).
    let kept : get_or (column ++ x ∷ []) p 0 ≡ get_or column p 0 = get_or_append_left column (x ∷ []) 0 p (omega (arith, less, long)) in (
      λ v. let h = (exact p k some).0 (sym kept ∙ v) in (let l = h.0 in omega (arith, l), h.1),
      λ h. kept ∙ (exact p k some).1 (omega (arith, less), h.1),
    ))
    (λ past.
    let all = length-append column (x ∷ []) in
    let none : get_or (column ++ x ∷ []) p 0 ≡ 0 = get_or_past (column ++ x ∷ []) p 0 (omega (arith, past, other, long, all)) in (
      λ v. absurd (omega (arith, some, v, none)),
      λ h. absurd (let l = h.0 in omega (arith, l, past, other)),
    )))

pub begun_here : (es : List Event) (n strands : ℕ) (d : Event) (column : List ℕ) → n < length es → AreBegun es n strands column → begun_by (mark_of (get_or es n d)) ≡ 1
    → AreBegun es (n + 1) (strands + 1) (column ++ (strands + 1) ∷ [])
begun_here es n strands d column less h one =
    let next = strand_next es n d less in
    let many = h.many in
    let now : strand_at es (n + 1) ≡ strands + 1 = omega (arith, next, one, many) in
    record {
      many = sym now;
      exact = begun_next es n strands (strands + 1) column h.places h.exact (λ k some. (
        λ same. subst (λ (x : ℕ). BeginsStrand es x (n + 1)) same (record {
          place = (omega arith, omega (arith, less));
          is = now;
          first = λ q first lt e. (let g = strand_grows es q n (omega (arith, lt)) in omega (arith, g, e, many));
        }),
        λ b. sym now ∙ b.is,
      ));
      places = let long = length-append column ((strands + 1) ∷ []) in let places = h.places in omega (arith, long, places);
    }

pub begun_none : (es : List Event) (n strands : ℕ) (d : Event) (column : List ℕ) → n < length es → AreBegun es n strands column → begun_by (mark_of (get_or es n d)) ≡ 0
    → AreBegun es (n + 1) strands (column ++ 0 ∷ [])
begun_none es n strands d column less h none =
    let next = strand_next es n d less in
    let many = h.many in
    let now : strand_at es (n + 1) ≡ strand_at es n = omega (arith, next, none) in
    record {
      many = many ∙ sym now;
      exact = begun_next es n strands 0 column h.places h.exact (λ k some. (
        λ same. absurd (omega (arith, some, same)),
        λ b. absurd (let is = b.is in dite (ℕ_discrete n 0)
            (λ (zeroth : n ≡ 0). let z = ap (strand_at es) zeroth in let o = strand_zero es in let e : ⊥ = omega (arith, is, now, z, o, some) in e)
            (λ (later : n ≢ 0). b.first n (omega (arith, later)) (omega arith) (sym now ∙ is))),
      ));
      places = let long = length-append column (0 ∷ []) in let places = h.places in omega (arith, long, places);
    }

pub begun_all : (es : List Event) (n strands : ℕ) (column : List ℕ) → length es ≤ n → AreBegun es n strands column → AreStrands es column
begun_all es n strands column past h p k some = (
  λ v. ((h.exact p k some).0 v).1,
  λ b. (h.exact p k some).1 (let l = b.place.1 in omega (arith, l, past), b),
)
