-- The event order of a plan is orderly and has values (`orderly`, `valued`), and each of its events
-- is requested (`asked`).
use Rattle.std.proofs.Common.{◌≡◌, ℕ, zero, suc, ◌-◌, ◌<◌, ℤ, pos, true, false, All, List, [], ◌∷◌, length, Some, slice_get, slice_index_or, refl, sym, subst, lit<, arith}
use Rattle.std.specs.Prelude.{FitsSigned}
use Rattle.std.specs.Int.{w64}
use Rattle.std.proofs.lemmas.Int.{fits_signed_from_abs}
use Rattle.std.proofs.lemmas.List.{get_or_past}
use Rattle.std.proofs.lemmas.Option.{get_or_from_slice_get, slice_get_within}
use mathlib.Core.Logic.{dite}
use native.Mathlib.Decide.{dec_lt}
use Rattle.cilk_types.specs.declared.event.Event.{Event}
use Rattle.cilk_types.specs.declared.event.Event.TheVariants.{Read, Write}
use Rattle.cilk_tree.specs.Before.{IsPosition}
use Rattle.cilk_tree.specs.Orders.{IsOrderly}
use Rattle.cilk_tree.specs.Runs.{IsAsked}
use Rattle.cilk_tree.specs.Values.{HasValues}
use Rattle.cilk_tree.proofs.Orderly.{event_orders_are_orderly}
use Rattle.cilk_tree.specs.Kinds.{IsOfWords}
use Rattle.cilk_tree.specs.Planned.{all_asked, planned, HasPlan}
use Rattle.cilk_tree.proofs.Passed.{gives_predecessors}

asked_at : (es : List Event) (i : ℕ) → i < length es → slice_index_or (all_asked es) i false ≡ true
asked_at [] i lt = absurd (omega arith)
asked_at (e ∷ es) zero lt = refl
asked_at (e ∷ es) (suc i) lt = asked_at es i (omega arith)

pub asked : (es : List Event) (opening : List ℤ) (p : ℕ) → IsPosition es p → IsAsked (planned es opening) p
asked es opening p i = asked_at es (p - 1) (let l = i.0 in let h = i.1 in omega (arith, l, h))

pub orderly : (es : List Event) (opening : List ℤ) → HasPlan es opening → IsOrderly (planned es opening)
orderly es opening h =
    let a = h.few_events in
    let b = h.few_cells in
    event_orders_are_orderly h.shape (planned es opening) (record { spells = h.spells; preceding = gives_predecessors h.shape es h.spells }) h.synced (omega (arith, a)) (omega (arith, a, b)) h.free

words_at : (es : List Event) → All IsOfWords es → (i : ℕ) (e : Event) → slice_get es i ≡ Some e → IsOfWords e
words_at es h i e is = subst IsOfWords (get_or_from_slice_get es i e e is) (h i e (slice_get_within es i e is))

opening_at : (values : List ℤ) → All (FitsSigned w64) values → (c : ℕ) → FitsSigned w64 (slice_index_or values c (pos 0))
opening_at values h c = dite (dec_lt c (length values))
    (λ (l : c < length values). h c (pos 0) l)
    (λ n. subst (FitsSigned w64) (sym (get_or_past values c (pos 0) (omega (arith, n)))) (fits_signed_from_abs w64 (pos 0) (lit< tt)))

pub valued : (es : List Event) (opening : List ℤ) → HasPlan es opening → All IsOfWords es → All (FitsSigned w64) opening → HasValues (planned es opening)
valued es opening h words values =
    let some = (orderly es opening h).root.1 in
    record {
      begins = asked es opening 1 (omega arith, omega (arith, some));
      reads = λ p cell v up is. h.reads p cell v is;
      read_words = λ p cell v is. words_at es words (p - 1) (Read cell v) is;
      written_words = λ p cell v is. words_at es words (p - 1) (Write cell v) is;
      opening_words = opening_at opening values;
    }
