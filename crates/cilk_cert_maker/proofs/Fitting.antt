-- The cells that are written are below a number.
--
-- - `fits_next`, `fits_at`: one event more; one of all;
-- - `all_fit`: over the whole list.
use Rattle.std.proofs.Common.{◌≡◌, ℕ, ◌+◌, ◌<◌, ◌≤◌, List, length, get_or, Some, slice_get, sym, ◌∙◌, ap, subst, arith, inl, inr}
use Rattle.std.proofs.lemmas.Bool.{cases_lt}
use Rattle.std.proofs.lemmas.Option.{same_Some, slice_get_within, slice_get-get_or}
use Rattle.cilk_types.specs.declared.event.Event.{Event}
use Rattle.cilk_types.specs.declared.event.Event.TheVariants as events
use Rattle.cilk_cert_maker.specs.Sources.{AllFit, Fits}

fits_more : (n m : ℕ) (e : Event) → n ≤ m → Fits n e → Fits m e
fits_more n m (events.Begin f) l h = tt
fits_more n m (events.Spawn f) l h = tt
fits_more n m (events.Call f) l h = tt
fits_more n m (events.Resume f) l h = tt
fits_more n m events.Sync l h = tt
fits_more n m events.End l h = tt
fits_more n m (events.Read c v) l h = tt
fits_more n m (events.Write c v) l h = omega (arith, l, h)
fits_more n m (events.Create i) l h = tt
fits_more n m (events.Update i v) l h = tt
fits_more n m (events.Set i v) l h = tt
fits_more n m (events.Value i v) l h = tt
fits_more n m (events.Print v) l h = tt

-- the first n events fit
abbrev pub FitSoFar : List Event → ℕ → ℕ → Type 0
FitSoFar es i n = (k : ℕ) (e : Event) → k < i → slice_get es k ≡ Some e → Fits n e

pub fits_next : (es : List Event) (i n m x : ℕ) (d : Event) → FitSoFar es i n → i < length es → Fits x (get_or es i d) → n ≤ m → x ≤ m → FitSoFar es (i + 1) m
fits_next es i n m x d h lt f a b k e l is =
    elim (cases_lt k i) [
      | inl less ↦ fits_more n m e a (h k e less is)
      | inr more ↦ (let at : k ≡ i = omega (arith, l, more) in
          let here : get_or es i d ≡ e = same_Some (get_or es i d) e (sym (slice_get-get_or es i d lt) ∙ ap (slice_get es) (sym at) ∙ is) in
          fits_more x m e b (subst (λ (y : Event). Fits x y) here f))
    ]

pub fits_at : (es : List Event) (i n : ℕ) (d : Event) → AllFit n es → i < length es → Fits n (get_or es i d)
fits_at es i n d h lt = h i (get_or es i d) (slice_get-get_or es i d lt)

pub all_fit : (es : List Event) (i n : ℕ) → FitSoFar es i n → length es ≤ i → AllFit n es
all_fit es i n h far k e is = h k e (let l = slice_get_within es k e is in omega (arith, l, far)) is
