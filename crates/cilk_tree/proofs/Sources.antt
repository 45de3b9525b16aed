-- The source of a read is the last earlier write of its cell.
--
-- - `writes_true`, `writes_false`: the test of an event and its meaning;
-- - `at_next`: positions count from 1;
-- - `last_is`: the last write among the first events is one, and no later one of them writes the
--   cell.
use Rattle.std.proofs.Common.{◌≡◌, ◌⊎◌, inl, inr, ℕ, zero, suc, ◌<◌, ◌≤◌, ◌-◌, true, false, if◌then◌else◌, List, Option, Some, slice_get, refl, sym, ap, ◌∙◌, subst, arith, eq-eqb, eqb-true}
use Rattle.std.proofs.lemmas.Bool.{false≢true, cases_Bool, cases_order}
use Rattle.cilk_types.specs.declared.event.Event.{Event}
use Rattle.cilk_types.specs.declared.event.Event.TheVariants as events
use Rattle.cilk_tree.specs.Races.{event_at, Writes}
use Rattle.cilk_tree.specs.Sources.{writes, last_write, SourcesAreLastWrites}

pub writes_true : (o : Option Event) (c : ℕ) → writes o c ≡ true → Writes o c
writes_true (Some (events.Write d v)) c e = eqb-true d c e
writes_true _ c e = absurd (false≢true e)

pub writes_false : (o : Option Event) (c : ℕ) → writes o c ≡ false → Writes o c → ⊥
writes_false (Some (events.Write d v)) c e h = false≢true (sym e ∙ eq-eqb d c h)
writes_false _ c e h = h

pub at_next : (es : List Event) (n : ℕ) → event_at es (suc n) ≡ slice_get es n
at_next es n = let e : suc n - 1 ≡ n = omega arith in ap (slice_get es) e

-- among the first n events
record LastOf (es : List Event) (c n s : ℕ) : Type 0 where
  within : s ≤ n
  written : (s ≡ 0) ⊎ Writes (event_at es s) c
  last : (k : ℕ) → s < k → k ≤ n → Writes (event_at es k) c → ⊥

last_of_more : (es : List Event) (c n s : ℕ) → writes (slice_get es n) c ≡ false → LastOf es c n s → LastOf es c (suc n) s
last_of_more es c n s none h = record {
  within = let w = h.within in omega (arith, w);
  written = h.written;
  last = λ k after before here. elim (cases_order k (suc n)) [
    | inl same ↦ writes_false (slice_get es n) c none (subst (λ o. Writes o c) (ap (event_at es) same ∙ at_next es n) here)
    | inr (inl less) ↦ h.last k after (omega (arith, less)) here
    | inr (inr more) ↦ absurd (omega (arith, more, before))
  ];
}

last_is : (es : List Event) (c n : ℕ) → LastOf es c n (last_write es c n)
last_is es c zero = record { within = omega arith; written = inl refl; last = λ k after before here. absurd (omega (arith, after, before)) }
last_is es c (suc n) = by (last_is es c n) (cases_Bool (writes (slice_get es n) c))
  where
    by : LastOf es c n (last_write es c n) → (writes (slice_get es n) c ≡ true) ⊎ (writes (slice_get es n) c ≡ false) → LastOf es c (suc n) (last_write es c (suc n))
    by h (inl holds) = subst (λ b. LastOf es c (suc n) (if b then suc n else last_write es c n)) (sym holds) (record {
      within = omega arith;
      written = inr (subst (λ o. Writes o c) (sym (at_next es n)) (writes_true (slice_get es n) c holds));
      last = λ k after before here. absurd (omega (arith, after, before));
    })
    by h (inr fails) = subst (λ b. LastOf es c (suc n) (if b then suc n else last_write es c n)) (sym fails) (last_of_more es c n (last_write es c n) fails h)

pub sources_last : SourcesAreLastWrites
sources_last es c q first = let h = last_is es c (q - 1) in record {
  earlier = let w = h.within in omega (arith, w, first);
  written = h.written;
  last = λ k after before here. h.last k after (omega (arith, before)) here;
}
