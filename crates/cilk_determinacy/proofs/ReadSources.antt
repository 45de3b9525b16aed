-- A read has the value that its source wrote.
--
-- - `right_at`: a read of a right list gives its cell's value after the events before it;
-- - `after_next`: the cells after one event more;
-- - `written_last`: a cell's value after the first events is that of its last write among them;
-- - `reads_have_sources`: both for serial runs.
use Rattle.std.proofs.Common.{◌≡◌, ◌⊎◌, inl, inr, ℕ, zero, suc, ◌-◌, ℤ, nat_eq, true, false, if◌then◌else◌, List, [], ◌∷◌, take, Option, Some, None, slice_get, refl, sym, ap, ◌∙◌, subst, arith, eqb-true}
use Rattle.std.proofs.lemmas.Bool.{cases_Bool, false≢true}
use Rattle.cilk_types.specs.declared.event.Event.{Event}
use Rattle.cilk_types.specs.declared.event.Event.TheVariants as events
use Rattle.cilk_program.specs.Syntax.{Source}
use Rattle.cilk_program.specs.Answered.{written, IsRightRead, AreRight, cells_after, opening_cells}
use Rattle.cilk_program.proofs.Remembered.{runs_right}
use Rattle.cilk_tree.specs.Races.{event_at}
use Rattle.cilk_tree.specs.Sources.{writes, last_write}
use Rattle.cilk_tree.proofs.Sources.{at_next}
use Rattle.cilk_determinacy.specs.Events.{ReadsHaveSources}

abbrev Cells : Type 0
Cells = ℕ → ℤ

-- the cells after an event, if there is one
abbrev written_if : Option Event → Cells → Cells
written_if None cells = cells
written_if (Some e) cells = written e cells

right_at : (cells : Cells) (es : List Event) → AreRight cells es → (n c : ℕ) (v : ℤ) → slice_get es n ≡ Some (events.Read c v) → v ≡ cells_after (take n es) cells c
right_at cells [] h n c v e = let z : None ≡ Some (events.Read c v) = e in absurd (cc)
right_at cells (x ∷ es) h zero c v e =
    let same : x ≡ events.Read c v = cc in
    subst (λ (x : Event). IsRightRead x cells) same h.0
right_at cells (x ∷ es) h (suc n) c v e = right_at (written x cells) es h.1 n c v e

after_next : (cells : Cells) (es : List Event) (n : ℕ) → cells_after (take (suc n) es) cells ≡ written_if (slice_get es n) (cells_after (take n es) cells)
after_next cells [] zero = refl
after_next cells [] (suc n) = refl
after_next cells (x ∷ es) zero = refl
after_next cells (x ∷ es) (suc n) = after_next (written x cells) es n

-- an event that writes the cell, and what it wrote
record WroteTo (o : Option Event) (c : ℕ) (cells : Cells) : Type 0 where
  is : o ≡ Some (events.Write c (written_if o cells c))

wrote : (o : Option Event) (c : ℕ) (cells : Cells) → writes o c ≡ true → WroteTo o c cells
wrote (Some (events.Write d v)) c cells e =
    let here : d ≡ c = eqb-true d c e in
    let value : (if nat_eq d c then v else cells c) ≡ v = ap (λ b. if b then v else cells c) e in
    record { is = ap (λ d. Some (events.Write d v)) here ∙ ap (λ v. Some (events.Write c v)) (sym value) }
wrote _ c cells e = absurd (false≢true e)

kept : (o : Option Event) (c : ℕ) (cells : Cells) → writes o c ≡ false → written_if o cells c ≡ cells c
kept (Some (events.Write d v)) c cells e = ap (λ b. if b then v else cells c) e
kept _ c cells e = refl

-- where this is the last write of the cell, its value is x
record IsWritten (cells : Cells) (es : List Event) (c : ℕ) (x : ℤ) (s : ℕ) : Type 0 where
  opened : s ≡ 0 → x ≡ cells c
  by_write : (k : ℕ) → s ≡ suc k → event_at es (suc k) ≡ Some (events.Write c x)

written_last : (cells : Cells) (es : List Event) (c n : ℕ) → IsWritten cells es c (cells_after (take n es) cells c) (last_write es c n)
written_last cells es c zero = record { opened = λ e. refl; by_write = λ k e. absurd (omega (arith, e)) }
written_last cells es c (suc n) = by (written_last cells es c n) (cases_Bool (writes (slice_get es n) c))
  where
    here : cells_after (take (suc n) es) cells c ≡ written_if (slice_get es n) (cells_after (take n es) cells) c
    here = ap (λ (f : Cells). f c) (after_next cells es n)

    by : IsWritten cells es c (cells_after (take n es) cells c) (last_write es c n) → (writes (slice_get es n) c ≡ true) ⊎ (writes (slice_get es n) c ≡ false)
        → IsWritten cells es c (cells_after (take (suc n) es) cells c) (last_write es c (suc n))
    by h (inl holds) =
        subst (λ b. IsWritten cells es c (cells_after (take (suc n) es) cells c) (if b then suc n else last_write es c n)) (sym holds) (record {
          opened = λ e. absurd (omega (arith, e));
          by_write = λ k e.
              let same : k ≡ n = omega (arith, e) in
              let w = wrote (slice_get es n) c (cells_after (take n es) cells) holds in
              ap (λ k. event_at es (suc k)) same ∙ at_next es n ∙ w.is ∙ ap (λ x. Some (events.Write c x)) (sym here);
        })
    by h (inr fails) =
        let same = here ∙ kept (slice_get es n) c (cells_after (take n es) cells) fails in
        subst (λ b. IsWritten cells es c (cells_after (take (suc n) es) cells c) (if b then suc n else last_write es c n)) (sym fails)
        (subst (λ x. IsWritten cells es c x (last_write es c n)) (sym same) h)

pub reads_have_sources : (p : Source) (inputs : List ℤ) → ReadsHaveSources p inputs
reads_have_sources p inputs r es conclusion well run q c v first is =
    let value : v ≡ cells_after (take (q - 1) es) (opening_cells p inputs) c = right_at (opening_cells p inputs) es (runs_right p well inputs r es conclusion run) (q - 1) c v is in
    let h = written_last (opening_cells p inputs) es c (q - 1) in
    record {
      opened = λ e. value ∙ h.opened e;
      written = λ s e. h.by_write s e ∙ ap (λ x. Some (events.Write c x)) (sym value);
    }
