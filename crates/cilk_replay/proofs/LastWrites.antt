-- After the first n events, a cell holds the value of its last write among them: `last_value`.
use Rattle.std.proofs.Common.{◌≡◌, ◌⊎◌, inl, inr, ℕ, zero, suc, ℤ, pos, nat_eq, Bool, true, false, if◌then◌else◌, List, [], ◌∷◌, ◌++◌, length, take, Option, Some, None, slice_get, slice_index_or, refl, sym, ap, ◌∙◌, subst, arith, eqb-true}
use Rattle.std.proofs.lemmas.Bool.{cases_Bool, false≢true}
use Rattle.cilk_types.specs.declared.event.Event.{Event}
use Rattle.cilk_types.specs.declared.event.Event.TheVariants as events
use Rattle.cilk_program.specs.Answered.{written, IsRightRead, cells_after}
use Rattle.cilk_tree.specs.declared.event_order.EventOrder.{EventOrder}
use Rattle.cilk_tree.specs.Values.{HasValue}
use Rattle.cilk_tree.specs.Races.{event_at}
use Rattle.cilk_tree.specs.Sources.{writes, last_write}
use Rattle.cilk_tree.proofs.Sources.{at_next}

abbrev pub Cells : Type 0
Cells = ℕ → ℤ

pub cells_after_both : (es xs : List Event) (cells : Cells) → cells_after (es ++ xs) cells ≡ cells_after xs (cells_after es cells)
cells_after_both [] xs cells = refl
cells_after_both (e ∷ es) xs cells = cells_after_both es xs (written e cells)

-- ---- a read that is requested gives what its cell holds
abbrev pub AreAskedRight : Cells → List Event → List Bool → Type 0
AreAskedRight cells [] bs = Unit {0}
AreAskedRight cells (e ∷ es) [] = Unit {0}
AreAskedRight cells (e ∷ es) (b ∷ bs) = (b ≡ true → IsRightRead e cells) × AreAskedRight (written e cells) es bs

pub right_both : (cells : Cells) (es xs : List Event) (bs ds : List Bool) → length es ≡ length bs → AreAskedRight cells es bs
    → AreAskedRight (cells_after es cells) xs ds
    → AreAskedRight cells (es ++ xs) (bs ++ ds)
right_both cells [] xs [] ds e h g = g
right_both cells [] xs (b ∷ bs) ds e h g = absurd (omega (arith, e))
right_both cells (x ∷ es) xs [] ds e h g = absurd (omega (arith, e))
right_both cells (x ∷ es) xs (b ∷ bs) ds e h g = let less : length es ≡ length bs = omega (arith, e) in (h.0, right_both (written x cells) es xs bs ds less h.1 g)

pub asked_right : (cells : Cells) (es : List Event) (bs : List Bool) → AreAskedRight cells es bs → (n c : ℕ) (v : ℤ)
    → slice_get es n ≡ Some (events.Read c v) → slice_index_or bs n false ≡ true
    → v ≡ cells_after (take n es) cells c
asked_right cells [] bs h n c v e b = let z : None ≡ Some (events.Read c v) = e in absurd (cc)
asked_right cells (x ∷ es) [] h n c v e b = let z : false ≡ true = b in absurd (cc z)
asked_right cells (x ∷ es) (d ∷ bs) h zero c v e b =
    let same : x ≡ events.Read c v = cc in
    subst (λ (x : Event). IsRightRead x cells) same (h.0 b)
asked_right cells (x ∷ es) (d ∷ bs) h (suc n) c v e b = asked_right (written x cells) es bs h.1 n c v e b

-- ---- the last write
abbrev written_if : Option Event → Cells → Cells
written_if None cells = cells
written_if (Some e) cells = written e cells

after_next : (cells : Cells) (es : List Event) (n : ℕ) → cells_after (take (suc n) es) cells ≡ written_if (slice_get es n) (cells_after (take n es) cells)
after_next cells [] zero = refl
after_next cells [] (suc n) = refl
after_next cells (x ∷ es) zero = refl
after_next cells (x ∷ es) (suc n) = after_next (written x cells) es n

wrote : (o : Option Event) (c : ℕ) (cells : Cells) → writes o c ≡ true → o ≡ Some (events.Write c (written_if o cells c))
wrote (Some (events.Write d v)) c cells e =
    let here : d ≡ c = eqb-true d c e in
    let value : (if nat_eq d c then v else cells c) ≡ v = ap (λ b. if b then v else cells c) e in
    ap (λ d. Some (events.Write d v)) here ∙ ap (λ v. Some (events.Write c v)) (sym value)
wrote _ c cells e = absurd (false≢true e)

kept : (o : Option Event) (c : ℕ) (cells : Cells) → writes o c ≡ false → written_if o cells c ≡ cells c
kept (Some (events.Write d v)) c cells e = ap (λ b. if b then v else cells c) e
kept _ c cells e = refl

-- if this is the last write of the cell, its value is x
record IsLastWritten (cells : Cells) (es : List Event) (c : ℕ) (x : ℤ) (s : ℕ) : Type 0 where
  opened : s ≡ 0 → x ≡ cells c
  by_write : (k : ℕ) → s ≡ suc k → event_at es (suc k) ≡ Some (events.Write c x)

last_written : (cells : Cells) (es : List Event) (c n : ℕ) → IsLastWritten cells es c (cells_after (take n es) cells c) (last_write es c n)
last_written cells es c zero = record { opened = λ e. refl; by_write = λ k e. absurd (omega (arith, e)) }
last_written cells es c (suc n) = by (last_written cells es c n) (cases_Bool (writes (slice_get es n) c))
  where
    here : cells_after (take (suc n) es) cells c ≡ written_if (slice_get es n) (cells_after (take n es) cells) c
    here = ap (λ (f : Cells). f c) (after_next cells es n)

    by : IsLastWritten cells es c (cells_after (take n es) cells c) (last_write es c n)
        → (writes (slice_get es n) c ≡ true) ⊎ (writes (slice_get es n) c ≡ false)
        → IsLastWritten cells es c (cells_after (take (suc n) es) cells c) (last_write es c (suc n))
    by h (inl holds) =
        subst (λ b. IsLastWritten cells es c (cells_after (take (suc n) es) cells c) (if b then suc n else last_write es c n)) (sym holds) (record {
          opened = λ e. absurd (omega (arith, e));
          by_write = λ k e.
              let same : k ≡ n = omega (arith, e) in
              ap (λ k. event_at es (suc k)) same ∙ at_next es n ∙ wrote (slice_get es n) c (cells_after (take n es) cells) holds ∙ ap (λ x. Some (events.Write c x)) (sym here);
        })
    by h (inr fails) =
        let same = here ∙ kept (slice_get es n) c (cells_after (take n es) cells) fails in
        subst (λ b. IsLastWritten cells es c (cells_after (take (suc n) es) cells c) (if b then suc n else last_write es c n)) (sym fails)
        (subst (λ x. IsLastWritten cells es c x (last_write es c n)) (sym same) h)

-- the value of a cell of an event order with these opening values
pub last_value : (s : EventOrder) (cells : Cells) → ((c : ℕ) → slice_index_or s.opening c (pos 0) ≡ cells c) → (c n : ℕ) (v : ℤ)
    → v ≡ cells_after (take n s.events) cells c → HasValue s c n v
last_value s cells opens c n v e =
    let h = last_written cells s.events c n in
    record {
      opened = λ z. e ∙ h.opened z ∙ sym (opens c);
      written = λ k z. h.by_write k z ∙ ap (λ x. Some (events.Write c x)) (sym e);
    }
