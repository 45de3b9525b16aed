-- The contents of cells, by words and by values.
--
-- - `shows_value`: the word of a cell is that of its value;
-- - `reads_shows`: a read gives what the word shows before it;
-- - `final_value`: what the word shows after all events is the cell's last value;
-- - `read_back`: a value from its word;
-- - `copied`: one more value is copied.
use Rattle.std.proofs.Common.{◌≡◌, inl, inr, ⊎_elim, ℕ, zero, suc, ◌+◌, ◌-◌, ◌<◌, ◌≤◌, ℤ, pos, List, [], ◌∷◌, ◌++◌, get_or, length, Option, Some, slice_index_or, refl, sym, ap, ◌∙◌, subst, arith}
use Rattle.std.specs.Prelude.{FitsSigned}
use Rattle.std.specs.Int.{cast_signed, w64}
use Rattle.std.proofs.lemmas.Int.{to_z-of_z}
use Rattle.std.proofs.lemmas.List.{get_or_append_left, get_or-append-add}
use mathlib.Core.Logic.{dite}
use mathlib.Core.Option.{some, some-injective, some-ne-none}
use native.Mathlib.Decide.{dec_le, dec_lt}
use lib.ListN.{get_elem?}
use Rattle.cilk_types.specs.declared.event.Event.{Event}
use Rattle.cilk_types.specs.declared.event.Event.TheVariants as events
use Rattle.cilk_tree.specs.Races.{event_at, Writes}
use Rattle.cilk_tree.specs.Sources.{last_write, IsLastWrite}
use Rattle.cilk_tree.proofs.Sources.{sources_last}
use Rattle.cilk_tree.specs.declared.event_order.EventOrder.{EventOrder}
use Rattle.cilk_tree.specs.Word.{predecessors_of, read, write, word, word_step}
use Rattle.cilk_tree.specs.Orders.{IsOrderly}
use Rattle.cilk_tree.specs.Runs.{IsFollowed}
use Rattle.cilk_tree.specs.Values.{HasValue, HasValues}
use Rattle.cilk_tree.proofs.Events.{read_event, write_event, write_what}
use Rattle.cilk_shared.specs.Rule.{Shows}
use Rattle.cilk_shared.proofs.Sets.{shows_once, shows_along, word_of_read, word_of_write}

writes_at : (s : EventOrder) (q c n : ℕ) → word_step s q ≡ write c n → Writes (event_at s.events q) c
writes_at s q c n is = let w = write_event s.events q (event_at s.events q) (predecessors_of s q) c n is in subst (λ (o : Option Event). Writes o c) (sym w.1) refl

last_is : (s : EventOrder) (c n : ℕ) → IsLastWrite s.events c (suc n) (last_write s.events c n)
last_is s c n = let z : suc n - 1 ≡ n = omega arith in subst (λ (k : ℕ). IsLastWrite s.events c (suc n) (last_write s.events c k)) z (sources_last s.events c (suc n) (omega arith))

pub shows_value : (s : EventOrder) → IsOrderly s → (c n : ℕ) (v : ℤ) → HasValue s c n v → Shows s (λ q. q < suc n) c (word v)
shows_value s law c n v h = by (last_write s.events c n) refl
  where
    by : (m : ℕ) → last_write s.events c n ≡ m → Shows s (λ q. q < suc n) c (word v)
    by zero e = inl (
      ap word (h.opened e),
      λ q w lt is. (let low = (law.inside q (word_of_write (word_step s q) c w is)).0 in (last_is s c n).last q (omega (arith, e, low)) lt (writes_at s q c w is)),
    )
    by (suc k) e = inr (
      suc k,
      (let l = (last_is s c n).earlier in omega (arith, e, l)),
      write_what s.events (suc k) (event_at s.events (suc k)) (predecessors_of s (suc k)) c v (h.written k e),
      λ r w lt is. dite (dec_le r (suc k)) (λ (le : r ≤ suc k). le) (λ no. absurd ((last_is s c n).last r (omega (arith, e)) lt (writes_at s r c w is))),
    )

pub reads_shows : (s : EventOrder) → IsOrderly s → HasValues s → (p c n : ℕ) → IsFollowed s p → word_step s p ≡ read c n → Shows s (λ q. q < p) c n
reads_shows s law values p c n up is =
    let r = read_event s.events p (event_at s.events p) (predecessors_of s p) c n is in
    let low = (law.inside p (word_of_read (word_step s p) c n is)).0 in
    let z : suc (p - 1) ≡ p = omega (arith, low) in
    subst (λ (k : ℕ). Shows s (λ q. q < k) c n) z
    (subst (λ (x : ℕ). Shows s (λ q. q < suc (p - 1)) c x) r.2 (shows_value s law c (p - 1) r.0 (values.reads p c r.0 up r.1)))

write_from : (o : Option Event) (c : ℕ) → Writes o c → (v : ℤ) × (o ≡ Some (events.Write c v))
write_from (Some (events.Write d v)) c h = (v, ap (λ (x : ℕ). Some (events.Write x v)) h)
write_from o c h = absurd h

-- each cell has a value, and that is a word
valued : (s : EventOrder) → HasValues s → (c n : ℕ) → (v : ℤ) × HasValue s c n v × FitsSigned w64 v
valued s values c n = by (last_write s.events c n) refl
  where
    by : (m : ℕ) → last_write s.events c n ≡ m → (v : ℤ) × HasValue s c n v × FitsSigned w64 v
    by zero e = (
      slice_index_or s.opening c (pos 0),
      record { opened = λ _. refl; written = λ q f. absurd (omega (arith, e, f)) },
      values.opening_words c,
    )
    by (suc k) e =
        let w : (v : ℤ) × (event_at s.events (suc k) ≡ Some (events.Write c v)) = ⊎_elim
        (λ (z : last_write s.events c n ≡ 0). absurd (omega (arith, e, z)))
        (λ (h : Writes (event_at s.events (last_write s.events c n)) c). write_from (event_at s.events (suc k)) c (subst (λ (j : ℕ). Writes (event_at s.events j) c) e h))
        (last_is s c n).written in (
          w.0,
          record {
            opened = λ z. absurd (omega (arith, e, z));
            written = λ q f. (let same : suc k ≡ suc q = sym e ∙ f in subst (λ (j : ℕ). event_at s.events j ≡ Some (events.Write c w.0)) same w.1);
          },
          values.written_words (suc k) c w.0 w.1,
        )

-- a value from its word
pub read_back : (v : ℤ) (n : ℕ) → FitsSigned w64 v → word v ≡ n → cast_signed w64 n ≡ v
read_back v n fits e = ap (cast_signed w64) (sym e) ∙ to_z-of_z w64 v fits

pub final_value : (s : EventOrder) → IsOrderly s → HasValues s → (c n : ℕ) → Shows s (λ q. Unit {0}) c n → HasValue s c (length s.events) (cast_signed w64 n)
final_value s law values c n shows =
    let x = valued s values c (length s.events) in
    let all : Shows s (λ q. Unit {0}) c (word x.0) = shows_along s (λ q. q < suc (length s.events)) (λ q. Unit {0}) c (word x.0)
    (λ q v lt w. tt)
    (λ q v _ w. (let i = (law.inside q (word_of_write (word_step s q) c v w)).1 in omega (arith, i)))
    (shows_value s law c (length s.events) x.0 x.1) in
    subst (λ (v : ℤ). HasValue s c (length s.events) v) (sym (read_back x.0 n x.2 (shows_once s (λ q. Unit {0}) c (word x.0) n all shows))) x.1

got : {A : Type 0} (l : List A) (i : ℕ) (a d : A) → get_elem? l i ≡ some a → get_or l i d ≡ a
got [] i a d e = absurd (some-ne-none a (sym e))
got (x ∷ xs) zero a d e = some-injective x a e
got (x ∷ xs) (suc i) a d e = got xs i a d e

pub copied : (xs : List ℤ) (ys : List ℕ) (n y : ℕ) (v : ℤ) → length xs ≡ n → ((k : ℕ) → k < n → get_or xs k (pos 0) ≡ cast_signed w64 (get_or ys k 0)) → get_elem? ys n ≡ some y → v ≡ cast_signed w64 y
    → (k : ℕ) → k < n + 1 → get_or (xs ++ v ∷ []) k (pos 0) ≡ cast_signed w64 (get_or ys k 0)
copied xs ys n y v len same there is k lt = dite (dec_lt k n)
    (λ (old : k < n). get_or_append_left xs (v ∷ []) (pos 0) k (omega arith) ∙ same k old)
    (λ no.
    let new : k ≡ length xs + 0 = omega arith in
    let at : k ≡ n = omega arith in
    ap (λ j. get_or (xs ++ v ∷ []) j (pos 0)) new ∙ get_or-append-add xs (v ∷ []) 0 (pos 0) ∙ is ∙ ap (cast_signed w64) (sym (got ys n y 0 there) ∙ ap (λ j. get_or ys j 0) (sym at)))
