-- The events that may be passed.
--
-- - `earliest_next`: the earliest of what comes right before a segment's next event; `holds_all`,
--   `holds_from`: what the segment holds by it;
-- - `refused`, `has_no_next`, `is_past`, `is_step`, `is_passed`: whether the next event may be
--   passed.
use Rattle.std.proofs.Common.{◌≡◌, ◌↔◌, ℕ, ◌<◌, ◌≤◌, length, List, Bool, false, true, Option, Some, None, IsTrue, refl, sym, ap, subst, arith}
use Rattle.std.proofs.lemmas.Bool.{leb-true, le-leb}
use lib.Dec.{leb}
use Rattle.cilk_tree.specs.declared.event_order.EventOrder.{EventOrder}
use Rattle.cilk_tree.specs.Word.{WordEvent, plain, read, write, spawn, resume, finish, word_step, predecessors_of, IsWord}
use Rattle.cilk_tree.specs.Along.{IsAlong}
use Rattle.cilk_tree.specs.Earliest.{earliest}
use Rattle.cilk_tree.proofs.AlongPlans.{afters, is_word, many, was_word}
use Rattle.cilk_tree.proofs.Passing.{IsEarliest, earliest_is}
use Rattle.cilk_shared.specs.Values.{SegmentValue, HoldsPreceding, MayPass}

pub earliest_next : (g h : SegmentValue) (s : EventOrder) (o o' : Option ℕ) → g ≡ h → IsAlong s h.event_order → o ≡ earliest (predecessors_of s g.upto) → o ≡ o' → IsEarliest o' (predecessors_of h.event_order h.upto)
earliest_next g h s o o' same along is found =
    subst (λ (x : Option ℕ). IsEarliest x (predecessors_of h.event_order h.upto)) found
    (subst (λ (preceding : ℕ → List ℕ). IsEarliest o (preceding h.upto)) (sym (afters s h.event_order along))
    (subst (λ (k : SegmentValue). IsEarliest o (predecessors_of s k.upto)) same
    (subst (λ (x : Option ℕ). IsEarliest x (predecessors_of s g.upto)) (sym is) (earliest_is (predecessors_of s g.upto)))))

pub holds_all : (h : SegmentValue) → IsEarliest None (predecessors_of h.event_order h.upto) → HoldsPreceding h
holds_all h k e a = absurd (k e a)

pub holds_from : (g h : SegmentValue) (m : ℕ) → g ≡ h → IsEarliest (Some m) (predecessors_of h.event_order h.upto)
    → (IsTrue (leb g.from m) → HoldsPreceding h) × (HoldsPreceding h → IsTrue (leb g.from m))
holds_from g h m same k =
    let from : g.from ≡ h.from = ap (λ (x : SegmentValue). x.from) same in (
      λ t e a. (let l = leb-true g.from m t in let low = k.1 e a in omega (arith, from, l, low)),
      λ holds. le-leb g.from m (let l = holds m k.0 in omega (arith, from, l)),
    )

-- ---- whether the next event may be passed
pub refused : (h : SegmentValue) → (MayPass h → ⊥) → IsTrue false ↔ MayPass h
refused h not = (λ t. absurd (let c : false ≡ true = t in cc c), λ may. absurd (not may))

pub has_no_next : (h : SegmentValue) → h.upto ≤ h.from → MayPass h → ⊥
has_no_next h none may = let l = may.0 in omega (arith, none, l)

pub is_past : (h : SegmentValue) (s : EventOrder) (n : ℕ) → IsAlong s h.event_order → n ≡ length s.events → n < h.upto → MayPass h → ⊥
is_past h s n along all past may = let l = may.1 in let k = many s h.event_order along in omega (arith, l, k, all, past)

pub is_step : (h : SegmentValue) (s : EventOrder) → IsAlong s h.event_order → IsWord (word_step s h.upto) → MayPass h → ⊥
is_step h s along word may = subst IsWord may.2 (is_word s h.event_order along h.upto word)

is_plain : (e : WordEvent) → (IsWord e → ⊥) → e ≡ plain
is_plain plain not = refl
is_plain (read c n) not = absurd (not tt)
is_plain (write c n) not = absurd (not tt)
is_plain spawn not = absurd (not tt)
is_plain (resume q) not = absurd (not tt)
is_plain finish not = absurd (not tt)

pub is_passed : (h : SegmentValue) (s : EventOrder) (n : ℕ) (b : Bool) → IsAlong s h.event_order → n ≡ length s.events → h.from < h.upto → h.upto ≤ n → (IsWord (word_step s h.upto) → ⊥) → IsTrue b ↔ HoldsPreceding h → IsTrue b ↔ MayPass h
is_passed h s n b along all some within not holds =
    let k = many s h.event_order along in (
      λ t. (some, omega (arith, within, all, k), is_plain (word_step h.event_order h.upto) (λ word. not (was_word s h.event_order along h.upto word)), holds.0 t),
      λ may. holds.1 may.3,
    )
