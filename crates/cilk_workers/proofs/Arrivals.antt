-- A box that is taken off its shelf, changed, and put back: `arrives`, `records`; `unmoved`: none is taken
-- off; `marked`: the blocks that have passed then. Where a piece ends: `at_key`; there it has a block, `has_block`.
use Rattle.std.proofs.Common.{◌≡◌, ℕ, Bool, true, false, List, Option, Some, None, inl, inr, refl, sym, ap, ◌∙◌, subst}
use Rattle.cilk_types.specs.declared.event.Event.{Event}
use Rattle.cilk_types.specs.declared.event.Event.TheVariants.{Sync}
use Rattle.cilk_shared.specs.Pieces.{PieceValue}
use Rattle.cilk_replay.specs.Chains.{ChainValue}
use Rattle.cilk_tree.specs.Columns.{IsSpawnOf}
use Rattle.cilk_tree.specs.declared.event_order.EventOrder.{EventOrder}
use Rattle.cilk_tree.specs.Word.{event, plain, predecessors_of, resume, word_event, word_step}
use Rattle.std.specs.Prelude.{OnErr, OnOk, Result, Ok, Err}
use Rattle.std.specs.Result.{is_ok}
use Rattle.cilk_workers.specs.Boxes.{BoxValue, EndsAtKey, IsOpen, MayArrive, is_some, stolen_at}
use Rattle.cilk_workers.specs.Rows.{FitsIn}
use Rattle.cilk_workers.specs.Shelves.{HasPassed, PutsBack, ShelfValue, TakesOff, passed_with}
use Rattle.cilk_workers.specs.Arrivals.{AnswersBy, EndsWhereItWaits, HasArrived, HasRecorded, IsAsBefore, is_passing}
use Rattle.cilk_workers.specs.declared.locks.Arrival.{Arrival}
use Rattle.cilk_workers.specs.declared.locks.Met.{Met}
use Rattle.cilk_workers.specs.declared.locks.Met.TheVariants as mets

-- the blocks that have passed, once the box is put back
pub marked : (s rest new : ShelfValue) (sync : ℕ) (after : BoxValue) (met : Met) (passes : Bool) → rest.passed ≡ s.passed → after.sync ≡ sync → passes ≡ is_passing met
    → new.passed ≡ passed_with rest.passed after.sync passes → new.passed ≡ passed_with s.passed sync (is_passing met)
marked s rest new sync after met passes kept same is put =
    put ∙ (ap (λ (qs : List ℕ). passed_with qs after.sync passes) kept ∙ (ap (λ (q : ℕ). passed_with s.passed q passes) same ∙ ap (λ (b : Bool). passed_with s.passed sync b) is))

-- the box is put back as it was taken off
put_same : (s rest new : ShelfValue) (sync : ℕ) (found after : BoxValue) → TakesOff s sync found rest → after ≡ found → PutsBack rest after new → new.passed ≡ s.passed → IsAsBefore s sync new
put_same s rest new sync found after off same back passed = record {
  passed = passed;
  boxes = inr (found, rest, off, subst (λ (b : BoxValue). PutsBack rest b new) same back);
}

-- no box is taken off
pub unmoved : (s new : ShelfValue) (sync : ℕ) → new.passed ≡ s.passed → new.boxes ≡ s.boxes → IsAsBefore s sync new
unmoved s new sync passed same = record { passed = passed; boxes = inl same }

pub arrives : (s rest new : ShelfValue) (sync : ℕ) (a : Arrival) (found after : BoxValue) (met : Met) → (HasPassed s sync → ⊥) → TakesOff s sync found rest → MayArrive found a.by a.piece a.chain → FitsIn found.rows a.by a.piece → AnswersBy found a met after → PutsBack rest after new
    → new.passed ≡ passed_with s.passed sync (is_passing met) → HasArrived s sync a met new
arrives s rest new sync a found after (mets.Passes w) waits off may fits answers back passed =
    record { waits = waits; found = found; rest = rest; after = after; off = off; may = may; fits = fits; answers = answers; back = back; passed = passed }
arrives s rest new sync a found after mets.Waits waits off may fits answers back passed =
    record { waits = waits; found = found; rest = rest; after = after; off = off; may = may; fits = fits; answers = answers; back = back; passed = passed }
arrives s rest new sync a found after mets.Stopped waits off may fits answers back passed = put_same s rest new sync found after off answers back passed

if_ok : {T E : Type 0} (P : Type 0) (r : Result T E) (told : Bool) → told ≡ is_ok r → told ≡ true → OnOk r P → P
if_ok P (Ok x) told is so h = h
if_ok P (Err e) told is so h = absurd (let both : false ≡ true = sym is ∙ so in cc both)

if_err : {T E : Type 0} (P : Type 0) (r : Result T E) (told : Bool) → told ≡ is_ok r → told ≡ false → OnErr r P → P
if_err P (Ok x) told is so h = absurd (let both : true ≡ false = sym is ∙ so in cc both)
if_err P (Err e) told is so h = h

pub records : {T E : Type 0} (s rest new : ShelfValue) (sync k goes_on : ℕ) (found after : BoxValue) (r : Result T E) (told : Bool) → (HasPassed s sync → ⊥) → TakesOff s sync found rest → IsOpen found k goes_on
    → OnOk r (after ≡ stolen_at found k goes_on) → OnErr r (after ≡ found) → told ≡ is_ok r → PutsBack rest after new → new.passed ≡ s.passed → HasRecorded s sync k goes_on told new
records s rest new sync k goes_on found after r true waits off may stolen same is back passed = record {
  waits = waits;
  found = found;
  rest = rest;
  off = off;
  may = may;
  back = subst (λ (b : BoxValue). PutsBack rest b new) (if_ok (after ≡ stolen_at found k goes_on) r true is refl stolen) back;
  passed = passed;
}
records s rest new sync k goes_on found after r false waits off may stolen same is back passed =
    put_same s rest new sync found after off (if_err (after ≡ found) r false is refl same) back passed

no_resume : (s : EventOrder) (p k : ℕ) → event s p ≡ Some Sync → word_step s p ≡ resume k → ⊥
no_resume s p k is there = let z : plain ≡ resume k = ap (λ (o : Option Event). word_event s.events p o (predecessors_of s p)) (sym is) ∙ there in cc z

pub at_key : (s : EventOrder) (p : PieceValue) (chain : Option ChainValue) (by : ℕ) → EndsWhereItWaits s p chain → ((k : ℕ) → word_step s p.upto ≡ resume k → by ≡ k)
    → (((k : ℕ) → word_step s p.upto ≡ resume k → ⊥) → by ≡ p.upto) → EndsAtKey s by p (is_some chain)
at_key s p None by ends child own = subst (λ n. word_step s p.upto ≡ resume n) (sym (child ends.0 ends.1)) ends.1
at_key s p (Some c) by ends child own = sym (own (λ k there. no_resume s p.upto k ends.0 there))

pub has_block : (s : EventOrder) (p : PieceValue) (chain : Option ChainValue) (P : Type 0) → EndsWhereItWaits s p chain → ((k : ℕ) → word_step s p.upto ≡ resume k → P)
    → ((k : ℕ) → IsSpawnOf s p.upto k → P) → P
has_block s p None P ends child own = child ends.0 ends.1
has_block s p (Some c) P ends child own = let begins = ends.1 in own begins.0 begins.2
