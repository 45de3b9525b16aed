-- The boxes of a shelf, after every history: a block has one at most, and each has a history.
--
-- - `one_without`, `none_without`, `one_last`: one box less, and one more;
-- - `taken_off`, `apart_off`: the box that is taken off, and the rest; `put_back`: whether it is put back;
-- - `kept`: so it is after every history.
use Rattle.std.proofs.Common.{◌≡◌, ◌≢◌, ◌⊎◌, ◌+◌, inl, inr, ⊎_elim, ℕ, zero, suc, nat_eq, eq-eqb, eqb-true, Bool, true, false, true≢false, List, [], ◌∷◌, ◌++◌, slice_get, take, drop, Some, None, refl, sym, ap, ◌∙◌, subst, arith}
use Rattle.std.specs.Prelude.{All}
use Rattle.std.proofs.lemmas.List.Elements.{All-cons, All-head, All-nil, All-push, All-tail}
use Rattle.std.proofs.lemmas.Option.{get_or_from_slice_get, slice_get_within}
use Rattle.cilk_replay.specs.Replays.{ReplayValue}
use Rattle.cilk_workers.specs.Arrivals.{IsAsBefore}
use Rattle.cilk_workers.specs.Boxes.{BoxValue, IsOpen, IsUnused, MayArrive, arrived_at, is_some, opening, stolen_at}
use Rattle.cilk_workers.specs.Histories.{Arrives, HasSteps, Steals}
use Rattle.cilk_workers.specs.Rows.{FitsIn, RunValue, Wait, is_empty, parts_in}
use Rattle.cilk_workers.specs.ShelfHistories.{ArrivesAt, IsShelfHistory, ShelfStep, StealsAt, StepsTo}
use Rattle.cilk_workers.specs.Shelves.{HasNone, HasOneEach, PutsBack, ShelfValue, TakesOff}
use Rattle.cilk_workers.specs.declared.locks.Met.TheVariants as mets
use Rattle.cilk_workers.proofs.Shelves.{all_without, one_of, without}

-- ---- one box less, and one more

abbrev NotOf : ℕ → BoxValue → Type 0
NotOf q b = b.sync ≢ q

one_without : (bs : List BoxValue) (k : ℕ) → HasOneEach bs → HasOneEach (take k bs ++ drop (suc k) bs)
one_without [] zero one = one
one_without [] (suc k) one = one
one_without (b ∷ bs) zero one = one.1
one_without (b ∷ bs) (suc k) one = (without (NotOf b.sync) bs k one.0, one_without bs k one.1)

none_without : (bs : List BoxValue) (k : ℕ) (b : BoxValue) → HasOneEach bs → slice_get bs k ≡ Some b → HasNone (take k bs ++ drop (suc k) bs) b.sync
none_without [] k b one at = absurd (let z : None ≡ Some b = at in cc z)
none_without (c ∷ bs) zero b one at = let same : c ≡ b = (let z : Some c ≡ Some b = at in cc z) in subst (λ (d : BoxValue). HasNone bs d.sync) same one.0
none_without (c ∷ bs) (suc k) b one at =
    let other : b.sync ≢ c.sync = one_of (NotOf c.sync) bs k b (slice_get_within bs k b at) (sym (get_or_from_slice_get bs k b b at)) one.0 in
    All-cons (NotOf b.sync) c (take k bs ++ drop (suc k) bs) (λ e. other (sym e)) (none_without bs k b one.1 at)

one_last : (bs : List BoxValue) (c : BoxValue) → HasOneEach bs → HasNone bs c.sync → HasOneEach (bs ++ c ∷ [])
one_last [] c one none = (All-nil (NotOf c.sync), tt)
one_last (b ∷ bs) c one none = (
  All-push (NotOf b.sync) bs c one.0 (λ e. All-head (NotOf c.sync) b bs none (sym e)),
  one_last bs c one.1 (All-tail (NotOf c.sync) b bs none),
)

-- ---- a box is taken off, and put back

-- what holds of a new box and of all on the shelf
taken_off : (P : BoxValue → Type 0) (s : ShelfValue) (q : ℕ) (b : BoxValue) (rest : ShelfValue) → TakesOff s q b rest → P (opening s.of s.replay q) → All P s.boxes → P b × All P rest.boxes
taken_off P s q b rest (inl (k, at, same, is)) new all = (
  one_of P s.boxes k b (slice_get_within s.boxes k b at) (sym (get_or_from_slice_get s.boxes k b b at)) all,
  all_without P s.boxes rest.boxes k is all,
)
taken_off P s q b rest (inr (none, is, same)) new all = (subst P (sym is) new, subst (All P) (sym same) all)

apart_off : (s : ShelfValue) (q : ℕ) (b : BoxValue) (rest : ShelfValue) → TakesOff s q b rest → HasOneEach s.boxes → HasOneEach rest.boxes × HasNone rest.boxes b.sync
apart_off s q b rest (inl (k, at, same, is)) one =
    let next : suc k ≡ k + 1 = omega arith in
    let on : take k s.boxes ++ drop (suc k) s.boxes ≡ rest.boxes = ap (λ (n : ℕ). take k s.boxes ++ drop n s.boxes) next ∙ sym is in
    (subst HasOneEach on (one_without s.boxes k one), subst (λ (bs : List BoxValue). HasNone bs b.sync) on (none_without s.boxes k b one at))
apart_off s q b rest (inr (none, is, same)) one =
    let its : b.sync ≡ q = ap (λ (c : BoxValue). c.sync) is in
    (subst HasOneEach (sym same) one, subst (λ (z : List BoxValue × ℕ). HasNone z.0 z.1) (λ i. (sym same i, sym its i)) none)

abbrev waits_of : BoxValue → List Wait
waits_of b = let r = b.rows in let w = r.row in w.waits

unused_or_not : (b : BoxValue) → IsUnused b ⊎ (IsUnused b → ⊥)
unused_or_not b = by (nat_eq (parts_in b.rows) 0) refl (is_empty (waits_of b)) refl
  where
    by : (none : Bool) → nat_eq (parts_in b.rows) 0 ≡ none → (whole : Bool) → is_empty (waits_of b) ≡ whole → IsUnused b ⊎ (IsUnused b → ⊥)
    by true p true w = inl (eqb-true (parts_in b.rows) 0 p, w)
    by true p false w = inr (λ u. true≢false (sym u.1 ∙ w))
    by false p whole w = inr (λ u. true≢false (sym (eq-eqb (parts_in b.rows) 0 u.0) ∙ p))

put_back : (rest : ShelfValue) (b : BoxValue) (new : ShelfValue) → PutsBack rest b new → (new.boxes ≡ rest.boxes) ⊎ ((IsUnused b → ⊥) × (new.boxes ≡ rest.boxes ++ b ∷ []))
put_back rest b new back = ⊎_elim (λ (u : IsUnused b). inl (back.unused u)) (λ (used : IsUnused b → ⊥). inr (used, back.used used)) (unused_or_not b)

-- ---- after every history

abbrev Kept : RunValue → ReplayValue → List BoxValue → Type 0
Kept y u boxes = HasOneEach boxes × All (HasSteps y u) boxes

-- one box of the same block is changed
changes : (s rest new : ShelfValue) (q : ℕ) (b after : BoxValue) → TakesOff s q b rest → PutsBack rest after new → after.sync ≡ b.sync
    → (HasSteps s.of s.replay b → (IsUnused after → ⊥) → HasSteps s.of s.replay after) → Kept s.of s.replay s.boxes → Kept s.of s.replay new.boxes
changes s rest new q b after off back same on (one, all) =
    let P : BoxValue → Type 0 = HasSteps s.of s.replay in
    let apart = apart_off s q b rest off one in
    let its = taken_off P s q b rest off ([], tt, tt, refl) all in
    ⊎_elim
    (λ (is : new.boxes ≡ rest.boxes). (subst HasOneEach (sym is) apart.0, subst (All P) (sym is) its.1))
    (λ (used : (IsUnused after → ⊥) × (new.boxes ≡ rest.boxes ++ after ∷ [])). (
      subst HasOneEach (sym used.1) (one_last rest.boxes after apart.0 (subst (HasNone rest.boxes) (sym same) apart.1)),
      subst (All P) (sym used.1) (All-push P rest.boxes after its.1 (on its.0 used.0)),
    ))
    (put_back rest after new back)

as_before : (s new : ShelfValue) (q : ℕ) → IsAsBefore s q new → Kept s.of s.replay s.boxes → Kept s.of s.replay new.boxes
as_before s new q is kept = by is.boxes
  where
    by : (new.boxes ≡ s.boxes) ⊎ ((b : BoxValue) × (rest : ShelfValue) × TakesOff s q b rest × PutsBack rest b new) → Kept s.of s.replay new.boxes
    by (inl same) = subst (Kept s.of s.replay) (sym same) kept
    by (inr (b, rest, off, back)) = changes s rest new q b b off back refl (λ h _. h) kept

one_step : (s new : ShelfValue) (step : ShelfStep) → StepsTo s step new → Kept s.of s.replay s.boxes → Kept s.of s.replay new.boxes
one_step s new (StealsAt q k a true) (same, (block, (own, resumes)), r) kept = changes s r.rest new q r.found (stolen_at r.found k a) r.off r.back refl
    (λ h _. (Steals k a ∷ h.0, (h.1, subst (λ (b : BoxValue). IsOpen b k a) h.3 r.may), (h.2, resumes), ap (λ (b : BoxValue). stolen_at b k a) h.3)) kept
one_step s new (StealsAt q k a false) (same, at, r) kept = as_before s new q r kept
one_step s new (ArrivesAt q a (mets.Passes w)) (same, at, r) kept =
    let answers = r.answers in
    changes s r.rest new q r.found r.after r.off r.back (ap (λ (b : BoxValue). b.sync) answers.4) (λ h used. absurd (used (subst IsUnused (sym answers.4) (refl, refl)))) kept
one_step s new (ArrivesAt q a mets.Waits) (same, (block, (own, ends)), r) kept =
    let answers = r.answers in
    changes s r.rest new q r.found r.after r.off r.back (ap (λ (b : BoxValue). b.sync) answers.1)
    (λ h _. subst (HasSteps s.of s.replay) (sym answers.1) (
      Arrives a.by a.piece a.chain ∷ h.0,
      (h.1, subst (λ (b : BoxValue). MayArrive b a.by a.piece a.chain) h.3 r.may),
      (h.2, subst (λ (b : BoxValue). FitsIn b.rows a.by a.piece) h.3 r.fits, ends),
      ap (λ (b : BoxValue). arrived_at b a.by a.piece (is_some a.chain)) h.3,
    )) kept
one_step s new (ArrivesAt q a mets.Stopped) (same, at, r) kept = as_before s new q r kept

pub kept : (steps : List ShelfStep) (s : ShelfValue) → IsShelfHistory steps s → Kept s.of s.replay s.boxes
kept [] s (empty, none) = subst (Kept s.of s.replay) (sym empty) (tt, All-nil (HasSteps s.of s.replay))
kept (step ∷ steps) new (s, before, (same, at, leads)) =
    subst (λ (z : RunValue × ReplayValue). Kept z.0 z.1 new.boxes) (λ i. (sym same.0 i, sym same.1 i)) (one_step s new step (same, at, leads) (kept steps s before))
