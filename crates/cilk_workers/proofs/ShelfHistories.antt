-- The laws of a shelf, after every history.
--
-- - `has_last`, `once_last`: one more at the end of a list;
-- - `known`: a shelf knows which of its blocks have passed;
-- - `laws`: the laws;
-- - `still`, `still_at`: a shelf of the run with one step more, and one of a place.
use Rattle.std.proofs.Common.{◌≡◌, ◌⊎◌, inl, inr, ⊎_elim, ℕ, true, false, List, [], ◌∷◌, ◌++◌, sym, ap, ◌∙◌, subst}
use Rattle.cilk_replay.specs.Replays.{ReplayValue}
use Rattle.cilk_workers.specs.Histories.{Has, IsOnce}
use Rattle.cilk_workers.specs.Locks.{IsShelf, IsShelfAt}
use Rattle.cilk_workers.specs.Rows.{RunValue}
use Rattle.cilk_workers.specs.ShelfHistories.{ArrivesAt, BlocksPassOnce, IsOneStep, IsShelfHistory, ShelfStep, StealsAt, passed_blocks}
use Rattle.cilk_workers.specs.Shelves.{HasPassed, ShelfValue, passed_with}
use Rattle.cilk_workers.specs.declared.locks.Met.TheVariants as mets
use Rattle.cilk_workers.specs.declared.shelf.Place.{Place}
use Rattle.cilk_workers.proofs.BoxHistories.{kept}

has_last : (qs : List ℕ) (q x : ℕ) → Has (qs ++ q ∷ []) x → Has qs x ⊎ (q ≡ x)
has_last [] q x (inl same) = inr same
has_last [] q x (inr h) = absurd h
has_last (p ∷ qs) q x (inl same) = inl (inl same)
has_last (p ∷ qs) q x (inr h) = ⊎_elim (λ (there : Has qs x). inl (inr there)) (λ (same : q ≡ x). inr same) (has_last qs q x h)

once_last : (qs : List ℕ) (q : ℕ) → IsOnce qs → (Has qs q → ⊥) → IsOnce (qs ++ q ∷ [])
once_last [] q once not = ((λ h. h), tt)
once_last (p ∷ qs) q once not = (
  (λ h. ⊎_elim (λ (there : Has qs p). once.0 there) (λ (same : q ≡ p). not (inl (sym same))) (has_last qs q p h)),
  once_last qs q once.1 (λ h. not (inr h)),
)

known : (steps : List ShelfStep) (s : ShelfValue) → IsShelfHistory steps s → s.passed ≡ passed_blocks steps
known [] s h = h.1
known (StealsAt q k a true ∷ steps) s h = let r = h.2.2 in r.passed ∙ known steps h.0 h.1
known (StealsAt q k a false ∷ steps) s h = let r = h.2.2 in r.passed ∙ known steps h.0 h.1
known (ArrivesAt q a (mets.Passes w) ∷ steps) s h = let r = h.2.2 in r.passed ∙ ap (λ (qs : List ℕ). passed_with qs q true) (known steps h.0 h.1)
known (ArrivesAt q a mets.Waits ∷ steps) s h = let r = h.2.2 in r.passed ∙ known steps h.0 h.1
known (ArrivesAt q a mets.Stopped ∷ steps) s h = let r = h.2.2 in r.passed ∙ known steps h.0 h.1

-- a block that has passed, to the shelf
is_known : (steps : List ShelfStep) (s : ShelfValue) → IsShelfHistory steps s → (q : ℕ) → Has (passed_blocks steps) q → HasPassed s q
is_known steps s h q has = subst (λ (qs : List ℕ). Has qs q) (sym (known steps s h)) has

once : (steps : List ShelfStep) (s : ShelfValue) → IsShelfHistory steps s → IsOnce (passed_blocks steps)
once [] s h = tt
once (StealsAt q k a recorded ∷ steps) s h = once steps h.0 h.1
once (ArrivesAt q a (mets.Passes w) ∷ steps) s h = let r = h.2.2 in once_last (passed_blocks steps) q (once steps h.0 h.1) (λ has. r.waits (is_known steps h.0 h.1 q has))
once (ArrivesAt q a mets.Waits ∷ steps) s h = once steps h.0 h.1
once (ArrivesAt q a mets.Stopped ∷ steps) s h = once steps h.0 h.1

pub laws : BlocksPassOnce
laws steps s h = record {
  once = once steps s h;
  known = is_known steps s h;
  none_stolen = λ q k a new has r. r.waits (is_known steps s h q has);
  none_arrives = λ q a met new has r. r.waits (is_known steps s h q has);
  one_box = let k = kept steps s h in k.0;
  joined = let k = kept steps s h in k.1;
}

pub still : (y : RunValue) (replay : ReplayValue → Type 0) (s new : ShelfValue) → IsShelf y replay s → IsOneStep s new → IsShelf y replay new
still y replay s new is (step, (same, at, leads)) =
    let h = is.2 in (same.0 ∙ is.0, subst replay (sym same.1) is.1, (step ∷ h.0, (s, h.1, (same, at, leads))))

pub still_at : (y : RunValue) (replay : ReplayValue → Type 0) (place : Place) (s new : ShelfValue) → IsShelfAt y replay place s → IsOneStep s new → IsShelfAt y replay place new
still_at y replay place s new is step = (still y replay s new is.0 step, (let same = step.1.0 in same.2) ∙ is.1)
