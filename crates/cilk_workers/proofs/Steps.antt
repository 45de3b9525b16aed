-- A step at a shelf that is locked: `keeps`: it is at its own block, one of the shelf's; `unlocked`: after it the key is free
-- for the same place; `put_back`: it knows the two shelves; `makes`: it made the step.
use Rattle.std.proofs.Common.{◌≡◌, ℕ, suc, Option, sym, ap, ◌∙◌, subst}
use Rattle.crossbeam_queue.specs.declared.array_queue.Doing.{Doing}
use Rattle.crossbeam_queue.specs.declared.array_queue.Slotted.{Slotted}
use Rattle.crossbeam_queue.specs.Passes.{IsPassOf, view}
use Rattle.cilk_workers.specs.Keys.{IsFreeLike, Makes}
use Rattle.cilk_workers.specs.Locks.{IsFreeAt, freed, uses}
use Rattle.cilk_workers.specs.Rows.{RunValue}
use Rattle.cilk_workers.specs.Shared.{IsNumberOf}
use Rattle.cilk_workers.specs.ShelfHistories.{IsOwnStep, IsStepAt, LeadsBy, ShelfStep, sync_of}
use Rattle.cilk_workers.specs.Shelves.{IsPlaceOf, IsSameShelf, ShelfValue}
use Rattle.cilk_workers.specs.declared.lock.KeyState.{KeyState}
use Rattle.cilk_workers.specs.declared.lock.KeyState.TheVariants.{Free, Holds}
use Rattle.cilk_workers.specs.declared.shelf.Place.{Place}
use Rattle.cilk_workers.specs.declared.shelf.Shelf.{Shelf}
use Rattle.cilk_workers.proofs.Keys.{Key}

-- the run has the one name, and the shelf is at the place of the block
pub keeps : (named y : RunValue) (at : Place) (s : ShelfValue) (b : ℕ) (step : ShelfStep) → named ≡ y → s.of ≡ named → s.place ≡ at → IsNumberOf y.event_order b (sync_of step) → IsPlaceOf at b
    → IsOwnStep y.event_order step → IsStepAt s.of s.place step
keeps named y at s b step name of is number place own = (
  (
    b,
    subst (λ (z : RunValue). IsNumberOf z.event_order b (sync_of step)) (sym (of ∙ name)) number,
    subst (λ (z : Place). IsPlaceOf z b) (sym is) place,
  ),
  subst (λ (z : RunValue). IsOwnStep z.event_order step) (sym (of ∙ name)) own,
)

pub put_back : (v w : KeyState) (s back : Shelf) (n : ℕ) → v ≡ Holds s n → w ≡ freed v back → w ≡ Free s back (suc n)
put_back v w s back n holds is = is ∙ ap (λ u. freed u back) holds

pub makes : (key left : Key) (v : KeyState) (step : ShelfStep) (s back : Shelf) → v ≡ Holds s (uses (view key)) → view left ≡ freed v back → LeadsBy step s back → Makes key step left
makes key left v step s back holds is leads = (s, back, put_back v (view left) s back (uses (view key)) holds is, leads)

module _ {Q A : Type 0} where
  pub unlocked : (d : Slotted (Option Shelf) (Doing Shelf KeyState) Q A) (key : Key) (s new : Shelf) (n : ℕ) (left : Key) → ((at : Place) → IsFreeAt at (view key) → s.place ≡ at) → IsSameShelf s new
      → IsPassOf d left → view left ≡ Free s new n → IsFreeLike d key left
  unlocked d key s new n left found same its is at free = (its, subst (IsFreeAt at) (sym is) (same.2 ∙ found at free.1))
