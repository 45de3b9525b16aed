-- A worker's keys, one for each shelf.
use Rattle.std.specs.Prelude.{◌≡◌, ◌+◌, ◌%◌, ℕ, suc, Bool, List, [], ◌∷◌, Option, Some, length, slice_get, slice_index_or, slice_set}
use Rattle.crossbeam_queue.specs.declared.array_queue.Doing.{Doing}
use Rattle.crossbeam_queue.specs.declared.array_queue.Slotted.{Slotted}
use Rattle.crossbeam_queue.specs.Passes.{Pass, IsPassOf, view}
use Rattle.cilk_workers.specs.Locks.{IsFreeAt, uses}
use Rattle.cilk_replay.specs.Chains.{ChainValue}
use Rattle.cilk_shared.specs.Pieces.{PieceValue}
use Rattle.cilk_tree.specs.Columns.{IsOfBlock}
use Rattle.cilk_tree.specs.declared.event_order.EventOrder.{EventOrder}
use Rattle.cilk_workers.specs.Shared.{IsNumberOf}
use Rattle.cilk_workers.specs.ShelfHistories.{ArrivesAt, IsOneStep, LeadsBy, ShelfStep, StealsAt}
use Rattle.cilk_workers.specs.Shelves.{IsPlaceOf, ShelfValue, place}
use Rattle.cilk_workers.specs.declared.lock.KeyState.{KeyState}
use Rattle.cilk_workers.specs.declared.locks.Arrival.{Arrival}
use Rattle.cilk_workers.specs.declared.activity.Activity.{Activity}
use Rattle.cilk_workers.specs.declared.activity.Activity.TheVariants as hands
use Rattle.cilk_workers.specs.declared.activity.ExitReason.TheVariants as finishes
use Rattle.cilk_workers.specs.declared.locks.Met.{Met}
use Rattle.cilk_workers.specs.declared.locks.Met.TheVariants as mets
use Rattle.cilk_workers.specs.declared.lock.KeyState.TheVariants.{Holds, Free}
use Rattle.cilk_workers.specs.declared.shelf.Place.{Place}
use Rattle.cilk_workers.specs.declared.shelf.Shelf.{Shelf}

-- the key holds a shelf, from which one step leads to this one
abbrev pub HoldsBefore : Pass Shelf KeyState → ShelfValue → Type 0
HoldsBefore p new = (s : Shelf) × (n : ℕ) × (view p ≡ Holds s n) × IsOneStep s new

-- The key was used once, for this step: it held the shelf from which the step leads to the one that it put back.
abbrev pub Makes : Pass Shelf KeyState → ShelfStep → Pass Shelf KeyState → Type 0
Makes p step q = (s back : Shelf) × (view q ≡ Free s back (suc (uses (view p)))) × LeadsBy step s back

-- So was the key for block b, and no other of these keys.
abbrev pub MakesFor : ℕ → List (Pass Shelf KeyState) → ShelfStep → List (Pass Shelf KeyState) → Type 0
MakesFor b ps step new =
    let i = b % length ps in (p q : Pass Shelf KeyState) × (slice_get ps i ≡ Some p) × (new ≡ slice_set ps i q) × Makes p step q

-- The steal of the continuation that resumes at a, after the spawn at k, was recorded at its block, or not if memory ran
-- out. Nothing else was done with these keys.
abbrev pub TellsSteal : EventOrder → ℕ → ℕ → List (Pass Shelf KeyState) → Bool → List (Pass Shelf KeyState) → Type 0
TellsSteal s k a ps told new = (b q : ℕ) × IsNumberOf s b q × IsOfBlock s q a × MakesFor b ps (StealsAt q k a told) new

-- After an arrival a worker continues with what passes; or it has no work, since its piece waits; or it ran out of memory.
abbrev pub GoesOnBy : Met → Activity → Type 0
GoesOnBy (mets.Passes passed) (hands.Holds work) = work ≡ passed
GoesOnBy mets.Waits (hands.Idle p) = Unit {0}
GoesOnBy mets.Stopped (hands.Done finishes.OutOfMemory) = Unit {0}
GoesOnBy _ _ = ⊥

-- A piece arrived at the block of its next position, with a chain or without, the worker went on by the answer, and nothing
-- else was done with these keys.
abbrev pub Arrived : EventOrder → PieceValue → Option ChainValue → List (Pass Shelf KeyState) → Activity → List (Pass Shelf KeyState) → Type 0
Arrived s p c ps next new =
    (b q : ℕ) × (a : Arrival) × (met : Met) × IsNumberOf s b q × IsOfBlock s q p.upto × (a.piece ≡ p) × (a.chain ≡ c) × GoesOnBy met next
    × MakesFor b ps (ArrivesAt q a met) new

module _ {Q A : Type 0} where
  -- the key is of the lock of the shelf at this place, and doesn't hold that
  abbrev pub IsFree : Slotted (Option Shelf) (Doing Shelf KeyState) Q A → Place → Pass Shelf KeyState → Type 0
  IsFree d at p = IsPassOf d p × IsFreeAt at (view p)

  -- if the one key is of the lock and free, so is the other, for the same place
  abbrev pub IsFreeLike : Slotted (Option Shelf) (Doing Shelf KeyState) Q A → Pass Shelf KeyState → Pass Shelf KeyState → Type 0
  IsFreeLike d p q = (at : Place) → IsFree d at p → IsFree d at q

  -- it is a free key of the lock of the shelf for block b
  abbrev pub IsKeyFor : Slotted (Option Shelf) (Doing Shelf KeyState) Q A → ℕ → Pass Shelf KeyState → Type 0
  IsKeyFor d b p = (at : Place) × IsFree d at p × IsPlaceOf at b

  -- the keys are free, and of the locks with the numbers i, i + 1, .. among n
  abbrev pub AreKeysFrom : ℕ → ℕ → List (Slotted (Option Shelf) (Doing Shelf KeyState) Q A) → List (Pass Shelf KeyState) → Type 0
  AreKeysFrom i n [] [] = Unit {0}
  AreKeysFrom i n [] (p ∷ ps) = ⊥
  AreKeysFrom i n (d ∷ ds) [] = ⊥
  AreKeysFrom i n (d ∷ ds) (p ∷ ps) = IsFree d (place i n) p × AreKeysFrom (i + 1) n ds ps

  -- each key is of its lock and free
  abbrev pub AreKeys : List (Slotted (Option Shelf) (Doing Shelf KeyState) Q A) → List (Pass Shelf KeyState) → Type 0
  AreKeys ds ps = AreKeysFrom 0 (length ds) ds ps

  -- the key is of the lock with this number and free
  abbrev pub IsKeyAt : List (Slotted (Option Shelf) (Doing Shelf KeyState) Q A) → ℕ → Pass Shelf KeyState → Type 0
  IsKeyAt ds i p = (d : Slotted (Option Shelf) (Doing Shelf KeyState) Q A) → d ≡ slice_index_or ds i d → IsFree d (place i (length ds)) p
