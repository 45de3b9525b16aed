-- Shelves of join boxes.
use Rattle.std.specs.Prelude.{◌≡◌, ◌≢◌, ◌+◌, ◌%◌, ◌<◌, ◌⊎◌, ◌∷◌, ◌++◌, [], ℕ, Bool, true, false, List, All, Some, drop, length, slice_get, take}
use Rattle.cilk_replay.specs.Replays.{ReplayValue}
use Rattle.cilk_workers.specs.Rows.{RunValue}
use Rattle.cilk_workers.specs.Boxes.{BoxValue, IsUnused, opening}
use Rattle.cilk_workers.specs.Histories.{Has}
use Rattle.cilk_workers.specs.declared.shelf.Place.{Place}

-- a run, its replay, the shelf's place, its boxes, and the blocks that have passed, by their `sync`s; and
-- the numbers of boxes and of such blocks that there is room for
pub record ShelfValue : Type 0 where
  pub of : RunValue
  pub replay : ReplayValue
  pub place : Place
  pub boxes : List BoxValue
  pub room : ℕ
  pub passed : List ℕ
  pub passed_room : ℕ

abbrev pub shelf : RunValue → ReplayValue → Place → List BoxValue → ℕ → List ℕ → ℕ → ShelfValue
shelf y c at boxes room passed passed_room = record { of = y; replay = c; place = at; boxes = boxes; room = room; passed = passed; passed_room = passed_room }

-- the place of a shelf by its number, among so many shelves
abbrev pub place : ℕ → ℕ → Place
place number count = record { number = number; count = count }

-- the shelf at this place is the one for block b
abbrev pub IsPlaceOf : Place → ℕ → Type 0
IsPlaceOf at b = b % at.count ≡ at.number

-- no box is on the shelf, and none of its blocks has passed
abbrev pub IsEmptyShelf : ShelfValue → Type 0
IsEmptyShelf s = (s.boxes ≡ []) × (s.passed ≡ [])

-- there is room for one more box, and for one more block that has passed
abbrev pub HasRoom : ShelfValue → Type 0
HasRoom s = (length s.boxes < s.room) × (length s.passed < s.passed_room)

-- the block that ends with the `sync` at a position has passed
abbrev pub HasPassed : ShelfValue → ℕ → Type 0
HasPassed s sync = Has s.passed sync

-- the blocks that have passed, once this one passes too or doesn't
abbrev pub passed_with : List ℕ → ℕ → Bool → List ℕ
passed_with syncs sync true = syncs ++ sync ∷ []
passed_with syncs sync false = syncs

-- it belongs to the same run, and is at the same place
abbrev pub IsSameShelf : ShelfValue → ShelfValue → Type 0
IsSameShelf s new = (new.of ≡ s.of) × (new.replay ≡ s.replay) × (new.place ≡ s.place)

-- the box belongs to the shelf's run
abbrev pub LiesOn : RunValue → ReplayValue → BoxValue → Type 0
LiesOn y c b = (let r = b.rows in r.of ≡ y) × (b.replay ≡ c)

-- the box at a place is removed
abbrev pub ComesOut : List BoxValue → ℕ → BoxValue → List BoxValue → Type 0
ComesOut old k b new = (slice_get old k ≡ Some b) × (new ≡ take k old ++ drop (k + 1) old)

-- none of the boxes is that of the block that ends with the `sync` at a position
abbrev pub HasNone : List BoxValue → ℕ → Type 0
HasNone boxes sync = All (λ (b : BoxValue). b.sync ≢ sync) boxes

-- each block has one of the boxes at most
abbrev pub HasOneEach : List BoxValue → Type 0
HasOneEach [] = Unit {0}
HasOneEach (b ∷ boxes) = HasNone boxes b.sync × HasOneEach boxes

-- The box of a block is taken off the shelf, if it is there. Otherwise it is a new box, and the
-- shelf is unchanged.
abbrev pub TakesOff : ShelfValue → ℕ → BoxValue → ShelfValue → Type 0
TakesOff s sync b new =
    ((k : ℕ) × (slice_get s.boxes k ≡ Some b) × (b.sync ≡ sync) × (new.boxes ≡ take k s.boxes ++ drop (k + 1) s.boxes))
    ⊎ (HasNone s.boxes sync × (b ≡ opening s.of s.replay sync) × (new.boxes ≡ s.boxes))

-- A box is appended; one in which nothing waits is dropped.
pub record PutsBack (s : ShelfValue) (b : BoxValue) (new : ShelfValue) : Type 0 where
  pub unused : IsUnused b → new.boxes ≡ s.boxes
  pub used : (IsUnused b → ⊥) → new.boxes ≡ s.boxes ++ b ∷ []
