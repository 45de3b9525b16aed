-- The histories of a shelf: at its blocks continuations are stolen and pieces arrive.
use Rattle.std.specs.Prelude.{◌≡◌, ℕ, All, Bool, List, [], ◌∷◌}
use Rattle.cilk_shared.specs.Pieces.{PieceValue}
use Rattle.cilk_tree.specs.Columns.{IsOfBlock}
use Rattle.cilk_tree.specs.Word.{resume, word_step}
use Rattle.cilk_tree.specs.declared.event_order.EventOrder.{EventOrder}
use Rattle.cilk_workers.specs.Arrivals.{Arrives, HasArrived, HasRecorded, Records, is_passing}
use Rattle.cilk_workers.specs.Boxes.{EndsAtKey, is_some}
use Rattle.cilk_workers.specs.Histories.{Has, HasSteps, IsOnce}
use Rattle.cilk_workers.specs.Rows.{RunValue}
use Rattle.cilk_workers.specs.Shared.{IsNumberOf}
use Rattle.cilk_workers.specs.Shelves.{HasOneEach, HasPassed, IsEmptyShelf, IsPlaceOf, IsSameShelf, ShelfValue, passed_with}
use Rattle.cilk_workers.specs.declared.locks.Arrival.{Arrival}
use Rattle.cilk_workers.specs.declared.locks.Met.{Met}
use Rattle.cilk_workers.specs.declared.shelf.Place.{Place}

-- At the block that ends with a `sync`, the continuation of the child with this key is stolen, which
-- continues at a position, and that is recorded or not; or a piece arrives, with its outcome.
pub data ShelfStep : Type 0 where
  StealsAt : (sync : ℕ) (key : ℕ) (goes_on : ℕ) (recorded : Bool) → ShelfStep
  ArrivesAt : (sync : ℕ) (arrival : Arrival) (met : Met) → ShelfStep

-- the `sync` of its block
abbrev pub sync_of : ShelfStep → ℕ
sync_of (StealsAt q k a recorded) = q
sync_of (ArrivesAt q a met) = q

-- the step leads from one shelf to another
abbrev pub LeadsBy : ShelfStep → ShelfValue → ShelfValue → Type 0
LeadsBy (StealsAt q k a recorded) s new = HasRecorded s q k a recorded new
LeadsBy (ArrivesAt q a met) s new = HasArrived s q a met new

-- in this run, the block that ends with a `sync` has its box on the shelf at this place
abbrev pub KeepsBlock : RunValue → Place → ℕ → Type 0
KeepsBlock y at sync = (b : ℕ) × IsNumberOf y.event_order b sync × IsPlaceOf at b

-- the piece ends at a position of the block that ends with the `sync` at q
abbrev pub EndsInBlock : EventOrder → ℕ → PieceValue → Type 0
EndsInBlock s q p = IsOfBlock s q p.upto

-- A step is at its own block: the stolen continuation is one of the block's, and the piece ends there, at its
-- key.
abbrev pub IsOwnStep : EventOrder → ShelfStep → Type 0
IsOwnStep s (StealsAt q k a recorded) = IsOfBlock s q a × (word_step s a ≡ resume k)
IsOwnStep s (ArrivesAt q a met) = EndsInBlock s q a.piece × EndsAtKey s a.by a.piece (is_some a.chain)

-- and that block has its box on the shelf at this place
abbrev pub IsStepAt : RunValue → Place → ShelfStep → Type 0
IsStepAt y at step = KeepsBlock y at (sync_of step) × IsOwnStep y.event_order step

-- the step at its own block, which is one of the shelf's, leads to the new shelf
abbrev pub StepsTo : ShelfValue → ShelfStep → ShelfValue → Type 0
StepsTo s step new = IsSameShelf s new × IsStepAt s.of s.place step × LeadsBy step s new

-- so does one step
abbrev pub IsOneStep : ShelfValue → ShelfValue → Type 0
IsOneStep s new = (step : ShelfStep) × StepsTo s step new

-- ---- steps from an empty shelf on, the latest step first

-- they lead to this shelf, each at its own block
abbrev pub IsShelfHistory : List ShelfStep → ShelfValue → Type 0
IsShelfHistory [] s = IsEmptyShelf s
IsShelfHistory (step ∷ steps) new = (s : ShelfValue) × IsShelfHistory steps s × StepsTo s step new

-- some history leads to this shelf
abbrev pub HasHistory : ShelfValue → Type 0
HasHistory s = (steps : List ShelfStep) × IsShelfHistory steps s

-- the blocks that have passed, by their `sync`s
abbrev pub passed_blocks : List ShelfStep → List ℕ
passed_blocks [] = []
passed_blocks (StealsAt q k a recorded ∷ steps) = passed_blocks steps
passed_blocks (ArrivesAt q a met ∷ steps) = passed_with (passed_blocks steps) q (is_passing met)

-- the laws of a shelf, after each of its histories
pub record ShelfLaws (steps : List ShelfStep) (s : ShelfValue) : Type 0 where
  -- each block passes once
  pub once : IsOnce (passed_blocks steps)
  -- the shelf knows the blocks that have passed; there nothing is stolen and nothing arrives
  pub known : (q : ℕ) → Has (passed_blocks steps) q → HasPassed s q
  pub none_stolen : (q k a : ℕ) (new : ShelfValue) → Has (passed_blocks steps) q → Records s q k a new → ⊥
  pub none_arrives : (q : ℕ) (a : Arrival) (met : Met) (new : ShelfValue) → Has (passed_blocks steps) q → Arrives s q a met new → ⊥
  -- a block has one box at most, and each box has a history
  pub one_box : HasOneEach s.boxes
  pub joined : All (HasSteps s.of s.replay) s.boxes

abbrev pub BlocksPassOnce : Type 0
BlocksPassOnce = (steps : List ShelfStep) (s : ShelfValue) → IsShelfHistory steps s → ShelfLaws steps s
