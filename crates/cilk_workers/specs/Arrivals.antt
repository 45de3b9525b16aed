-- Steals and arrivals at the boxes of a shelf.
use Rattle.std.specs.Prelude.{◌≡◌, ◌≤◌, ◌⊎◌, ℕ, Bool, true, false, Option, Some, None}
use Rattle.cilk_types.specs.declared.event.Event.TheVariants.{Sync}
use Rattle.cilk_shared.specs.Pieces.{PieceValue}
use Rattle.cilk_tree.specs.declared.event_order.EventOrder.{EventOrder}
use Rattle.cilk_tree.specs.Word.{event, resume, word_step}
use Rattle.cilk_replay.specs.Chains.{ChainValue}
use Rattle.cilk_replay.specs.Starts.{BeginsInBlock}
use Rattle.cilk_workers.specs.Answers.{Answers}
use Rattle.cilk_workers.specs.Boxes.{BoxValue, IsOpen, MayArrive, arrived_at, is_some, stolen_at}
use Rattle.cilk_workers.specs.Rows.{FitsIn}
use Rattle.cilk_workers.specs.Shelves.{HasPassed, PutsBack, ShelfValue, TakesOff, passed_with}
use Rattle.cilk_workers.specs.declared.join.Boxed.TheVariants as boxes
use Rattle.cilk_workers.specs.declared.locks.Arrival.{Arrival}
use Rattle.cilk_workers.specs.declared.locks.Met.{Met}
use Rattle.cilk_workers.specs.declared.locks.Met.TheVariants as mets

-- A piece without a chain has a spawn, and ends right before the `resume` after it. One with a chain
-- ends at a `sync`, and begins in the block that this ends. So neither begins inside a child.
abbrev pub EndsWhereItWaits : EventOrder → PieceValue → Option ChainValue → Type 0
EndsWhereItWaits s p None = (k : ℕ) × (word_step s p.upto ≡ resume k) × (p.from ≤ k)
EndsWhereItWaits s p (Some c) = (event s p.upto ≡ Some Sync) × BeginsInBlock s p.from p.upto

-- In the box of the block, and in no other, it is recorded that the continuation of the spawn at k,
-- which continues at a, is stolen, as it may be there. The block hasn't passed.
pub record Records (s : ShelfValue) (sync k a : ℕ) (new : ShelfValue) : Type 0 where
  pub waits : HasPassed s sync → ⊥
  pub found : BoxValue
  pub rest : ShelfValue
  pub off : TakesOff s sync found rest
  pub may : IsOpen found k a
  pub back : PutsBack rest (stolen_at found k a) new
  pub passed : new.passed ≡ s.passed

-- The shelf is as before, up to the order of its boxes: that of the block may have been taken off and put
-- back.
pub record IsAsBefore (s : ShelfValue) (sync : ℕ) (new : ShelfValue) : Type 0 where
  pub passed : new.passed ≡ s.passed
  pub boxes : (new.boxes ≡ s.boxes) ⊎ ((b : BoxValue) × (rest : ShelfValue) × TakesOff s sync b rest × PutsBack rest b new)

-- The steal is recorded. If memory ran out, the shelf is as before.
abbrev pub HasRecorded : ShelfValue → ℕ → ℕ → ℕ → Bool → ShelfValue → Type 0
HasRecorded s sync k a true new = Records s sync k a new
HasRecorded s sync k a false new = IsAsBefore s sync new

-- the outcome is the box's answer to the arrival; nothing changes if memory runs out
abbrev pub AnswersBy : BoxValue → Arrival → Met → BoxValue → Type 0
AnswersBy j a (mets.Passes w) new = Answers (arrived_at j a.by a.piece (is_some a.chain)) (boxes.Passes w.piece w.chain) new
AnswersBy j a mets.Waits new = Answers (arrived_at j a.by a.piece (is_some a.chain)) boxes.Waits new
AnswersBy j a mets.Stopped new = new ≡ j

-- whether the block passes
abbrev pub is_passing : Met → Bool
is_passing (mets.Passes w) = true
is_passing mets.Waits = false
is_passing mets.Stopped = false

-- The arrival is in the box of the block, where it may come and its piece fits, and in no other. The block
-- hadn't passed, and has passed exactly if that is the answer; of each other block it is as before.
pub record Arrives (s : ShelfValue) (sync : ℕ) (a : Arrival) (met : Met) (new : ShelfValue) : Type 0 where
  pub waits : HasPassed s sync → ⊥
  pub found : BoxValue
  pub rest : ShelfValue
  pub after : BoxValue
  pub off : TakesOff s sync found rest
  pub may : MayArrive found a.by a.piece a.chain
  pub fits : FitsIn found.rows a.by a.piece
  pub answers : AnswersBy found a met after
  pub back : PutsBack rest after new
  pub passed : new.passed ≡ passed_with s.passed sync (is_passing met)

-- The piece has arrived. If memory ran out, the shelf is as before.
abbrev pub HasArrived : ShelfValue → ℕ → Arrival → Met → ShelfValue → Type 0
HasArrived s sync a mets.Stopped new = IsAsBefore s sync new
HasArrived s sync a met new = Arrives s sync a met new
