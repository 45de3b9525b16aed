-- The state of a worker between two turns, and the reasons why it ends.
use Rattle.std.specs.Prelude.{◌≡◌, ◌≤◌, ◌⊎◌, ℕ, false, true, List, Option, Some, None, length}
use Rattle.crossbeam_queue.specs.Passes.{Pass}
use Rattle.cilk_replay.specs.declared.chain.Task.{Task}
use Rattle.cilk_workers.specs.Boxes.{HoldsBlock}
use Rattle.cilk_workers.specs.Held.{AreTaken, TakesNone, TakesOne}
use Rattle.cilk_workers.specs.Rows.{OfRun}
use Rattle.cilk_tree.specs.Runs.{Departs, IsFollowed}
use Rattle.cilk_tree.specs.Word.{resume, word_step}
use Rattle.cilk_tree.specs.declared.event_order.EventOrder.{EventOrder}
use Rattle.cilk_workers.specs.Keys.{TellsSteal}
use Rattle.cilk_workers.specs.Shared.{SharedValue, event_order_in}
use Rattle.cilk_workers.specs.Turns.{Works, HasEnded}
use Rattle.cilk_workers.specs.declared.lock.KeyState.{KeyState}
use Rattle.cilk_workers.specs.declared.locks.Met.{Met}
use Rattle.cilk_workers.specs.declared.locks.Met.TheVariants as mets
use Rattle.cilk_workers.specs.declared.shelf.Shelf.{Shelf}
use Rattle.cilk_workers.specs.declared.activity.ExitReason.{ExitReason}
use Rattle.cilk_workers.specs.declared.activity.ExitReason.TheVariants as finishes
use Rattle.cilk_workers.specs.declared.activity.Activity.{Activity}
use Rattle.cilk_workers.specs.declared.activity.Tools.{Tools}
use Rattle.cilk_workers.specs.declared.activity.Activity.TheVariants as hands

-- a true exit reason: the worker has the whole run's piece, or the run departs from its plan there,
-- or nothing is said
abbrev pub IsExitReason : SharedValue → ExitReason → Type 0
IsExitReason y (finishes.Whole p value) = HasEnded y p value
IsExitReason y (finishes.Departed p) = Departs (event_order_in y) p
IsExitReason y finishes.Stopped = Unit {0}
IsExitReason y finishes.OutOfMemory = Unit {0}

-- a worker holds a piece and a chain at its next event, or an empty piece, or has ended
abbrev pub IsActivity : SharedValue → Activity → Type 0
IsActivity y (hands.Holds w) = Works y w
IsActivity y (hands.Idle p) = OfRun y.run p × (p.upto ≤ p.from)
IsActivity y (hands.Done f) = IsExitReason y f

-- A thief that begins has told its block, and no other, of the steal. One that finds nothing tells nobody; one that ends
-- does neither, or its block had no memory for that.
abbrev pub HasTold : EventOrder → List (Pass Shelf KeyState) → Activity → List (Pass Shelf KeyState) → Type 0
HasTold s keys (hands.Holds w) new = let p = w.piece in (k : ℕ) × (word_step s p.from ≡ resume k) × TellsSteal s k p.from keys true new
HasTold s keys (hands.Idle p) new = new ≡ keys
HasTold s keys (hands.Done f) new = (new ≡ keys) ⊎ ((k a : ℕ) × (word_step s a ≡ resume k) × TellsSteal s k a keys false new)

-- A worker that looked for work took one task if its work is the task's, if the yard refused it the task's ticket, or if
-- memory ran out. Else it took none, and each task of its own rack was taken; it has stopped only if it saw the run's end.
module _ {N : Type 0} where
  abbrev pub HasSought : (Task → Type 0) → EventOrder → Tools N → Activity × Option ℕ → Tools N → Type 0
  HasSought taken s t (hands.Holds w, d) t' = (u : Task) × (let p = w.piece in word_step s p.from ≡ resume u.ticket) × TakesOne taken t.rack t.pickers.items u t'.rack t'.pickers.items
  HasSought taken s t (hands.Idle p, None) t' = AreTaken taken t.rack × TakesNone t.rack t.pickers.items t'.rack t'.pickers.items
  HasSought taken s t (hands.Idle p, Some ticket) t' = (u : Task) × (ticket ≡ u.ticket) × TakesOne taken t.rack t.pickers.items u t'.rack t'.pickers.items
  HasSought taken s t (hands.Done finishes.Stopped, d) t' =
      IsFollowed s (length s.events) × AreTaken taken t.rack × TakesNone t.rack t.pickers.items t'.rack t'.pickers.items
  HasSought taken s t (hands.Done finishes.OutOfMemory, d) t' = (u : Task) × TakesOne taken t.rack t.pickers.items u t'.rack t'.pickers.items
  HasSought taken s t (hands.Done f, d) t' = ⊥

-- the outcome of an arrival: what passes is good work of the run
abbrev pub IsMet : SharedValue → Met → Type 0
IsMet y (mets.Passes w) = Works y w
IsMet y mets.Waits = Unit {0}
IsMet y mets.Stopped = Unit {0}

-- what passes has the whole block that ends with the `sync` at q
abbrev pub IsMetWhole : EventOrder → ℕ → Met → Type 0
IsMetWhole s q (mets.Passes w) = HoldsBlock s q w.piece
IsMetWhole s q mets.Waits = Unit {0}
IsMetWhole s q mets.Stopped = Unit {0}
