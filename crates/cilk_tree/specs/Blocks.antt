-- The continuations of a run's spawns, and their sync blocks. A sync block is the part of a frame
-- between two of its `sync`s. The `sync` that ends it awaits the children spawned in it (Feng and
-- Leiserson 1997, section 2).
use Rattle.std.specs.Prelude.{◌≡◌, ◌<◌, ℕ, List, Some}
use Rattle.cilk_types.specs.declared.event.Event.{Event}
use Rattle.cilk_types.specs.declared.event.Event.TheVariants.{Sync}
use Rattle.cilk_tree.specs.Races.{event_at}
use Rattle.cilk_tree.specs.declared.event_order.EventOrder.{EventOrder}
use Rattle.cilk_tree.specs.Word.{resume, word_step}
use Rattle.cilk_tree.specs.declared.blocks.Continuation.{Continuation}
use Rattle.cilk_tree.specs.Frames.{IsInFrame}

-- the frame has a `sync` at the position
abbrev pub SyncsAt : List Event → ℕ → ℕ → Type 0
SyncsAt es frame p = (event_at es p ≡ Some Sync) × IsInFrame es p frame

-- the frame's first `sync` after a position
pub record IsNextSync (es : List Event) (frame behind p : ℕ) : Type 0 where
  pub later : behind < p
  pub syncs : SyncsAt es frame p
  pub first : (q : ℕ) → behind < q → q < p → SyncsAt es frame q → ⊥

-- the `sync` that ends the block of the event at k
abbrev pub EndsBlockOf : List Event → ℕ → ℕ → Type 0
EndsBlockOf es k p = (frame : ℕ) × IsInFrame es k frame × IsNextSync es frame k p

-- the continuation of the spawn at k begins with the `resume` after it, and its block ends with
-- this `sync`
pub record IsContinuationOf (s : EventOrder) (k : ℕ) (c : Continuation) : Type 0 where
  pub resumes : word_step s c.resume ≡ resume k
  pub ends : EndsBlockOf s.events k c.sync
