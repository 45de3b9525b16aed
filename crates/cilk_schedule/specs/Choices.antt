-- Which choices a scheduler allows, and what they add to its journal.
use Rattle.std.specs.Prelude.{◌≡◌, ◌+◌, ◌<◌, ◌≤◌, ℕ, true, List, [], ◌∷◌, ◌++◌, length, slice_get, Some, Result, Ok, Err}
use Rattle.cilk_frames.specs.Cursor.{CursorView}
use Rattle.cilk_join.specs.Joins.{IsOpen}
use Rattle.cilk_frames.specs.declared.activation.Activation.{Activation}
use Rattle.cilk_scheduler.specs.Events.{block_in}
use Rattle.cilk_scheduler.specs.Workers.{held_by, is_idle, offers}
use Rattle.cilk_scheduler.specs.declared.scheduler.Scheduler.{Scheduler}
use Rattle.cilk_scheduler.specs.declared.choice.Choice.{Choice}
use Rattle.cilk_scheduler.specs.declared.choice.Choice.TheVariants as choices
use Rattle.cilk_scheduler.specs.declared.choice.Stop.{Stop}
use Rattle.cilk_scheduler.specs.declared.choice.Told.{Told}
use Rattle.cilk_scheduler.specs.declared.choice.Told.TheVariants as told
use Rattle.cilk_scheduler.specs.declared.frame_state.JournalEntry.{JournalEntry}
use Rattle.cilk_scheduler.specs.declared.frame_state.FrameState.{FrameState}

-- a worker, from 1, holds the frame at place k, which hasn't ended
pub record IsReadyAt (b : Scheduler) (worker k : ℕ) : Type 0 where
  pub held : let u = b.workers in held_by u.items worker ≡ Some k
  pub first : 0 < worker
  pub last : let u = b.workers in worker ≤ length u.items
  pub frame_state : Activation FrameState
  pub sits : let f = b.frames in slice_get f.items k ≡ Some frame_state
  pub cursor : CursorView
  pub has : let x = frame_state.cursor in x.cursor ≡ Some cursor

-- a worker is idle and may steal the continuation of frame k, which is offered at this place
pub record CanSteal (b : Scheduler) (worker place k : ℕ) : Type 0 where
  pub idle : let u = b.workers in is_idle u.items worker ≡ true
  pub few : place < b.offered
  pub offered : let u = b.workers in slice_get (offers u.items) place ≡ Some k
  pub frame_state : Activation FrameState
  pub sits : let f = b.frames in slice_get f.items k ≡ Some frame_state
  pub opens : let x = frame_state.cursor in IsOpen (block_in x.join) x.children

-- the choice can be made
abbrev pub CanChoose : Scheduler → Choice → Type 0
CanChoose b (choices.Run worker) = (k : ℕ) × IsReadyAt b worker k
CanChoose b (choices.Steal worker place) = (k : ℕ) × CanSteal b worker place k

-- an event is added to the end of the journal
abbrev pub WritesTold : Told → List JournalEntry → List JournalEntry → Type 0
WritesTold (told.Did act) old new = (k : ℕ) × (act.frame ≡ k + 1) × (new ≡ old ++ (record { frame = k; event = act.event }) ∷ [])
WritesTold told.Stole old new = new ≡ old
WritesTold told.Waits old new = new ≡ old
WritesTold told.Skipped old new = new ≡ old

-- a stop adds nothing
abbrev pub Writes : Result Told Stop → List JournalEntry → List JournalEntry → Type 0
Writes (Ok t) old new = WritesTold t old new
Writes (Err stop) old new = new ≡ old
