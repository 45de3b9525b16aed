-- An event that starts and ends no frame: it keeps the frame's block, or it is a sync, which begins
-- another.
use Rattle.std.specs.Prelude.{◌≡◌, ◌+◌, ℕ, Bool, true, false, cond, ℤ, List, [], ◌∷◌, ◌++◌, length, slice_get, Some, None}
use Rattle.cilk_types.specs.declared.event.Instance as numbered
use Rattle.cilk_monoid.specs.declared.kind.MonoidKind.{MonoidKind}
use Rattle.cilk_program.specs.Syntax.{Source}
use Rattle.cilk_lower.specs.Code.{CodeView}
use Rattle.cilk_frames.specs.Cursor.{CursorView}
use Rattle.cilk_frames.specs.declared.cursor.Answer.{Answer}
use Rattle.cilk_frames.specs.declared.activation.Activation.{Activation}
use Rattle.cilk_hypermap.specs.Hypermap.{value_in}
use Rattle.cilk_hypermap.specs.declared.hypermap.Hypermap.{Hypermap}
use Rattle.cilk_determinacy.specs.Costs.{TickTotal, EventTotal, FrameTotal, CellTotal}
use Rattle.cilk_determinacy.specs.Machine.{Frame, State, after_deed, joined_by, strands}
use Rattle.cilk_determinacy.specs.Monoids.{unit_of}
use Rattle.cilk_determinacy.specs.Runs.{Name, same_name, Cell, Own, Instance, Reducer, Event, Reads, Writes, Syncs, Ends, Passes, Sync, Deed, Does}
use Rattle.cilk_scheduler.specs.KeptCursors.{IsTold}
use Rattle.cilk_determinacy.specs.FrameEnvMachine.{has_ended, taken}
use Rattle.cilk_determinacy.specs.Reducers.{View, kind_of, monoid_of}
use Rattle.cilk_determinacy.specs.FrameEnvViews.{IsViewOf}
use Rattle.cilk_determinacy.specs.FrameEnvs.{FrameEnv}
use Rattle.cilk_scheduler.specs.declared.scheduler.Scheduler.{Scheduler}
use Rattle.cilk_scheduler.specs.declared.frame_state.Due.TheVariants as due
use Rattle.cilk_scheduler.specs.declared.frame_state.JournalEntry.{JournalEntry}
use Rattle.cilk_scheduler.specs.declared.frame_state.FrameState.{FrameState}
use Rattle.cilk_scheduler.specs.declared.frame_state.Worker.{Worker}
use Rattle.cilk_scheduler.specs.Schedulers.{IsBare, ShowsBy}
use Rattle.cilk_scheduler.specs.WorkerTables.{WorkerTable}
use Rattle.cilk_scheduler.specs.Numbered.{IsAbsent, IsCell, IsInstance, IsDeed}
use Rattle.cilk_scheduler.specs.FrameStates.{changed}
use Rattle.cilk_scheduler.specs.Workers.{viewing}

-- the event is neither a sync nor an end
abbrev pub IsPlain : Event → Type 0
IsPlain (Reads c v) = Unit {0}
IsPlain (Writes c v) = Unit {0}
IsPlain Syncs = ⊥
IsPlain (Ends v gone) = ⊥
IsPlain (Passes m) = Unit {0}

-- an event that keeps the frame's block, or a sync
abbrev pub IsInBlock : Bool → Event → Type 0
IsInBlock true e = IsPlain e
IsInBlock false e = e ≡ Syncs

-- the children that are joined by it
abbrev pub joined_with : Bool → Name → List (Deed FrameEnv) → List Name
joined_with true n deeds = []
joined_with false n deeds = joined_by {W = FrameEnv} Sync n deeds

-- The frame has begun this number of strands, and all ticks that it used are counted. It continues
-- with this answer, in the same block or in another.
abbrev pub touched : Bool → ℕ → ℕ → CursorView → Answer → FrameState → FrameState
touched same begun took c a x = record x { strands = begun; took = took; counted = took; due = due.Answer a; cursor = Some c; join = cond same x.join None; merged = cond same x.merged false }

module _ (code : CodeView) (p : Source) (inputs : List ℤ) where
  module _ (name : ℕ → Name) (b b' : Scheduler) (s s' : State FrameEnv View) where
    -- Worker w's frame k makes this event: the state and the scheduler before and after.
    pub record Touches (w k : ℕ) (e : Event) (entry : JournalEntry) : Type 0 where
      pub worker : Worker
      pub frame_state : Activation FrameState
      pub frame : Frame FrameEnv
      -- The worker holds the frame, which continues. Its block hasn't passed, unless it begins
      -- another.
      pub at : let l = b.workers in slice_get l.items w ≡ Some worker
      pub has : worker.frame ≡ Some k
      pub sits : let f = b.frames in slice_get f.items k ≡ Some frame_state
      pub here : s.frames (name k) ≡ Some frame
      pub same_block : Bool
      pub unmerged : same_block ≡ true → let x = frame_state.cursor in x.merged ≡ false
      pub goes : has_ended frame.deeds ≡ false
      pub is_plain : IsInBlock same_block e
      -- The frame has one more deed. Flags and the pieces of other frames stay, and a sync joins
      -- children.
      pub frames : s'.frames ≡ after_deed s.frames (name k) frame (Does e)
      pub stolen : s'.stolen ≡ s.stolen
      pub joins : s'.joins ≡ joined_with same_block (name k) frame.deeds ++ s.joins
      pub running : s'.stopped ≡ s.stopped
      pub others : (i : Instance) (m : Name) → same_name (name k) m ≡ false → s'.piece m i ≡ s.piece m i
      -- Its cursor waits for an answer, and its ticks and strands are counted.
      pub begun : ℕ
      pub took : ℕ
      pub cursor : CursorView
      pub answer : Answer
      pub frame_states_are : let f = b'.frames in let g = b.frames in f.items ≡ changed (touched same_block begun took cursor answer) g.items k
      pub told : IsTold code p inputs frame.what (frame.deeds ++ Does e ∷ []) cursor answer took
      pub took_is : took ≡ taken p inputs frame.what frame.deeds
      pub strands_are : strands (frame.deeds ++ Does e ∷ []) ≡ begun
      -- The event is recorded.
      pub written : let l = b'.journal in let j = b.journal in l.items ≡ j.items ++ entry ∷ []
      pub by_frame : entry.frame ≡ k
      pub means : let f = b.frames in IsDeed p f.items name s k (Does e) entry.event
      -- The cells are those of the state.
      pub cells : let l = b'.cells in let m = b.cells in length l.items ≡ length m.items
      pub memory : let f = b.frames in (c : Cell) (n : ℕ) → IsCell p f.items name s c n → let l = b'.cells in slice_get l.items n ≡ Some (s'.memory c)
      pub unwritten : let f = b.frames in (n : Name) (q : ℕ) → IsAbsent f.items name n → s'.memory (Own n q) ≡ s.memory (Own n q)
      -- The worker's views are the frame's piece.
      pub views : Hypermap
      pub workers_are : let l = b'.workers in let m = b.workers in l.items ≡ viewing views m.items w
      pub views_are : let f = b.frames in (i : Instance) (j : numbered.Instance) → IsInstance p f.items name i j → IsViewOf (kind_of i) (s'.piece (name k) i) (value_in views (kind_of i) j)
      pub bare_views : let f = b.frames in IsBare (length f.items) (value_in views)
      pub bare : let f = b.frames in (n : Name) (q : ℕ) (kind : MonoidKind) → IsAbsent f.items name n → s'.piece (name k) (Reducer n q kind) ≡ unit_of monoid_of (Reducer n q kind)
      pub offered : b'.offered ≡ b.offered
      pub was_open : b.outcome ≡ None
      pub is_open : b'.outcome ≡ None
      -- The totals.
      pub ticks : s'.totals TickTotal ≡ b'.ticks
      pub events : s'.totals EventTotal ≡ s.totals EventTotal + 1
      pub frame_total : s'.totals FrameTotal ≡ s.totals FrameTotal
      pub cell_total : s'.totals CellTotal ≡ s.totals CellTotal

  -- A scheduler that shows a state shows the next one after such an event, by the same names and
  -- with the same worker table.
  abbrev pub TouchesAreShown : Type 0
  TouchesAreShown =
      (name : ℕ → Name) (b b' : Scheduler) (d : WorkerTable) (s s' : State FrameEnv View) (w k : ℕ) (e : Event) (entry : JournalEntry) → ShowsBy code p inputs name b d s → Touches name b b' s s' w k e entry → ShowsBy code p inputs name b' d s'
