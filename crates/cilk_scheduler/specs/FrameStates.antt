-- Changes of a frame's state.
use Rattle.std.specs.Prelude.{◌+◌, ℕ, zero, suc, true, false, List, [], ◌∷◌, Some, None}
use Rattle.cilk_types.specs.declared.invocation.Invocation.{Invocation}
use Rattle.cilk_frames.specs.declared.activation.Activation.{Activation}
use Rattle.cilk_frames.specs.Cursor.{CursorView}
use Rattle.cilk_frames.specs.declared.cursor.Answer.{Answer}
use Rattle.cilk_frames.specs.declared.cursor.Answer.TheVariants.{Done}
use Rattle.cilk_scheduler.specs.declared.frame_state.Due.TheVariants as due
use Rattle.cilk_scheduler.specs.declared.frame_state.FrameState.{FrameState}
use Rattle.cilk_scheduler.specs.declared.frame_state.Status.{Status}
use Rattle.cilk_scheduler.specs.declared.frame_state.Status.TheVariants.{Held, Waiting, Finished}

-- the state of frame k changes, and where its cells and reducers are stays
abbrev pub changed : {C : Type 0} → (C → C) → List (Activation C) → ℕ → List (Activation C)
changed f [] k = []
changed f (a ∷ list) zero = record a { cursor = f a.cursor } ∷ list
changed f (a ∷ list) (suc k) = a ∷ changed f list k

-- a frame that a worker holds, before its begin
abbrev pub seated : ℕ → ℕ → Invocation → ℕ → CursorView → FrameState
seated parent ordinal how worker c = record {
  parent = parent;
  ordinal = ordinal;
  how = how;
  status = Held worker;
  stolen = false;
  merged = false;
  children = 0;
  last = 0;
  strands = 0;
  took = 0;
  counted = 0;
  due = due.Begin;
  cursor = Some c;
  join = None;
}

-- it continues with this answer
abbrev pub answered : Answer → FrameState → FrameState
answered a x = record x { due = due.Answer a }

-- another strand begins
abbrev pub stranded : FrameState → FrameState
stranded x = record x { strands = x.strands + 1; due = due.Answer Done }

-- another block begins, and a strand with it
abbrev pub synced : FrameState → FrameState
synced x = record x { join = None; merged = false; strands = x.strands + 1; due = due.Answer Done }

-- its status changes
abbrev pub moved_to : Status → FrameState → FrameState
moved_to t x = record x { status = t }

-- its block has passed
abbrev pub passed : FrameState → FrameState
passed x = record x { merged = true }

-- it waits at its sync
abbrev pub waiting : FrameState → FrameState
waiting x = record x { status = Waiting; due = due.Sync }

-- it has ended
abbrev pub finished : FrameState → FrameState
finished x = record x { status = Finished; cursor = None }

-- the continuation beside it was stolen
abbrev pub robbed : FrameState → FrameState
robbed x = record x { stolen = true }

-- it has started the frame at this index
abbrev pub started_at : Status → ℕ → FrameState → FrameState
started_at t place x = record x { children = x.children + 1; last = place; due = due.Answer Done; status = t }

-- its ticks are counted
abbrev pub counted : FrameState → FrameState
counted x = record x { counted = x.took }
