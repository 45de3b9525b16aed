-- The work of a worker, and the outcomes of a turn.
use Rattle.std.specs.Prelude.{◌≡◌, ◌+◌, ◌<◌, ◌≤◌, ℕ, ℤ, List, length, reverse, Option, Some, None}
use Rattle.cilk_types.specs.declared.event.Event.{Event}
use Rattle.cilk_types.specs.declared.event.Event.TheVariants as events
use Rattle.cilk_program.specs.SerialRun.{Transcript}
use Rattle.cilk_program.specs.Sources.{source}
use Rattle.cilk_workers.specs.Rows.{IsGood}
use Rattle.cilk_replay.specs.Chains.{standing}
use Rattle.cilk_determinacy.specs.Nested.{named}
use Rattle.cilk_replay.specs.Awaited.{IsEndOf}
use Rattle.cilk_replay.specs.Starts.{BeginsInBlock}
use Rattle.cilk_replay.specs.InputCourses.{run_of}
use Rattle.cilk_replay.specs.Frames.{course_on}
use Rattle.cilk_replay.specs.EventOrders.{IsPlannedRun}
use Rattle.cilk_shared.specs.Pieces.{PieceValue, grown, segment_of}
use Rattle.cilk_tree.specs.declared.event_order.EventOrder.{EventOrder}
use Rattle.cilk_tree.specs.Kinds.{kind_of_event}
use Rattle.cilk_tree.specs.declared.kind.Kind.{Kind}
use Rattle.cilk_tree.specs.declared.kind.Kind.TheVariants as kinds
use Rattle.cilk_determinacy.specs.Traces.{trace}
use Rattle.cilk_shared.specs.Values.{MayPass}
use Rattle.cilk_tree.specs.Runs.{Departs, IsAsked, IsFollowed}
use Rattle.cilk_tree.specs.Word.{event, resume, word_step}
use Rattle.cilk_workers.specs.Shared.{SharedValue, event_order_in}
use Rattle.cilk_workers.specs.declared.work.Work.{Work}
use Rattle.cilk_workers.specs.declared.work.Turn.{Turn}
use Rattle.cilk_workers.specs.declared.work.Turn.TheVariants.{Goes, Offers, Arrives, Ended, Finished, Departed, Stopped}
use Rattle.cilk_determinacy.specs.Steps.{result_in}

-- good work: a piece of the run that is not empty, and a chain at its next event
pub record Works (y : SharedValue) (w : Work) : Type 0 where
  pub good : IsGood y.run w.piece
  pub stands : let p = w.piece in w.chain ≡ standing y.replay p.upto

-- a thief's good work: its piece begins at the `resume` after the spawn at the ticket
abbrev pub IsThief : SharedValue → ℕ → Work → Type 0
IsThief y ticket w = Works y w × (let p = w.piece in word_step (event_order_in y) p.from ≡ resume ticket)

-- The result of the run: the course of the plan's run on this input ends with it, whatever number
-- of ticks it costs. It is the result of the course's last end, the root's.
abbrev pub IsResult : SharedValue → ℤ → Type 0
IsResult y value =
    let u = y.replay in (run : Transcript) (es : List Event) (opening : List ℤ)
    → IsPlannedRun (source u.program) u.own run es opening
    → result_in (reverse (trace (run_of (course_on (source u.program) u.inputs (named (source u.program) run))))) ≡ value

-- The root has ended with this result: the piece is that of the whole run, and the frames requested
-- each of its events.
pub record HasEnded (y : SharedValue) (p : PieceValue) (value : ℤ) : Type 0 where
  pub good : IsGood y.run p
  pub begins : p.from ≡ 1
  pub last : let s = event_order_in y in p.upto ≡ length s.events + 1
  pub followed : let s = event_order_in y in IsFollowed s (length s.events)
  pub result : IsResult y value

-- A child isn't in the piece that the `sync` right after the piece awaits: its `end` is before the
-- piece. It was spawned in the block that this `sync` ends, and in that block the piece begins.
pub record IsOwed (s : EventOrder) (p : PieceValue) : Type 0 where
  pub spawn_at : ℕ
  pub end_at : ℕ
  pub child : IsEndOf s p.upto spawn_at end_at
  pub elsewhere : end_at < p.from
  pub begins : BeginsInBlock s p.from p.upto

-- the piece's next event is a `sync`, and its immediate predecessors aren't all in the piece: a
-- child that was spawned in its block is elsewhere
abbrev pub IsHeldUp : SharedValue → PieceValue → Type 0
IsHeldUp y p = (event (event_order_in y) p.upto ≡ Some events.Sync) × (MayPass (segment_of p) → ⊥) × IsOwed (event_order_in y) p

-- The piece has one event more, the `end` of a spawned child; or it is unchanged, and the yard refused the continuation
-- that resumes there.
abbrev pub EndsBy : EventOrder → PieceValue → PieceValue → Option ℕ → Type 0
EndsBy s before p None = (p ≡ grown before) × (event s before.upto ≡ Some events.End)
EndsBy s before p (Some ticket) = (p ≡ before) × (word_step s p.upto ≡ resume ticket)

-- the worker can't continue: the piece's next event is the `resume` after a spawn, which is in the
-- piece
abbrev pub GoesNoFurther : SharedValue → PieceValue → PieceValue → Option ℕ → Type 0
GoesNoFurther y before p denied =
    ((k : ℕ) × (word_step (event_order_in y) p.upto ≡ resume k) × (p.from ≤ k)) × EndsBy (event_order_in y) before p denied

-- the event there is a spawn
abbrev pub IsSpawnAt : EventOrder → ℕ → Type 0
IsSpawnAt s at = (f : ℕ) × (event s at ≡ Some (events.Spawn f))

-- the event that a turn made there, unless the turn offers a task, is no spawn
abbrev pub OffersSpawn : EventOrder → ℕ → Turn → Type 0
OffersSpawn s at Goes = IsSpawnAt s at → ⊥
OffersSpawn s at (Finished value) = IsSpawnAt s at → ⊥
OffersSpawn s at turn = Unit {0}

-- The outcomes of a turn. Either the work is good and has one event more, or the worker has an end.
-- An offered task is the continuation of the spawn that was made. The piece is unchanged where it
-- arrives, which is at a `sync`, and where another worker took the continuation. A departure is a
-- true one, at the next event. Nothing is said if memory runs out.
abbrev pub Turned : SharedValue → PieceValue → Work → Turn → Type 0
Turned y before w Goes = Works y w × (let p = w.piece in p ≡ grown before)
Turned y before w (Offers t) = Works y w × (let p = w.piece in p ≡ grown before) × (t.of ≡ y.replay) × (t.ticket ≡ before.upto) × IsSpawnAt (event_order_in y) before.upto
Turned y before w Arrives = Works y w × (let p = w.piece in p ≡ before) × IsHeldUp y before
Turned y before w (Ended denied) = (let p = w.piece in IsGood y.run p × GoesNoFurther y before p denied)
Turned y before w (Finished value) = (let p = w.piece in HasEnded y p value × (p ≡ grown before))
Turned y before w (Departed at) = Departs (event_order_in y) at × (at ≡ before.upto)
Turned y before w Stopped = Unit {0}

-- The piece's next event is of this kind, and its frame requests it.
pub record IsDue (y : SharedValue) (w : Work) (kind : Kind) : Type 0 where
  pub works : Works y w
  pub asked : let p = w.piece in IsAsked (event_order_in y) p.upto
  pub kind_is : let p = w.piece in kind_of_event (event (event_order_in y) p.upto) ≡ Some kind

-- it isn't the run's last
abbrev pub HasMore : SharedValue → Work → Type 0
HasMore y w = let p = w.piece in p.upto < length (let s = event_order_in y in s.events)

-- the kind is a `begin`, a `resume` or a `sync`
abbrev pub IsSilent : Kind → Type 0
IsSilent (kinds.Begin f) = Unit {0}
IsSilent (kinds.Resume f) = Unit {0}
IsSilent kinds.Sync = Unit {0}
IsSilent _ = ⊥
