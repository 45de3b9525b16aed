-- The positions of a course: the current frame, its past, and the event.
-- Positions count from 0 here.
use Rattle.std.specs.Prelude.{◌≡◌, ℕ, suc, ◌+◌, ◌↔◌, ℤ, pos, Bool, true, false, List, [], ◌∷◌, ◌++◌, length, Option, Some, slice_get}
use Rattle.cilk_types.specs.declared.event.Event as numbers
use Rattle.cilk_types.specs.declared.event.Event.TheVariants as events
use Rattle.cilk_types.specs.declared.invocation.Invocation.{Invocation}
use Rattle.cilk_types.specs.declared.invocation.Invocation.TheVariants.{Call, Spawn}
use Rattle.cilk_program.specs.declared.ask.Ask as language
use Rattle.cilk_program.specs.declared.ask.Ask.TheVariants as asks
use Rattle.cilk_program.specs.declared.ask.Callee.{Callee}
use Rattle.cilk_program.specs.SerialRun.{Transcript}
use Rattle.cilk_program.specs.Syntax.{Source}
use Rattle.cilk_determinacy.specs.Machine.{started}
use Rattle.cilk_determinacy.specs.Runs.{Instance, Ask, Invoke, Event, Reads, Writes, Syncs, Ends, Passes, Deed, Does, Invokes, Run, ask_of}
use Rattle.cilk_determinacy.specs.Runs as runs
use Rattle.cilk_determinacy.specs.Traces.{IsWritten}
use Rattle.cilk_tree.specs.declared.event_order.EventOrder.{EventOrder}
use Rattle.cilk_tree.specs.Runs.{IsAsked}
use Rattle.cilk_tree.specs.Word.{event}
use Rattle.cilk_determinacy.specs.FrameEnvMachine.{answer_of, has_ended, asked_after, next}
use Rattle.cilk_determinacy.specs.FrameEnvs.{FrameEnv, first_env, child_env, cell_seen, reducer_seen, result_cell}
use Rattle.cilk_determinacy.specs.Nested.{named}
use Rattle.cilk_determinacy.specs.Numbers.{cell_number, instance_number}
use Rattle.cilk_replay.specs.InputCourses.{Course, act, child, asked_in, IsLike}
use Rattle.cilk_replay.specs.Frames.{same_frame, course_on}
use Rattle.cilk_replay.specs.Owned.{makers}
use Rattle.cilk_replay.specs.EventOrders.{event_order_on, IsPlannedRun}

-- The current frame: what it was started as, what it has done before, and the position of its first
-- event. Then the plan's event, the course's event, and whether the frame requests it.
pub record Point (W : Type 0) : Type 0 where
  pub frame : W
  pub past : List (Deed W)
  pub since : ℕ
  pub planned : Deed W
  pub deed : Deed W
  pub asked : Bool

-- the points of a course from position o on, in serial order
abbrev pub points : {W : Type 0} → W → List (Deed W) → ℕ → ℕ → Run W → Course W → List (Point W)
points w past b o (runs.act e r) (act a e' r') =
    record { frame = w; past = past; since = b; planned = Does e; deed = Does e'; asked = a } ∷ points w (past ++ Does e' ∷ []) b (suc o) r r'
points w past b o (runs.child k v u r) (child a k' v' u' r') =
    record { frame = w; past = past; since = b; planned = Invokes k v; deed = Invokes k' v'; asked = a }
    ∷ (points v' [] (suc o) (suc o) u u' ++ points w (past ++ Invokes k' v' ∷ []) b (suc o + length (asked_in u')) r r')
points w past b o t c = []

-- the request of this deed
abbrev pub asked_for : {W : Type 0} → Deed W → Ask W
asked_for (Does e) = ask_of e
asked_for (Invokes k v) = Invoke k v

-- two deeds of one kind, whatever their values
abbrev pub IsLikeDeed : {W : Type 0} → (W → W → Bool) → Deed W → Deed W → Type 0
IsLikeDeed same (Does e) (Does x) = IsLike e x
IsLikeDeed same (Invokes k v) (Invokes j x) = (k ≡ j) × (same v x ≡ true)
IsLikeDeed same _ _ = ⊥

-- an event after which its frame continues at the next position
abbrev pub Continues : Event → Type 0
Continues (Reads c v) = Unit {0}
Continues (Writes c v) = Unit {0}
Continues Syncs = Unit {0}
Continues (Ends v gone) = ⊥
Continues (Passes m) = Unit {0}

-- the same frame, after this deed too
pub record IsLater {W : Type 0} (x y : Point W) : Type 0 where
  pub frame : y.frame ≡ x.frame
  pub past : y.past ≡ x.past ++ x.deed ∷ []
  pub since : y.since ≡ x.since

-- the first event of a frame, right after the event that started it
pub record IsFirst {W : Type 0} (i : ℕ) (x : Point W) (k : Invocation) (y : Point W) : Type 0 where
  pub started : x.deed ≡ Invokes k y.frame
  pub past : y.past ≡ []
  pub since : y.since ≡ suc i

-- The frame of x was started by the frame of y, and y is that frame's next event after the start.
pub record IsReturn {W : Type 0} (at : ℕ → Option (Point W)) (x y : Point W) : Type 0 where
  pub place : ℕ
  pub caller : Point W
  pub is : at place ≡ Some caller
  pub before : suc place ≡ x.since
  pub how : Invocation
  pub started : caller.deed ≡ Invokes how x.frame
  pub goes_on : IsLater caller y

-- The law of each point. The event is requested exactly if the frame's next request is of the
-- plan's kind. The other fields say which frame makes the next event, and what it has done before.
pub record IsPoint {W : Type 0} (next : W → List (Deed W) → Option (Ask W)) (same : W → W → Bool) (at : ℕ → Option (Point W)) (i : ℕ) (x : Point W) : Type 0 where
  pub asks : x.asked ≡ true → next x.frame x.past ≡ Some (asked_for x.deed)
  pub only : (d : Deed W) → IsLikeDeed same x.planned d → next x.frame x.past ≡ Some (asked_for d) → x.asked ≡ true
  pub goes : (e : Event) → x.planned ≡ Does e → Continues e → (y : Point W) → at (suc i) ≡ Some y → IsLater x y
  pub starts : (k : Invocation) (v : W) → x.planned ≡ Invokes k v → (y : Point W) → at (suc i) ≡ Some y → IsFirst i x k y
  pub returns : (v : ℤ) (gone : List Instance) → x.planned ≡ Does (Ends v gone) → (y : Point W) → at (suc i) ≡ Some y → IsReturn at x y

-- the points of a plan's run on some inputs
abbrev pub points_on : Source → List ℤ → Transcript → List (Point FrameEnv)
points_on p inputs r = points (first_env p) [] 0 0 (named p r) (course_on p inputs (named p r))

-- the answer to an event: the value read, else 0
abbrev pub answer_in : numbers.Event → ℤ
answer_in (events.Read c v) = v
answer_in (events.Value i v) = v
answer_in e = pos 0

module _ (p : Source) (r : Transcript) where
  -- The event of a request of a frame of this program, by the numbers that the run gives to names.
  abbrev pub IsEventOf : FrameEnv → language.Ask → numbers.Event → Type 0
  IsEventOf w asks.Begin e = (f : ℕ) × (e ≡ events.Begin f)
  IsEventOf w (asks.Read x) e = (v : ℤ) × (e ≡ events.Read (cell_number p r (cell_seen w x)) v)
  IsEventOf w (asks.Write x v) e = e ≡ events.Write (cell_number p r (cell_seen w x)) v
  IsEventOf w (asks.Create q) e = e ≡ events.Create (instance_number p r (reducer_seen w q))
  IsEventOf w (asks.Update q v) e = e ≡ events.Update (instance_number p r (reducer_seen w q)) v
  IsEventOf w (asks.Set q v) e = e ≡ events.Set (instance_number p r (reducer_seen w q)) v
  IsEventOf w (asks.Value q) e = (v : ℤ) × (e ≡ events.Value (instance_number p r (reducer_seen w q)) v)
  IsEventOf w (asks.Print v) e = e ≡ events.Print v
  IsEventOf w (asks.Invoke Call callee) e = (f : ℕ) × (e ≡ events.Call f)
  IsEventOf w (asks.Invoke Spawn callee) e = (f : ℕ) × (e ≡ events.Spawn f)
  IsEventOf w asks.Resume e = (f : ℕ) × (e ≡ events.Resume f)
  IsEventOf w asks.Sync e = e ≡ events.Sync
  IsEventOf w (asks.Result v) e = e ≡ events.Write (cell_number p r (result_cell w)) v
  IsEventOf w (asks.End v) e = e ≡ events.End
  IsEventOf w (asks.Fault f) e = ⊥

  -- The frame, which hasn't ended, requests the event, by its behaviour after the answers so
  -- far. A child that is started is the one requested.
  pub record IsAskedBy (inputs : List ℤ) (x : Point FrameEnv) (here : numbers.Event) : Type 0 where
    pub goes_on : has_ended x.past ≡ false
    pub event : IsEventOf x.frame (asked_after p inputs x.frame x.past).ask here
    pub starts : (how : Invocation) (callee : Callee) → (asked_after p inputs x.frame x.past).ask ≡ asks.Invoke how callee
        → x.deed ≡ Invokes how (child_env p x.frame (suc (started x.past)) callee)

  -- what the event order of these inputs says at a position
  pub record IsTold (inputs : List ℤ) (es : List numbers.Event) (s : EventOrder) (i : ℕ) (x : Point FrameEnv) : Type 0 where
    -- the plan's event, and the frame that makes it
    pub plan : (e : numbers.Event) → slice_get es i ≡ Some e → IsWritten (cell_number p r) (instance_number p r) x.planned e
    pub owner : slice_get (makers [] (named p r)) i ≡ Some x.frame.name
    -- the order's event: its answer, whether it is requested, and how
    pub here : numbers.Event
    pub is : event s (suc i) ≡ Some here
    pub answers : answer_of x.deed ≡ answer_in here
    pub asked : IsAsked s (suc i) ↔ (x.asked ≡ true)
    pub asks : IsAsked s (suc i) → IsAskedBy inputs x here

  pub record AreTold (inputs : List ℤ) (es : List numbers.Event) (s : EventOrder) : Type 0 where
    pub all : length (points_on p inputs r) ≡ length s.events
    -- the first frame begins
    pub begins : (x : Point FrameEnv) → slice_get (points_on p inputs r) 0 ≡ Some x → (x.frame ≡ first_env p) × (x.past ≡ []) × (x.since ≡ 0)
    pub each : (i : ℕ) (x : Point FrameEnv) → slice_get (points_on p inputs r) i ≡ Some x
        → IsPoint (next p inputs) (same_frame p) (slice_get (points_on p inputs r)) i x × IsTold inputs es s i x

-- On all inputs: what each frame has done so far decides whether it requests the next event, and
-- with which values.
abbrev pub EventOrdersAreAskedByPositions : Type 0
EventOrdersAreAskedByPositions =
    (p : Source) (inputs others : List ℤ) (r : Transcript) (es : List numbers.Event) (opening : List ℤ)
    → IsPlannedRun p inputs r es opening → AreTold p r others es (event_order_on p others r es opening)
