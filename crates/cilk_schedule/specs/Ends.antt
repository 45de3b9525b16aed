-- The end of a worker's frame: by numbers, and as a step of the free machine.
use Rattle.std.specs.Prelude.{◌≡◌, ◌+◌, ◌<◌, ℕ, Bool, true, false, cond, ℤ, List, slice_get, length, Option, Some}
use Rattle.cilk_types.specs.declared.event.Event.{Event}
use Rattle.cilk_types.specs.declared.event.Event.TheVariants as events
use Rattle.cilk_types.specs.declared.outcome.Outcome.{Outcome}
use Rattle.cilk_program.specs.Syntax.{Source}
use Rattle.cilk_program.specs.declared.ask.Ask.TheVariants as asks
use Rattle.cilk_lower.specs.Code.{CodeView}
use Rattle.cilk_frames.specs.declared.activation.Activation.{Activation}
use Rattle.cilk_hypermap.specs.declared.hypermap.Hypermap.{Hypermap}
use Rattle.cilk_join.specs.Joins.{MayArrive}
use Rattle.cilk_join.specs.Waits.{shown}
use Rattle.cilk_determinacy.specs.Machine.{State}
use Rattle.cilk_determinacy.specs.Runs.{Name}
use Rattle.cilk_determinacy.specs.Reducers.{View}
use Rattle.cilk_determinacy.specs.FrameEnvs.{FrameEnv}
use Rattle.cilk_scheduler.specs.WorkerTables.{WorkerTable, Chooses, Did}
use Rattle.cilk_scheduler.specs.EndParts.{Brings, Seeks}
use Rattle.cilk_scheduler.specs.Ending.{RetiresOwn}
use Rattle.cilk_scheduler.specs.Invocations.{IsNoted}
use Rattle.cilk_frames.specs.Leaving.{outcome_of}
use Rattle.cilk_scheduler.specs.Parts.{freed, working}
use Rattle.cilk_scheduler.specs.FrameStates.{changed, finished, moved_to, passed}
use Rattle.cilk_scheduler.specs.Workers.{altered, viewing}
use Rattle.cilk_scheduler.specs.declared.scheduler.Scheduler.{Scheduler}
use Rattle.cilk_scheduler.specs.declared.choice.Choice.{Choice}
use Rattle.cilk_scheduler.specs.declared.choice.Told.{Told}
use Rattle.cilk_scheduler.specs.declared.choice.Told.TheVariants as told
use Rattle.cilk_scheduler.specs.declared.frame_state.FrameState.{FrameState}
use Rattle.cilk_scheduler.specs.declared.frame_state.Status.{Status}
use Rattle.cilk_scheduler.specs.declared.frame_state.Status.TheVariants.{Held, Offered}
use Rattle.cilk_scheduler.specs.declared.frame_state.Worker.{Worker}
use Rattle.cilk_schedule.specs.Reached.{IsReached}

-- the worker that offers a frame's continuation, if any, is one of `count` workers
abbrev pub IsOfferedAmong : Status → ℕ → Type 0
IsOfferedAmong status count = (v : ℕ) → status ≡ Offered v → v < count

-- a stolen child's piece may arrive at a frame's block under this key
abbrev pub MayBring : FrameState → ℕ → Type 0
MayBring x key = (l : _) × (x.join ≡ Some l) × MayArrive (shown l.value) key false

-- The parent of the frame at place k as the frame ends: the worker that offers the parent's
-- continuation exists. If the continuation beside the frame was stolen, the frame's piece may
-- arrive at the parent's block.
abbrev pub FindsParent : List (Activation FrameState) → ℕ → ℕ → Type 0
FindsParent frames count k =
    0 < k → (a above : Activation FrameState) → slice_get frames k ≡ Some a → (let x = a.cursor in slice_get frames x.parent ≡ Some above)
    → let x = a.cursor in let y = above.cursor in IsOfferedAmong y.status count × (x.stolen ≡ true → MayBring y x.ordinal)

-- Worker w, with these views, leaves its frame at place k, which ends with a value. The first frame
-- gives an outcome, and the worker is idle. If no continuation was stolen beside the frame, the
-- worker holds the parent, and its continuation is withdrawn. Otherwise the piece arrives at the
-- parent's block. If the block passes, the worker holds the parent at its sync; if not, the worker
-- is idle.
pub data PartsFrom (code : CodeView) (frames : List (Activation FrameState)) (cells : List ℤ) (workers : List Worker) (offered : ℕ) (outcome : Option Outcome) (views : Hypermap) (b' : Scheduler) (w k : ℕ) (v : ℤ) : Type 0 where
  LeavesRun : k ≡ 0 → (left : Hypermap) → b'.outcome ≡ Some (outcome_of code.layout cells views v) → (let g = b'.frames in g.items ≡ frames) → (let m = b'.workers in m.items ≡ altered freed (viewing left workers w) w) → b'.offered ≡ offered
      → PartsFrom code frames cells workers offered outcome views b' w k v
  ReturnsUp : 0 < k → (a above : Activation FrameState) (others : List Worker) → slice_get frames k ≡ Some a → (let x = a.cursor in x.stolen ≡ false) → (let x = a.cursor in slice_get frames x.parent ≡ Some above)
      → (let x = a.cursor in let y = above.cursor in Seeks x.parent y.status workers others offered b'.offered) → (let x = a.cursor in let g = b'.frames in g.items ≡ changed (moved_to (Held w)) frames x.parent)
      → (let x = a.cursor in let m = b'.workers in m.items ≡ altered (working x.parent) others w) → b'.outcome ≡ outcome → PartsFrom code frames cells workers offered outcome views b' w k v
  BringsPiece : 0 < k → (a above : Activation FrameState) (joined : FrameState) (left : Hypermap) (passes : Bool) (brought : List (Activation FrameState)) → slice_get frames k ≡ Some a → (let x = a.cursor in x.stolen ≡ true)
      → (let x = a.cursor in slice_get frames x.parent ≡ Some above) → (let x = a.cursor in Brings above.cursor x.ordinal views passes joined left) → (let x = a.cursor in brought ≡ changed (λ _. joined) frames x.parent)
      → (let x = a.cursor in let g = b'.frames in g.items ≡ cond passes (changed (moved_to (Held w)) (changed passed brought x.parent) x.parent) brought)
      → (let x = a.cursor in let m = b'.workers in m.items ≡ altered (cond passes (working x.parent) freed) (viewing left workers w) w) → b'.offered ≡ offered → b'.outcome ≡ outcome
      → PartsFrom code frames cells workers offered outcome views b' w k v

-- the same, from one scheduler to the next
abbrev pub PartsTo : CodeView → Scheduler → Scheduler → ℕ → ℕ → ℤ → Type 0
PartsTo code b b' w k v =
    (u : Worker) → let f = b.frames in let c = b.cells in let l = b.workers in FindsParent f.items (length l.items) k → slice_get l.items w ≡ Some u → PartsFrom code f.items c.items l.items b.offered b.outcome u.views b' w k v

-- The frame at place k, which worker w holds, ends with a value. The worker's views have lost the
-- frame's reducers, the worker has left the frame, and the frame is finished. The event isn't in
-- the journal yet.
pub record Ended (code : CodeView) (b b' : Scheduler) (w k : ℕ) (v : ℤ) : Type 0 where
  pub worker : Worker
  pub top : Activation FrameState
  pub views : Hypermap
  pub departed : Scheduler
  pub at : let l = b.workers in slice_get l.items w ≡ Some worker
  pub sits : let f = b.frames in slice_get f.items k ≡ Some top
  pub retires : RetiresOwn code.layout top worker.views views
  pub departs : let f = b.frames in let c = b.cells in let l = b.workers in PartsFrom code f.items c.items (viewing views l.items w) b.offered b.outcome views departed w k v
  pub frames : let f = departed.frames in let g = b'.frames in g.items ≡ changed finished f.items k
  pub workers : b'.workers ≡ departed.workers
  pub offered : b'.offered ≡ departed.offered
  pub outcome : b'.outcome ≡ departed.outcome
  pub cells : b'.cells ≡ b.cells
  pub journal : let e = b.journal in let l = b'.journal in l.items ≡ e.items
  pub ticks : b'.ticks ≡ b.ticks

-- the frame requests its end, and ends so if its parent is as it must be
abbrev pub EndsFrame : CodeView → Scheduler → Scheduler → ℕ → ℕ → Type 0
EndsFrame code b b' w k = (v : ℤ) × (b.asked ≡ asks.End v) × ((let f = b.frames in let l = b.workers in FindsParent f.items (length l.items) k) → Ended code b b' w k v)

-- The same, with the event in the journal and the frame's ticks counted.
pub record WroteEnd (code : CodeView) (b b' : Scheduler) (w k : ℕ) : Type 0 where
  pub made : Scheduler
  pub ends : EndsFrame code b made w k
  pub noted : IsNoted made b' k events.End

-- the result is an event of that frame; if it is an `end`, the frame has ended
abbrev pub TellsEnd : CodeView → Scheduler → Scheduler → ℕ → ℕ → Told → Type 0
TellsEnd code b b' w k t = (e : Event) × (t ≡ told.Did (record { frame = k + 1; event = e })) × (e ≡ events.End → WroteEnd code b b' w k)

-- A choice that ends a frame is a step of the free machine: if the scheduler showed a state, it
-- shows the state after that step.
abbrev pub EndsAreSteps : CodeView → List ℤ → Scheduler → Scheduler → Choice → Told → Type 0
EndsAreSteps code inputs b b' c (told.Did act) =
    act.event ≡ events.End → (p : Source) (name : ℕ → Name) (d : WorkerTable) (s : State FrameEnv View) → IsReached code p inputs name b d s → (s' : State FrameEnv View) × (d' : WorkerTable) × Chooses p inputs s d c Did s' d' × IsReached code p inputs name b' d' s'
EndsAreSteps code inputs b b' c told.Stole = Unit {0}
EndsAreSteps code inputs b b' c told.Waits = Unit {0}
EndsAreSteps code inputs b b' c told.Skipped = Unit {0}
