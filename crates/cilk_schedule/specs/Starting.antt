-- The start of a child by a worker's frame: by numbers, and as a step of the free machine.
use Rattle.std.specs.Prelude.{◌≡◌, ◌+◌, ◌<◌, ℕ, suc, ℤ, List, length}
use Rattle.cilk_types.specs.declared.event.Event as numbered
use Rattle.cilk_types.specs.declared.event.Event.TheVariants as events
use Rattle.cilk_types.specs.declared.invocation.Invocation.{Invocation}
use Rattle.cilk_program.specs.SerialRun.{invocation}
use Rattle.cilk_program.specs.Syntax.{Source}
use Rattle.cilk_program.specs.declared.ask.Ask.TheVariants as asks
use Rattle.cilk_program.specs.declared.ask.Callee.{Callee}
use Rattle.cilk_lower.specs.Code.{CodeView}
use Rattle.cilk_lower.specs.Layout.{cells_in}
use Rattle.cilk_frames.specs.declared.activation.Activation.{Activation}
use Rattle.cilk_determinacy.specs.Machine.{State}
use Rattle.cilk_determinacy.specs.Runs.{Name}
use Rattle.cilk_determinacy.specs.Reducers.{View}
use Rattle.cilk_determinacy.specs.FrameEnvs.{FrameEnv}
use Rattle.cilk_scheduler.specs.WorkerTables.{WorkerTable, Chooses, Did}
use Rattle.cilk_scheduler.specs.Invocations.{ChildBegins, IsNoted}
use Rattle.cilk_scheduler.specs.Invoking.{IsChild}
use Rattle.cilk_scheduler.specs.declared.scheduler.Scheduler.{Scheduler}
use Rattle.cilk_scheduler.specs.declared.choice.Choice.{Choice}
use Rattle.cilk_scheduler.specs.declared.choice.Told.{Told}
use Rattle.cilk_scheduler.specs.declared.choice.Told.TheVariants as told
use Rattle.cilk_scheduler.specs.declared.frame_state.FrameState.{FrameState}
use Rattle.cilk_schedule.specs.Reached.{IsReached}

-- the event starts a frame
abbrev pub IsStart : numbered.Event → Type 0
IsStart (events.Begin k) = ⊥
IsStart (events.Read n v) = ⊥
IsStart (events.Write n v) = ⊥
IsStart (events.Create j) = ⊥
IsStart (events.Update j v) = ⊥
IsStart (events.Set j v) = ⊥
IsStart (events.Value j v) = ⊥
IsStart (events.Print v) = ⊥
IsStart (events.Resume k) = ⊥
IsStart (events.Call k) = Unit {0}
IsStart (events.Spawn k) = Unit {0}
IsStart events.Sync = ⊥
IsStart events.End = ⊥

-- The frame at place k, which worker w holds, requests a child, and the child has begun. Its cells
-- are after all others, and the worker holds it. The event isn't in the journal yet.
pub record Started (code : CodeView) (b b' : Scheduler) (w k : ℕ) (event : numbered.Event) : Type 0 where
  pub how : Invocation
  pub callee : Callee
  pub child : Activation FrameState
  pub asked : b.asked ≡ asks.Invoke how callee
  pub is_child : let f = b.frames in let c = b.cells in IsChild code f.items k w (length c.items) how callee child
  pub begins : ChildBegins b b' w k how child (cells_in code.layout callee)
  pub event_is : let f = b.frames in event ≡ invocation how (suc (length f.items))

-- The same, with the event in the journal and the ticks of the parent counted.
pub record WroteStart (code : CodeView) (b b' : Scheduler) (w k : ℕ) (event : numbered.Event) : Type 0 where
  pub made : Scheduler
  pub starts : Started code b made w k event
  pub noted : IsNoted made b' k event

-- the result is an event of that frame; if it is a call or a spawn, the child has begun
abbrev pub TellsStart : CodeView → Scheduler → Scheduler → ℕ → ℕ → Told → Type 0
TellsStart code b b' w k t = (e : numbered.Event) × (t ≡ told.Did (record { frame = k + 1; event = e })) × (IsStart e → WroteStart code b b' w k e)

-- A choice that starts a frame is a step of the free machine: if the scheduler showed a state, it
-- shows the state after that step. Frames keep their names, and the new one has its own.
abbrev pub StartsAreSteps : CodeView → List ℤ → Scheduler → Scheduler → Choice → Told → Type 0
StartsAreSteps code inputs b b' c (told.Did act) =
    IsStart act.event → (p : Source) (name : ℕ → Name) (d : WorkerTable) (s : State FrameEnv View) → IsReached code p inputs name b d s
    → (name' : ℕ → Name) × (s' : State FrameEnv View) × (d' : WorkerTable) × Chooses p inputs s d c Did s' d' × IsReached code p inputs name' b' d' s' × ((j : ℕ) → (let f = b.frames in j < length f.items) → name' j ≡ name j)
StartsAreSteps code inputs b b' c told.Stole = Unit {0}
StartsAreSteps code inputs b b' c told.Waits = Unit {0}
StartsAreSteps code inputs b b' c told.Skipped = Unit {0}
