-- The event of a worker's frame that has reached its request: the scheduler before and after, by
-- numbers.
use Rattle.std.specs.Prelude.{◌≡◌, ◌+◌, ◌-◌, ℕ, suc, ℤ, List, [], ◌∷◌, ◌++◌, length, slice_get, Some, None}
use Rattle.cilk_types.specs.declared.event.Event as numbered
use Rattle.cilk_types.specs.declared.event.Event.TheVariants as events
use Rattle.cilk_program.specs.declared.ask.Ask.{Ask}
use Rattle.cilk_program.specs.declared.ask.Ask.TheVariants as asks
use Rattle.cilk_program.specs.Syntax.{Source}
use Rattle.cilk_lower.specs.Code.{CodeView}
use Rattle.cilk_lower.specs.Layout.{LaysOut}
use Rattle.cilk_frames.specs.declared.activation.Activation.{Activation}
use Rattle.cilk_hypermap.specs.declared.hypermap.Hypermap.{Hypermap}
use Rattle.cilk_determinacy.specs.Machine.{State}
use Rattle.cilk_determinacy.specs.Runs.{Name}
use Rattle.cilk_determinacy.specs.Reducers.{View}
use Rattle.cilk_determinacy.specs.FrameEnvs.{FrameEnv}
use Rattle.cilk_scheduler.specs.declared.scheduler.Scheduler.{Scheduler}
use Rattle.cilk_scheduler.specs.declared.choice.Choice.TheVariants.{Run}
use Rattle.cilk_scheduler.specs.declared.frame_state.FrameState.{FrameState}
use Rattle.cilk_scheduler.specs.declared.frame_state.Worker.{Worker}
use Rattle.cilk_scheduler.specs.Asking.{WentOn, refusal}
use Rattle.cilk_scheduler.specs.Schedulers.{ShowsBy}
use Rattle.cilk_scheduler.specs.WorkerTables.{WorkerTable, Did, Chooses}
use Rattle.cilk_scheduler.specs.Histories.{DidAsAsked}
use Rattle.cilk_scheduler.specs.FrameStates.{changed, counted, stranded}
use Rattle.cilk_scheduler.specs.Workers.{viewing}

module _ (code : CodeView) (p : Source) (inputs : List ℤ) where
  -- Worker w holds frame k, which has reached this request, and no fault comes in place of its
  -- event.
  pub record HasCome (b : Scheduler) (w k : ℕ) (ask : Ask) : Type 0 where
    pub worker : Worker
    pub frame_state : Activation FrameState
    pub came : FrameState
    pub at : let l = b.workers in slice_get l.items w ≡ Some worker
    pub has : worker.frame ≡ Some k
    pub sits : let f = b.frames in slice_get f.items k ≡ Some frame_state
    pub was_open : b.outcome ≡ None
    pub went : let x = frame_state.cursor in WentOn code inputs x ask came
    pub accepted : let e = b.journal in let f = b.frames in let c = b.cells in refusal (b.ticks + (came.took - came.counted)) (length e.items) (length f.items) (length c.items) code.layout ask ≡ None

  -- The frame continues in this state, its event is recorded and its ticks are counted. The cells
  -- and the worker's views are these then.
  pub record Notes (b b' : Scheduler) (w k : ℕ) (came next : FrameState) (event : numbered.Event) (cells : List ℤ) (views : Hypermap) : Type 0 where
    pub frames : let f = b.frames in let g = b'.frames in g.items ≡ changed (λ _. counted next) f.items k
    pub journal : let e = b.journal in let l = b'.journal in l.items ≡ e.items ++ (record { frame = k; event = event }) ∷ []
    pub cells_are : let c = b'.cells in c.items ≡ cells
    pub workers : let l = b.workers in let m = b'.workers in m.items ≡ viewing views l.items w
    pub offered : b'.offered ≡ b.offered
    pub outcome : b'.outcome ≡ b.outcome
    pub ticks : b'.ticks ≡ b.ticks + (came.took - came.counted)

  -- what the worker's choice does to a state shown, and that the scheduler shows the result
  abbrev pub IsDone : (ℕ → Name) → Scheduler → WorkerTable → State FrameEnv View → ℕ → Type 0
  IsDone name b' d s w = (s' : State FrameEnv View) × Chooses p inputs s d (Run (suc w)) Did s' d × ShowsBy code p inputs name b' d s'

  -- a frame begins
  abbrev pub BeginsAreShown : Type 0
  BeginsAreShown =
      (name : ℕ → Name) (b b' : Scheduler) (d : WorkerTable) (s : State FrameEnv View) (w k : ℕ) → LaysOut p code.layout → ShowsBy code p inputs name b d s → DidAsAsked p inputs s → (h : HasCome b w k asks.Begin)
      → (let c = b.cells in let u = h.worker in Notes b b' w k h.came (stranded h.came) (events.Begin (suc k)) c.items u.views) → IsDone name b' d s w

  -- a frame resumes after a child, with the child's views, or with its own piece's after a steal
  abbrev pub ResumesAreShown : Type 0
  ResumesAreShown =
      (name : ℕ → Name) (b b' : Scheduler) (d : WorkerTable) (s : State FrameEnv View) (w k : ℕ) → LaysOut p code.layout → ShowsBy code p inputs name b d s → DidAsAsked p inputs s → (h : HasCome b w k asks.Resume)
      → (let c = b.cells in let u = h.worker in Notes b b' w k h.came (stranded h.came) (events.Resume (suc k)) c.items u.views) → IsDone name b' d s w
