-- Events, put together from the contracts of the functions: a frame may continue, it has reached
-- its request, what this names exists, and its event is recorded.
use Rattle.std.specs.Prelude.{◌≡◌, ◌⊎◌, ◌+◌, ◌-◌, ◌<◌, ◌≤◌, ℕ, ℤ, List, [], ◌∷◌, ◌++◌, length, slice_get, slice_set, Option, Some, None}
use Rattle.cilk_types.specs.declared.event.Event as numbered
use Rattle.cilk_types.specs.declared.event.Instance.{Instance}
use Rattle.cilk_types.specs.declared.limits.TheConstants.{MAX_TICKS}
use Rattle.cilk_program.specs.declared.ask.Ask.{Ask}
use Rattle.cilk_program.specs.declared.ask.Ask.TheVariants as asks
use Rattle.cilk_program.specs.declared.syntax.Place.{Place}
use Rattle.cilk_program.specs.declared.syntax.Reducer.{Reducer}
use Rattle.cilk_program.specs.declared.syntax.ReducerPlace.{ReducerPlace}
use Rattle.cilk_program.specs.Scopes.{Scope, cell_in}
use Rattle.cilk_program.specs.SerialRun.{itself}
use Rattle.cilk_program.specs.Syntax.{Source, number_in}
use Rattle.cilk_lower.specs.Code.{CodeView}
use Rattle.cilk_frames.specs.declared.activation.Activation.{Activation}
use Rattle.cilk_hypermap.specs.declared.hypermap.Hypermap.{Hypermap}
use Rattle.cilk_determinacy.specs.Machine.{State}
use Rattle.cilk_determinacy.specs.Runs.{Name}
use Rattle.cilk_determinacy.specs.Reducers.{View}
use Rattle.cilk_determinacy.specs.FrameEnvs.{FrameEnv}
use Rattle.cilk_scheduler.specs.declared.scheduler.Scheduler.{Scheduler}
use Rattle.cilk_scheduler.specs.declared.frame_state.FrameState.{FrameState}
use Rattle.cilk_scheduler.specs.declared.frame_state.Worker.{Worker}
use Rattle.cilk_scheduler.specs.Acting.{IsShown}
use Rattle.cilk_scheduler.specs.Asking.{IsReady, WentOn, refusal}
use Rattle.cilk_scheduler.specs.Schedulers.{ShowsBy}
use Rattle.cilk_scheduler.specs.WorkerTables.{WorkerTable}
use Rattle.cilk_scheduler.specs.Events.{SeesAt}
use Rattle.cilk_scheduler.specs.FrameStates.{changed, counted}
use Rattle.cilk_scheduler.specs.Steps.{HasCome, Notes}

-- worker w holds frame k
pub record HasFrame (b : Scheduler) (w k : ℕ) : Type 0 where
  pub worker : Worker
  pub frame_state : Activation FrameState
  pub at : let l = b.workers in slice_get l.items w ≡ Some worker
  pub has : worker.frame ≡ Some k
  pub sits : let f = b.frames in slice_get f.items k ≡ Some frame_state

-- the place means a cell of the scheduler to frame k
abbrev pub CellIsThere : Scheduler → ℕ → Place → Type 0
CellIsThere b k x = (scope : Scope ℕ Instance) × (let f = b.frames in SeesAt f.items k scope) × (let c = b.cells in cell_in itself scope x < length c.items)

-- the reducer that a request names
abbrev pub reducer_asked : Ask → Option Reducer
reducer_asked asks.Begin = None
reducer_asked (asks.Read x) = None
reducer_asked (asks.Write x v) = None
reducer_asked (asks.Create r) = Some r
reducer_asked (asks.Update r v) = Some r
reducer_asked (asks.Set r v) = Some r
reducer_asked (asks.Value r) = Some r
reducer_asked (asks.Print v) = None
reducer_asked (asks.Invoke how callee) = None
reducer_asked asks.Resume = None
reducer_asked asks.Sync = None
reducer_asked (asks.Result v) = None
reducer_asked (asks.End v) = None
reducer_asked (asks.Fault f) = None

-- frame k has a scope, and the place of a reducer has a small number there
abbrev pub ReducerIsThere : Scheduler → ℕ → ReducerPlace → Type 0
ReducerIsThere b k r = ((scope : Scope ℕ Instance) × (let f = b.frames in SeesAt f.items k scope)) × (number_in r < 65536)

-- A frame that has continued has the same scope and the same cell for its result.
abbrev pub SightStays : Type 0
SightStays =
    (frames went : List (Activation FrameState)) (k : ℕ) (came : FrameState) → went ≡ changed (λ _. came) frames k
    → ((scope : Scope ℕ Instance) → SeesAt frames k scope → SeesAt went k scope) × ((a : Activation FrameState) → slice_get frames k ≡ Some a → slice_get went k ≡ Some (record a { cursor = came }))

module _ (code : CodeView) (p : Source) (inputs : List ℤ) where
  -- the frame that a worker holds may continue
  abbrev pub FramesAreReady : Type 0
  FramesAreReady = (name : ℕ → Name) (b : Scheduler) (d : WorkerTable) (s : State FrameEnv View) (w k : ℕ) → ShowsBy code p inputs name b d s → (f : HasFrame b w k) → (let a = f.frame_state in IsReady code inputs a.cursor)

  -- once it has continued, no more ticks are counted than it used
  abbrev pub TicksAreMore : Type 0
  TicksAreMore =
      (name : ℕ → Name) (b : Scheduler) (d : WorkerTable) (s : State FrameEnv View) (w k : ℕ) (ask : Ask) (came : FrameState) → ShowsBy code p inputs name b d s → (f : HasFrame b w k) → (let a = f.frame_state in WentOn code inputs a.cursor ask came) → came.counted ≤ came.took

  -- It has reached its request if its code leads there and no fault comes in place of the event.
  -- The ticks are within their limit then.
  abbrev pub FramesCome : Type 0
  FramesCome =
      (b : Scheduler) (w k ticks : ℕ) (ask : Ask) (came : FrameState) (went : List (Activation FrameState)) (f : HasFrame b w k) → b.outcome ≡ None → (let a = f.frame_state in WentOn code inputs a.cursor ask came)
      → (let l = b.frames in went ≡ changed (λ _. came) l.items k) → ((a : Activation FrameState) → slice_get went k ≡ Some a → ticks ≡ (let x = a.cursor in x.took - x.counted))
      → (let e = b.journal in let c = b.cells in refusal (b.ticks + ticks) (length e.items) (length went) (length c.items) code.layout ask ≡ None)
      → (h : HasCome code p inputs b w k ask) × (h.worker ≡ f.worker) × (h.frame_state ≡ f.frame_state) × (h.came ≡ came) × (b.ticks + (came.took - came.counted) ≤ MAX_TICKS)

  -- the cells that are read, written and used for results exist
  abbrev pub ReadCellsAreThere : Type 0
  ReadCellsAreThere = (name : ℕ → Name) (b : Scheduler) (d : WorkerTable) (s : State FrameEnv View) (w k : ℕ) (x : Place) → IsShown code p inputs name b d s → HasCome code p inputs b w k (asks.Read x) → CellIsThere b k x

  abbrev pub WrittenCellsAreThere : Type 0
  WrittenCellsAreThere = (name : ℕ → Name) (b : Scheduler) (d : WorkerTable) (s : State FrameEnv View) (w k : ℕ) (x : Place) (v : ℤ) → IsShown code p inputs name b d s → HasCome code p inputs b w k (asks.Write x v) → CellIsThere b k x

  abbrev pub ResultCellsAreThere : Type 0
  ResultCellsAreThere =
      (name : ℕ → Name) (b : Scheduler) (d : WorkerTable) (s : State FrameEnv View) (w k : ℕ) (v : ℤ) → IsShown code p inputs name b d s → (h : HasCome code p inputs b w k (asks.Result v))
      → (n : ℕ) × (let a = h.frame_state in a.result ≡ Some n) × (let c = b.cells in n < length c.items)

  -- the reducers that requests name exist
  abbrev pub ReducersAreThere : Type 0
  ReducersAreThere =
      (name : ℕ → Name) (b : Scheduler) (d : WorkerTable) (s : State FrameEnv View) (w k : ℕ) (ask : Ask) (r : Reducer) → IsShown code p inputs name b d s → HasCome code p inputs b w k ask → reducer_asked ask ≡ Some r → ReducerIsThere b k r.place

  -- An event is recorded in these parts: the frame continues and acts, its ticks are counted, and
  -- the worker has the views that it had or these.
  abbrev pub EventsAreNoted : Type 0
  EventsAreNoted =
      (b b' : Scheduler) (w k : ℕ) (ask : Ask) (h : HasCome code p inputs b w k ask) (act : FrameState → FrameState) (event : numbered.Event) (cells : List ℤ) (views : Hypermap) (went acted : List (Activation FrameState))
      → ((x : FrameState) → let y = act x in (y.took ≡ x.took) × (y.counted ≡ x.counted))
      → (let l = b.frames in went ≡ changed (λ _. h.came) l.items k) → acted ≡ changed act went k → (let l = b'.frames in l.items ≡ changed counted acted k)
      → ((a : Activation FrameState) → slice_get acted k ≡ Some a → b'.ticks ≡ b.ticks + (let x = a.cursor in x.took - x.counted))
      → (let e = b.journal in let l = b'.journal in l.items ≡ e.items ++ (record { frame = k; event = event }) ∷ []) → (let c = b'.cells in c.items ≡ cells)
      → (let l = b.workers in let m = b'.workers in let u = h.worker in ((m.items ≡ l.items) × (views ≡ u.views)) ⊎ (m.items ≡ slice_set l.items w (record u { views = views })))
      → b'.offered ≡ b.offered → b'.outcome ≡ b.outcome → Notes code p inputs b b' w k h.came (act h.came) event cells views
