-- Events that touch a cell, a reducer or the output: the scheduler before and after, by numbers.
use Rattle.std.specs.Prelude.{◌≡◌, ℕ, IsTrue, ℤ, List, slice_get, slice_set, Some}
use Rattle.cilk_types.specs.declared.event.Event.TheVariants as events
use Rattle.cilk_types.specs.declared.event.Instance.{Instance}
use Rattle.cilk_monoid.specs.declared.kind.MonoidKind.TheVariants.{Append}
use Rattle.cilk_monoid.specs.Kinds.{structure_of}
use Rattle.cilk_types.specs.Word.{IsWord}
use Rattle.cilk_program.specs.declared.ask.Ask.TheVariants as asks
use Rattle.cilk_program.specs.declared.syntax.Place.{Place}
use Rattle.cilk_program.specs.declared.syntax.Reducer.{Reducer}
use Rattle.cilk_program.specs.declared.syntax.ReducerPlace.{ReducerPlace}
use Rattle.cilk_program.specs.Scopes.{Scope, cell_in, instance_in}
use Rattle.cilk_program.specs.SerialRun.{global_reducer, itself}
use Rattle.cilk_program.specs.Syntax.{Source}
use Rattle.cilk_program.specs.WellNamed.{is_well_named}
use Rattle.cilk_lower.specs.Code.{CodeView}
use Rattle.cilk_lower.specs.Layout.{LaysOut}
use Rattle.cilk_frames.specs.declared.cursor.Answer.TheVariants as answers
use Rattle.cilk_hypermap.specs.Hypermap.{ChangesIn, value_in}
use Rattle.cilk_hypermap.specs.Views.{output}
use Rattle.cilk_hypermap.specs.declared.hypermap.Hypermap.{Hypermap}
use Rattle.cilk_determinacy.specs.Machine.{State}
use Rattle.cilk_determinacy.specs.Runs.{Name}
use Rattle.cilk_determinacy.specs.Reducers.{View}
use Rattle.cilk_determinacy.specs.FrameEnvs.{FrameEnv}
use Rattle.cilk_scheduler.specs.declared.scheduler.Scheduler.{Scheduler}
use Rattle.cilk_scheduler.specs.Schedulers.{ShowsBy}
use Rattle.cilk_scheduler.specs.WorkerTables.{WorkerTable}
use Rattle.cilk_scheduler.specs.Events.{SeesAt}
use Rattle.cilk_scheduler.specs.Histories.{DidAsAsked}
use Rattle.cilk_scheduler.specs.FrameStates.{answered}
use Rattle.cilk_scheduler.specs.Steps.{HasCome, IsDone, Notes}

-- the place means this cell to frame k
abbrev pub MeansCell : Scheduler → ℕ → Place → ℕ → Type 0
MeansCell b k x n = (scope : Scope ℕ Instance) → (let f = b.frames in SeesAt f.items k scope) → n ≡ cell_in itself scope x

-- the place means this reducer to frame k
abbrev pub MeansReducer : Scheduler → ℕ → ReducerPlace → Instance → Type 0
MeansReducer b k r j = (scope : Scope ℕ Instance) → (let f = b.frames in SeesAt f.items k scope) → j ≡ instance_in global_reducer scope r

module _ (code : CodeView) (p : Source) (inputs : List ℤ) where
  -- The scheduler shows this state, in which each frame did what it requested. Each name of the
  -- program means something.
  pub record IsShown (name : ℕ → Name) (b : Scheduler) (d : WorkerTable) (s : State FrameEnv View) : Type 0 where
    pub well : IsTrue (is_well_named p)
    pub lays : LaysOut p code.layout
    pub shows : ShowsBy code p inputs name b d s
    pub asked : DidAsAsked p inputs s

  -- a frame reads a cell
  abbrev pub ReadsAreShown : Type 0
  ReadsAreShown =
      (name : ℕ → Name) (b b' : Scheduler) (d : WorkerTable) (s : State FrameEnv View) (w k : ℕ) (x : Place) (n : ℕ) (v : ℤ) → IsShown name b d s → (h : HasCome code p inputs b w k (asks.Read x)) → MeansCell b k x n → (let c = b.cells in slice_get c.items n ≡ Some v)
      → (let c = b.cells in let u = h.worker in Notes code p inputs b b' w k h.came (answered (answers.Value v) h.came) (events.Read n v) c.items u.views) → IsDone code p inputs name b' d s w

  -- a frame writes a cell
  abbrev pub WritesAreShown : Type 0
  WritesAreShown =
      (name : ℕ → Name) (b b' : Scheduler) (d : WorkerTable) (s : State FrameEnv View) (w k : ℕ) (x : Place) (n : ℕ) (v : ℤ) → IsShown name b d s → (h : HasCome code p inputs b w k (asks.Write x v)) → MeansCell b k x n
      → (let c = b.cells in let u = h.worker in Notes code p inputs b b' w k h.came (answered answers.Done h.came) (events.Write n v) (slice_set c.items n v) u.views) → IsDone code p inputs name b' d s w

  -- a frame's result is stored in the cell for it
  abbrev pub ResultsAreShown : Type 0
  ResultsAreShown =
      (name : ℕ → Name) (b b' : Scheduler) (d : WorkerTable) (s : State FrameEnv View) (w k n : ℕ) (v : ℤ) → IsShown name b d s → (h : HasCome code p inputs b w k (asks.Result v)) → (let a = h.frame_state in a.result ≡ Some n)
      → (let c = b.cells in let u = h.worker in Notes code p inputs b b' w k h.came (answered answers.Done h.came) (events.Write n v) (slice_set c.items n v) u.views) → IsDone code p inputs name b' d s w

  -- a frame creates a reducer, whose view is the unit
  abbrev pub CreatesAreShown : Type 0
  CreatesAreShown =
      (name : ℕ → Name) (b b' : Scheduler) (d : WorkerTable) (s : State FrameEnv View) (w k : ℕ) (r : Reducer) (j : Instance) (views : Hypermap) → IsShown name b d s → (h : HasCome code p inputs b w k (asks.Create r)) → MeansReducer b k r.place j
      → (let u = h.worker in ChangesIn u.views views r.kind j (Some (structure_of r.kind).unit))
      → (let c = b.cells in Notes code p inputs b b' w k h.came (answered answers.Done h.came) (events.Create j) c.items views) → IsDone code p inputs name b' d s w

  -- a frame updates a reducer: its view is multiplied from the right by the view of a number
  abbrev pub UpdatesAreShown : Type 0
  UpdatesAreShown =
      (name : ℕ → Name) (b b' : Scheduler) (d : WorkerTable) (s : State FrameEnv View) (w k : ℕ) (r : Reducer) (v : ℤ) (j : Instance) (views : Hypermap) → IsShown name b d s → (h : HasCome code p inputs b w k (asks.Update r v)) → IsWord v → MeansReducer b k r.place j
      → (let u = h.worker in ChangesIn u.views views r.kind j (Some ((structure_of r.kind).combine (value_in u.views r.kind j) ((structure_of r.kind).single v))))
      → (let c = b.cells in Notes code p inputs b b' w k h.came (answered answers.Done h.came) (events.Update j v) c.items views) → IsDone code p inputs name b' d s w

  -- a frame sets a reducer: its view becomes the view of a number
  abbrev pub SetsAreShown : Type 0
  SetsAreShown =
      (name : ℕ → Name) (b b' : Scheduler) (d : WorkerTable) (s : State FrameEnv View) (w k : ℕ) (r : Reducer) (v : ℤ) (j : Instance) (views : Hypermap) → IsShown name b d s → (h : HasCome code p inputs b w k (asks.Set r v)) → IsWord v → MeansReducer b k r.place j
      → (let u = h.worker in ChangesIn u.views views r.kind j (Some ((structure_of r.kind).single v)))
      → (let c = b.cells in Notes code p inputs b b' w k h.came (answered answers.Done h.came) (events.Set j v) c.items views) → IsDone code p inputs name b' d s w

  -- a frame reads the number of a reducer's view
  abbrev pub ValuesAreShown : Type 0
  ValuesAreShown =
      (name : ℕ → Name) (b b' : Scheduler) (d : WorkerTable) (s : State FrameEnv View) (w k : ℕ) (r : Reducer) (v : ℤ) (j : Instance) (views : Hypermap) → IsShown name b d s → (h : HasCome code p inputs b w k (asks.Value r)) → MeansReducer b k r.place j
      → (let u = h.worker in v ≡ (structure_of r.kind).number (value_in u.views r.kind j)) → (let u = h.worker in ChangesIn u.views views r.kind j (Some (value_in u.views r.kind j)))
      → (let c = b.cells in Notes code p inputs b b' w k h.came (answered (answers.Value v) h.came) (events.Value j v) c.items views) → IsDone code p inputs name b' d s w

  -- a frame prints a number
  abbrev pub PrintsAreShown : Type 0
  PrintsAreShown =
      (name : ℕ → Name) (b b' : Scheduler) (d : WorkerTable) (s : State FrameEnv View) (w k : ℕ) (v : ℤ) (views : Hypermap) → IsShown name b d s → (h : HasCome code p inputs b w k (asks.Print v)) → IsWord v
      → (let u = h.worker in ChangesIn u.views views Append output (Some ((structure_of Append).combine (value_in u.views Append output) ((structure_of Append).single v))))
      → (let c = b.cells in Notes code p inputs b b' w k h.came (answered answers.Done h.came) (events.Print v) c.items views) → IsDone code p inputs name b' d s w
