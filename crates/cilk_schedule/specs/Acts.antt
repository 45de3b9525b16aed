-- The changes, by numbers, of an event that starts and ends no frame and no block.
use Rattle.std.specs.Prelude.{◌≡◌, ◌⊎◌, ◌-◌, ◌+◌, ℕ, ℤ, List, [], ◌∷◌, ◌++◌, slice_get, slice_set, Some}
use Rattle.cilk_types.specs.declared.event.Event as numbered
use Rattle.cilk_types.specs.declared.event.Event.TheVariants as events
use Rattle.cilk_types.specs.declared.event.Instance.{Instance}
use Rattle.cilk_types.specs.Word.{IsWord}
use Rattle.cilk_monoid.specs.declared.kind.MonoidKind.TheVariants.{Append}
use Rattle.cilk_monoid.specs.Kinds.{structure_of}
use Rattle.cilk_program.specs.declared.ask.Ask.{Ask}
use Rattle.cilk_program.specs.declared.ask.Ask.TheVariants as asks
use Rattle.cilk_program.specs.declared.syntax.Place.{Place}
use Rattle.cilk_program.specs.declared.syntax.Reducer.{Reducer}
use Rattle.cilk_program.specs.declared.syntax.ReducerPlace.{ReducerPlace}
use Rattle.cilk_program.specs.Scopes.{Scope, cell_in, instance_in}
use Rattle.cilk_program.specs.SerialRun.{global_reducer, itself}
use Rattle.cilk_program.specs.Syntax.{Source}
use Rattle.cilk_lower.specs.Code.{CodeView}
use Rattle.cilk_frames.specs.declared.cursor.Answer.TheVariants as answers
use Rattle.cilk_frames.specs.declared.activation.Activation.{Activation}
use Rattle.cilk_hypermap.specs.Hypermap.{ChangesIn, value_in}
use Rattle.cilk_hypermap.specs.Views.{output}
use Rattle.cilk_hypermap.specs.declared.hypermap.Hypermap.{Hypermap}
use Rattle.cilk_determinacy.specs.Machine.{State}
use Rattle.cilk_determinacy.specs.Runs.{Name}
use Rattle.cilk_determinacy.specs.Reducers.{View}
use Rattle.cilk_determinacy.specs.FrameEnvs.{FrameEnv}
use Rattle.cilk_scheduler.specs.Acting.{IsShown}
use Rattle.cilk_scheduler.specs.Asking.{WentOn}
use Rattle.cilk_scheduler.specs.Schedulers.{ShowsBy}
use Rattle.cilk_scheduler.specs.WorkerTables.{WorkerTable, Chooses, Did}
use Rattle.cilk_scheduler.specs.Events.{SeesAt}
use Rattle.cilk_scheduler.specs.FrameStates.{answered, changed, counted, stranded}
use Rattle.cilk_scheduler.specs.declared.scheduler.Scheduler.{Scheduler}
use Rattle.cilk_scheduler.specs.declared.choice.Choice.{Choice}
use Rattle.cilk_scheduler.specs.declared.choice.Told.{Told}
use Rattle.cilk_scheduler.specs.declared.choice.Told.TheVariants as told
use Rattle.cilk_scheduler.specs.declared.frame_state.FrameState.{FrameState}
use Rattle.cilk_scheduler.specs.declared.frame_state.Worker.{Worker}

-- the event starts and ends no frame and no block
abbrev pub IsTouch : numbered.Event → Type 0
IsTouch (events.Begin k) = Unit {0}
IsTouch (events.Read n v) = Unit {0}
IsTouch (events.Write n v) = Unit {0}
IsTouch (events.Create j) = Unit {0}
IsTouch (events.Update j v) = Unit {0}
IsTouch (events.Set j v) = Unit {0}
IsTouch (events.Value j v) = Unit {0}
IsTouch (events.Print v) = Unit {0}
IsTouch (events.Resume k) = Unit {0}
IsTouch (events.Call k) = ⊥
IsTouch (events.Spawn k) = ⊥
IsTouch events.Sync = ⊥
IsTouch events.End = ⊥

-- the place means this cell, or this reducer, in the frame at place k
abbrev pub Means : List (Activation FrameState) → ℕ → Place → ℕ → Type 0
Means frames k x n = (scope : Scope ℕ Instance) → SeesAt frames k scope → n ≡ cell_in itself scope x

abbrev pub MeansInstance : List (Activation FrameState) → ℕ → ReducerPlace → Instance → Type 0
MeansInstance frames k r j = (scope : Scope ℕ Instance) → SeesAt frames k scope → j ≡ instance_in global_reducer scope r

-- The event of the frame at place k that requests this: how it changes the frame's state, and the
-- cells and the worker's views after it.
pub data Acts (frames : List (Activation FrameState)) (cells : List ℤ) (views : Hypermap) (k : ℕ) : Ask → (FrameState → FrameState) → numbered.Event → List ℤ → Hypermap → Type 0 where
  begins : Acts frames cells views k asks.Begin stranded (events.Begin (k + 1)) cells views
  resumes : Acts frames cells views k asks.Resume stranded (events.Resume (k + 1)) cells views
  reads : (x : Place) (n : ℕ) (v : ℤ) → Means frames k x n → slice_get cells n ≡ Some v → Acts frames cells views k (asks.Read x) (answered (answers.Value v)) (events.Read n v) cells views
  writes : (x : Place) (n : ℕ) (v : ℤ) → Means frames k x n → Acts frames cells views k (asks.Write x v) (answered answers.Done) (events.Write n v) (slice_set cells n v) views
  gives : (n : ℕ) (v : ℤ) (a : Activation FrameState) → slice_get frames k ≡ Some a → a.result ≡ Some n → Acts frames cells views k (asks.Result v) (answered answers.Done) (events.Write n v) (slice_set cells n v) views
  creates : (r : Reducer) (j : Instance) (views' : Hypermap) → MeansInstance frames k r.place j → ChangesIn views views' r.kind j (Some (structure_of r.kind).unit)
      → Acts frames cells views k (asks.Create r) (answered answers.Done) (events.Create j) cells views'
  updates : (r : Reducer) (v : ℤ) (j : Instance) (views' : Hypermap) → IsWord v → MeansInstance frames k r.place j
      → ChangesIn views views' r.kind j (Some ((structure_of r.kind).combine (value_in views r.kind j) ((structure_of r.kind).single v))) → Acts frames cells views k (asks.Update r v) (answered answers.Done) (events.Update j v) cells views'
  sets : (r : Reducer) (v : ℤ) (j : Instance) (views' : Hypermap) → IsWord v → MeansInstance frames k r.place j → ChangesIn views views' r.kind j (Some ((structure_of r.kind).single v))
      → Acts frames cells views k (asks.Set r v) (answered answers.Done) (events.Set j v) cells views'
  values : (r : Reducer) (v : ℤ) (j : Instance) (views' : Hypermap) → MeansInstance frames k r.place j → v ≡ (structure_of r.kind).number (value_in views r.kind j) → ChangesIn views views' r.kind j (Some (value_in views r.kind j))
      → Acts frames cells views k (asks.Value r) (answered (answers.Value v)) (events.Value j v) cells views'
  prints : (v : ℤ) (views' : Hypermap) → IsWord v → ChangesIn views views' Append output (Some ((structure_of Append).combine (value_in views Append output) ((structure_of Append).single v)))
      → Acts frames cells views k (asks.Print v) (answered answers.Done) (events.Print v) cells views'

-- the event is made, and some such function changes the frame in the list
abbrev pub MakesEvent : List (Activation FrameState) → List (Activation FrameState) → List ℤ → List ℤ → Hypermap → Hypermap → ℕ → Ask → numbered.Event → Type 0
MakesEvent frames frames' cells cells' views views' k ask event = (act : FrameState → FrameState) × Acts frames cells views k ask act event cells' views' × (frames' ≡ changed act frames k)

-- Worker w has made the requested event of the frame at place k. It isn't in the journal yet.
pub record Touched (b b' : Scheduler) (w k : ℕ) (event : numbered.Event) : Type 0 where
  pub worker : Worker
  pub views : Hypermap
  pub at : let l = b.workers in slice_get l.items w ≡ Some worker
  pub makes : let f = b.frames in let g = b'.frames in let c = b.cells in let d = b'.cells in MakesEvent f.items g.items c.items d.items worker.views views k b.asked event
  pub workers : let l = b.workers in let m = b'.workers in ((m.items ≡ l.items) × (views ≡ worker.views)) ⊎ (m.items ≡ slice_set l.items w (record worker { views = views }))
  pub offered : b'.offered ≡ b.offered
  pub outcome : b'.outcome ≡ b.outcome

-- The same, with the event in the journal and the frame's ticks counted.
pub record Wrote (b b' : Scheduler) (w k : ℕ) (event : numbered.Event) : Type 0 where
  pub made : Scheduler
  pub touched : Touched b made w k event
  pub frames : let f = made.frames in let g = b'.frames in g.items ≡ changed counted f.items k
  pub ticks : (a : Activation FrameState) → (let f = made.frames in slice_get f.items k ≡ Some a) → let x = a.cursor in b'.ticks ≡ b.ticks + (x.took - x.counted)
  pub journal : let e = b.journal in let l = b'.journal in l.items ≡ e.items ++ (record { frame = k; event = event }) ∷ []
  pub cells : b'.cells ≡ made.cells
  pub workers : b'.workers ≡ made.workers
  pub offered : b'.offered ≡ made.offered
  pub outcome : b'.outcome ≡ made.outcome

-- The frame at place k has stepped to its next request, and nothing else has changed.
pub record WentTo (code : CodeView) (inputs : List ℤ) (b b' : Scheduler) (k : ℕ) : Type 0 where
  pub frame_state : Activation FrameState
  pub came : FrameState
  pub sits : let f = b.frames in slice_get f.items k ≡ Some frame_state
  pub went : let x = frame_state.cursor in WentOn code inputs x b'.asked came
  pub frames : let f = b.frames in let g = b'.frames in g.items ≡ changed (λ _. came) f.items k
  pub cells : b'.cells ≡ b.cells
  pub workers : b'.workers ≡ b.workers
  pub journal : b'.journal ≡ b.journal
  pub ticks : b'.ticks ≡ b.ticks
  pub offered : b'.offered ≡ b.offered
  pub outcome : b'.outcome ≡ b.outcome

-- A choice that makes such an event is a step of the free machine: if the scheduler showed a state,
-- it shows the state after that step.
abbrev pub EventsAreSteps : CodeView → List ℤ → Scheduler → Scheduler → Choice → Told → Type 0
EventsAreSteps code inputs b b' c (told.Did act) =
    IsTouch act.event → (p : Source) (name : ℕ → Name) (d : WorkerTable) (s : State FrameEnv View) → IsShown code p inputs name b d s → (s' : State FrameEnv View) × Chooses p inputs s d c Did s' d × ShowsBy code p inputs name b' d s'
EventsAreSteps code inputs b b' c told.Stole = Unit {0}
EventsAreSteps code inputs b b' c told.Waits = Unit {0}
EventsAreSteps code inputs b b' c told.Skipped = Unit {0}
