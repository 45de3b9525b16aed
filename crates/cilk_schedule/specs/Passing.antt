-- Steals, waits at a sync, and syncs: what they change by numbers, and that these choices are steps
-- of the free machine.
use Rattle.std.specs.Prelude.{◌≡◌, ◌+◌, ℕ, Bool, true, false, ℤ, List, remove, slice_get, Some, None}
use Rattle.cilk_types.specs.declared.event.Event.TheVariants as events
use Rattle.cilk_types.specs.declared.event.Instance.{Instance}
use Rattle.cilk_program.specs.declared.ask.Ask.TheVariants as asks
use Rattle.cilk_program.specs.Syntax.{Source}
use Rattle.cilk_lower.specs.Code.{CodeView}
use Rattle.cilk_frames.specs.declared.activation.Activation.{Activation}
use Rattle.cilk_hypermap.specs.Hypermap.{EachKind, view_in}
use Rattle.cilk_hypermap.specs.declared.hypermap.Hypermap.{Hypermap}
use Rattle.cilk_join.specs.Joins.{MayArrive}
use Rattle.cilk_join.specs.Products.{product}
use Rattle.cilk_join.specs.Waits.{shown}
use Rattle.cilk_determinacy.specs.Machine.{State}
use Rattle.cilk_determinacy.specs.Runs.{Name}
use Rattle.cilk_determinacy.specs.Reducers.{View}
use Rattle.cilk_determinacy.specs.FrameEnvs.{FrameEnv}
use Rattle.cilk_scheduler.specs.Acting.{IsShown}
use Rattle.cilk_scheduler.specs.Schedulers.{ShowsBy}
use Rattle.cilk_scheduler.specs.WorkerTables.{WorkerTable, Chooses, Did, Skipped, Stole, Waited}
use Rattle.cilk_scheduler.specs.Events.{Arrives, AwaitsLast, block_in}
use Rattle.cilk_scheduler.specs.GoneOn.{HaveGoneOn}
use Rattle.cilk_scheduler.specs.Invocations.{IsNoted}
use Rattle.cilk_scheduler.specs.Parts.{BringsOwn, freed}
use Rattle.cilk_scheduler.specs.FrameStates.{changed, robbed, synced, waiting}
use Rattle.cilk_scheduler.specs.Workers.{altered, viewing}
use Rattle.cilk_scheduler.specs.declared.scheduler.Scheduler.{Scheduler}
use Rattle.cilk_scheduler.specs.declared.choice.Choice.{Choice}
use Rattle.cilk_scheduler.specs.declared.choice.Told.{Told}
use Rattle.cilk_scheduler.specs.declared.choice.Told.TheVariants as told
use Rattle.cilk_scheduler.specs.declared.frame_state.FrameState.{FrameState}
use Rattle.cilk_scheduler.specs.declared.frame_state.Worker.{Worker}

-- The last child of the frame at place k is marked as stolen, and its piece is awaited at the
-- frame's block.
pub record Robs (frames frames' : List (Activation FrameState)) (k : ℕ) : Type 0 where
  pub frame_state : Activation FrameState
  pub awaiting : FrameState
  pub sits : slice_get frames k ≡ Some frame_state
  pub awaits : let x = frame_state.cursor in AwaitsLast x awaiting
  pub frames_are : frames' ≡ changed robbed (changed (λ _. awaiting) frames k) awaiting.last

-- Worker `victim` no longer offers the continuation at place `at` of its list.
pub record OffersLess (workers workers' : List Worker) (victim at : ℕ) : Type 0 where
  pub owner : Worker
  pub without : Worker
  pub owns : slice_get workers victim ≡ Some owner
  pub same : without ≡ record owner { offered = without.offered }
  pub items : let o = owner.offered in let l = without.offered in l.items ≡ remove o.items at
  pub workers_are : workers' ≡ altered (λ _. without) workers victim

-- the worker at this place has no view
abbrev pub HasNoView : List Worker → List Worker → ℕ → Type 0
HasNoView workers workers' w = (views : Hypermap) × EachKind (λ q. (j : Instance) → view_in views q j ≡ None) × (workers' ≡ viewing views workers w)

-- If the block of a frame hasn't passed, the frame's own piece may arrive there.
abbrev pub MayBringOwn : FrameState → Type 0
MayBringOwn x = x.merged ≡ false → MayArrive (block_in x.join) (x.children + 1) true

-- The frame's state and the views after the views were brought to its block under this key, and
-- whether the block passes. Either no continuation of the frame was stolen, or the views arrive.
pub data ComesTo (x : FrameState) (key : ℕ) (last : Bool) (old : Hypermap) (passes : Bool) (x' : FrameState) (new : Hypermap) : Type 0 where
  Unstolen : x.join ≡ None → x' ≡ x → new ≡ old → passes ≡ false → ComesTo x key last old passes x' new
  Arrived : (l l' : _) → x.join ≡ Some l → x' ≡ record x { join = Some l' }
      → Arrives (shown l.value) key last (product old) passes (shown l'.value) new → ComesTo x key last old passes x' new

-- The views of worker w are brought so to the block of the frame at place k.
pub record PieceComes (frames frames' : List (Activation FrameState)) (workers workers' : List Worker) (w k key : ℕ) (last passes : Bool) : Type 0 where
  pub frame_state : Activation FrameState
  pub worker : Worker
  pub brought : FrameState
  pub views : Hypermap
  pub sits : slice_get frames k ≡ Some frame_state
  pub at : slice_get workers w ≡ Some worker
  pub comes : let x = frame_state.cursor in ComesTo x key last worker.views passes brought views
  pub frames_are : frames' ≡ changed (λ _. brought) frames k
  pub workers_are : workers' ≡ viewing views workers w

-- The own piece of the frame at place k, which worker w holds, is brought to the frame's block.
pub record OwnComes (frames frames' : List (Activation FrameState)) (workers workers' : List Worker) (w k : ℕ) : Type 0 where
  pub frame_state : Activation FrameState
  pub worker : Worker
  pub brought : FrameState
  pub views : Hypermap
  pub sits : slice_get frames k ≡ Some frame_state
  pub at : slice_get workers w ≡ Some worker
  pub brings : let x = frame_state.cursor in BringsOwn x worker.views brought views
  pub frames_are : frames' ≡ changed (λ _. brought) frames k
  pub workers_are : workers' ≡ viewing views workers w

-- The frame waits at its sync, and the worker is idle.
pub record StaysAt (b b' : Scheduler) (w k : ℕ) : Type 0 where
  pub arrived : List (Activation FrameState)
  pub viewed : List Worker
  pub comes : let f = b.frames in let l = b.workers in OwnComes f.items arrived l.items viewed w k
  pub frames : let f = b'.frames in f.items ≡ changed waiting arrived k
  pub workers : let l = b'.workers in l.items ≡ altered freed viewed w
  pub offered : b'.offered ≡ b.offered
  pub cells : b'.cells ≡ b.cells
  pub journal : b'.journal ≡ b.journal
  pub ticks : b'.ticks ≡ b.ticks
  pub outcome : b'.outcome ≡ b.outcome

-- The frame continues after its sync, with a new block. The event isn't in the journal yet.
pub record GoesBehind (b b' : Scheduler) (w k : ℕ) : Type 0 where
  pub arrived : List (Activation FrameState)
  pub comes : let f = b.frames in let l = b.workers in let m = b'.workers in OwnComes f.items arrived l.items m.items w k
  pub frames : let f = b'.frames in f.items ≡ changed synced arrived k
  pub cells : b'.cells ≡ b.cells
  pub offered : b'.offered ≡ b.offered
  pub outcome : b'.outcome ≡ b.outcome

-- P holds if the own piece of the frame at place k may arrive at its block; or if, also, the block
-- hasn't passed
abbrev pub WhereOwnMayCome : List (Activation FrameState) → ℕ → Type 0 → Type 0
WhereOwnMayCome frames k P = (a : Activation FrameState) → slice_get frames k ≡ Some a → MayBringOwn a.cursor → P

abbrev pub WhereOwnIsDue : List (Activation FrameState) → ℕ → Type 0 → Type 0
WhereOwnIsDue frames k P = (a : Activation FrameState) → slice_get frames k ≡ Some a → (let x = a.cursor in x.merged ≡ false) → MayBringOwn a.cursor → P

-- The frame's sync is made, with the event in the journal and its ticks counted.
pub record WroteSync (b b' : Scheduler) (w k : ℕ) : Type 0 where
  pub made : Scheduler
  pub asked : b.asked ≡ asks.Sync
  pub behind : let f = b.frames in WhereOwnMayCome f.items k (GoesBehind b made w k)
  pub journal : let e = b.journal in let l = made.journal in l.items ≡ e.items
  pub ticks : made.ticks ≡ b.ticks
  pub noted : IsNoted made b' k events.Sync

-- A steal is a step of the free machine: if the scheduler showed a state, it shows the state after
-- that step.
abbrev pub StealsAreSteps : CodeView → List ℤ → Scheduler → Scheduler → Choice → Told → Type 0
StealsAreSteps code inputs b b' c (told.Did act) = Unit {0}
StealsAreSteps code inputs b b' c told.Stole =
    (p : Source) (name : ℕ → Name) (d : WorkerTable) (s : State FrameEnv View) → IsShown code p inputs name b d s
    → (s' : State FrameEnv View) × (d' : WorkerTable) × Chooses p inputs s d c Stole s' d' × ShowsBy code p inputs name b' d' s'
StealsAreSteps code inputs b b' c told.Waits = Unit {0}
StealsAreSteps code inputs b b' c told.Skipped = Unit {0}

-- A choice by which a frame waits at its sync makes no step: if the scheduler showed a state, it
-- still shows that state, with the worker idle.
abbrev pub WaitsAreSteps : CodeView → List ℤ → Scheduler → Scheduler → Choice → Told → Type 0
WaitsAreSteps code inputs b b' c (told.Did act) = Unit {0}
WaitsAreSteps code inputs b b' c told.Stole = Unit {0}
WaitsAreSteps code inputs b b' c told.Waits =
    (p : Source) (name : ℕ → Name) (d : WorkerTable) (s : State FrameEnv View) → IsShown code p inputs name b d s
    → (d' : WorkerTable) × Chooses p inputs s d c Waited s d' × ShowsBy code p inputs name b' d' s
WaitsAreSteps code inputs b b' c told.Skipped = Unit {0}

-- A sync is a step of the free machine, in each reachable state that the scheduler shows.
abbrev pub SyncsAreSteps : CodeView → List ℤ → Scheduler → Scheduler → Choice → Told → Type 0
SyncsAreSteps code inputs b b' c (told.Did act) =
    act.event ≡ events.Sync → (p : Source) (name : ℕ → Name) (d : WorkerTable) (s : State FrameEnv View) → IsShown code p inputs name b d s → HaveGoneOn s
    → (s' : State FrameEnv View) × Chooses p inputs s d c Did s' d × ShowsBy code p inputs name b' d s'
SyncsAreSteps code inputs b b' c told.Stole = Unit {0}
SyncsAreSteps code inputs b b' c told.Waits = Unit {0}
SyncsAreSteps code inputs b b' c told.Skipped = Unit {0}

-- A choice that is skipped can't be made, and changes nothing.
abbrev pub SkipsAreSteps : CodeView → List ℤ → Scheduler → Scheduler → Choice → Told → Type 0
SkipsAreSteps code inputs b b' c (told.Did act) = Unit {0}
SkipsAreSteps code inputs b b' c told.Stole = Unit {0}
SkipsAreSteps code inputs b b' c told.Waits = Unit {0}
SkipsAreSteps code inputs b b' c told.Skipped =
    (p : Source) (name : ℕ → Name) (d : WorkerTable) (s : State FrameEnv View) → IsShown code p inputs name b d s
    → Chooses p inputs s d c Skipped s d × ShowsBy code p inputs name b' d s
