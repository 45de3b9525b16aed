-- Steals, waits, syncs and a new scheduler, put together from the contracts of the functions.
use Rattle.std.specs.Prelude.{◌≡◌, ◌+◌, ◌-◌, ◌<◌, Bool, true, false, if◌then◌else◌, ℕ, suc, nat_eq, ℤ, pos, List, [], ◌∷◌, ◌++◌, length, replicate, remove, slice_get, Some, None}
use Rattle.cilk_types.specs.declared.event.Event.TheVariants as events
use Rattle.cilk_types.specs.declared.event.Instance.{Instance}
use Rattle.cilk_types.specs.declared.invocation.Invocation.TheVariants.{Call}
use Rattle.cilk_program.specs.declared.ask.Ask.TheVariants as asks
use Rattle.cilk_program.specs.declared.ask.Callee.TheVariants as callees
use Rattle.cilk_program.specs.SerialRun.{home_of}
use Rattle.cilk_program.specs.Syntax.{Source}
use Rattle.cilk_lower.specs.Code.{CodeView}
use Rattle.cilk_lower.specs.Layout.{LaysOut, cells_in}
use Rattle.cilk_lower.specs.declared.code.Owed.TheVariants.{Nothing}
use Rattle.cilk_frames.specs.Cursor.{CursorView}
use Rattle.cilk_frames.specs.Following.{Stands}
use Rattle.cilk_frames.specs.Sight.{HasScope}
use Rattle.cilk_frames.specs.declared.activation.Activation.{Activation}
use Rattle.cilk_hypermap.specs.Hypermap.{EachKind, view_in}
use Rattle.cilk_hypermap.specs.declared.hypermap.Hypermap.{Hypermap}
use Rattle.cilk_join.specs.Joins.{IsOpen, MayArrive, has_awaited}
use Rattle.cilk_join.specs.Products.{product}
use Rattle.cilk_join.specs.Waits.{shown}
use Rattle.cilk_determinacy.specs.Machine.{State, deeds_at}
use Rattle.cilk_determinacy.specs.Runs.{Name}
use Rattle.cilk_determinacy.specs.Reducers.{View}
use Rattle.cilk_determinacy.specs.FrameEnvs.{FrameEnv}
use Rattle.cilk_scheduler.specs.declared.scheduler.Scheduler.{Scheduler}
use Rattle.cilk_scheduler.specs.declared.frame_state.FrameState.{FrameState}
use Rattle.cilk_scheduler.specs.declared.frame_state.Status.TheVariants.{Held}
use Rattle.cilk_scheduler.specs.declared.frame_state.Worker.{Worker}
use Rattle.cilk_scheduler.specs.Acting.{IsShown}
use Rattle.cilk_scheduler.specs.Asking.{WentOn}
use Rattle.cilk_scheduler.specs.Schedulers.{ShowsBy, is_resuming}
use Rattle.cilk_scheduler.specs.WorkerTables.{WorkerTable}
use Rattle.cilk_scheduler.specs.Events.{Arrives, AwaitsLast, block_in}
use Rattle.cilk_scheduler.specs.Noting.{HasFrame}
use Rattle.cilk_scheduler.specs.Openings.{IsNew}
use Rattle.cilk_scheduler.specs.FrameStates.{changed, counted, moved_to, robbed, seated, synced, waiting}
use Rattle.cilk_scheduler.specs.Steps.{HasCome, Notes}
use Rattle.cilk_scheduler.specs.Syncing.{PassesWith}
use Rattle.cilk_scheduler.specs.Thieves.{IsOffered, TakesOver}
use Rattle.cilk_scheduler.specs.Waiting.{StaysBehind}
use Rattle.cilk_scheduler.specs.Workers.{IsLocated, altered, is_idle, viewing}

-- the worker holds frame k
abbrev pub working : ℕ → Worker → Worker
working k u = record u { frame = Some k }

-- the worker is idle
abbrev pub freed : Worker → Worker
freed u = record u { frame = None }

-- the frame's sync has to wait for a stolen child, and its own piece hasn't arrived
abbrev pub must_wait : FrameState → Bool
must_wait x = if x.merged then false else has_awaited (block_in x.join)

-- The frame's state and its worker's views once its own piece is at its block. The block had passed
-- already, no continuation of it was stolen, or the piece has arrived.
pub data BringsOwn (x : FrameState) (old : Hypermap) (x' : FrameState) (new : Hypermap) : Type 0 where
  Passed : x.merged ≡ true → x' ≡ x → new ≡ old → BringsOwn x old x' new
  Alone : x.merged ≡ false → x.join ≡ None → x' ≡ x → new ≡ old → BringsOwn x old x' new
  Brought : x.merged ≡ false → (l l' : _) (passes : Bool) → x.join ≡ Some l → x' ≡ record x { join = Some l' } → Arrives (shown l.value) (x.children + 1) true (product old) passes (shown l'.value) new → BringsOwn x old x' new

-- worker v of a new scheduler: the first holds the first frame, none has a view or an offer
abbrev pub OpensAs : ℕ → Worker → Type 0
OpensAs v u = (u.frame ≡ (if nat_eq v 0 then Some 0 else None)) × (let o = u.offered in o.items ≡ []) × (let h = u.views in EachKind (λ q. (j : Instance) → view_in h q j ≡ None))

-- An idle worker steals the continuation that is offered: the child's piece is awaited, the child
-- is marked, the continuation is withdrawn, and the worker holds the frame without views.
abbrev pub ContinuationsAreTaken : Type 0
ContinuationsAreTaken =
    (b b' : Scheduler) (w place k : ℕ) (h : IsOffered b w place k) (awaiting : FrameState) (without : Worker) (views : Hypermap) (awaited marked : List (Activation FrameState)) (withdrawn cleared : List Worker)
    → (let a = h.frame_state in AwaitsLast a.cursor awaiting) → (let f = b.frames in awaited ≡ changed (λ _. awaiting) f.items k) → marked ≡ changed robbed awaited awaiting.last
    → (let u = h.owner in without ≡ record u { offered = without.offered }) → (let u = h.owner in let o = u.offered in let l = without.offered in l.items ≡ remove o.items h.at) → (let l = b.workers in withdrawn ≡ altered (λ _. without) l.items h.victim)
    → EachKind (λ q. (j : Instance) → view_in views q j ≡ None) → cleared ≡ viewing views withdrawn w → (let l = b'.workers in l.items ≡ altered (working k) cleared w) → (let f = b'.frames in f.items ≡ changed (moved_to (Held w)) marked k)
    → b'.offered ≡ b.offered - 1 → (let c = b.cells in let d = b'.cells in d.items ≡ c.items) → (let e = b.journal in let l = b'.journal in l.items ≡ e.items) → b'.ticks ≡ b.ticks → b'.outcome ≡ b.outcome
    → TakesOver b b' w place k h

module _ (code : CodeView) (p : Source) (inputs : List ℤ) where
  -- A continuation that is located is offered. The piece of its frame's newest child may be
  -- awaited, and that child exists.
  abbrev pub ContinuationsAreOffered : Type 0
  ContinuationsAreOffered =
      (name : ℕ → Name) (b : Scheduler) (d : WorkerTable) (s : State FrameEnv View) (w place victim at : ℕ) → ShowsBy code p inputs name b d s → b.outcome ≡ None → (let l = b.workers in is_idle l.items (suc w) ≡ true) → (g : (let l = b.workers in IsLocated l.items place victim at))
      → (h : IsOffered b w place g.1) × (h.owner ≡ g.0) × (h.victim ≡ victim) × (h.at ≡ at) × (let a = h.frame_state in let x = a.cursor in let f = b.frames in IsOpen (block_in x.join) x.children × (x.last < length f.items))

  -- A worker's frame at a sync started no child with its last event. Its own piece may arrive at
  -- its block, if that hasn't passed.
  abbrev pub OwnPiecesMayArrive : Type 0
  OwnPiecesMayArrive =
      (name : ℕ → Name) (b : Scheduler) (d : WorkerTable) (s : State FrameEnv View) (w k : ℕ) (came : FrameState) → IsShown code p inputs name b d s → (f : HasFrame b w k) → (let a = f.frame_state in WentOn code inputs a.cursor asks.Sync came)
      → (is_resuming (deeds_at (s.frames (name k))) ≡ false) × (came.merged ≡ false → MayArrive (block_in came.join) (came.children + 1) true)

  -- It waits if it must.
  abbrev pub FramesStayBehind : Type 0
  FramesStayBehind =
      (name : ℕ → Name) (b b' : Scheduler) (d : WorkerTable) (s : State FrameEnv View) (w k : ℕ) (came brought : FrameState) (views : Hypermap) (went arrived : List (Activation FrameState)) (viewed : List Worker) → ShowsBy code p inputs name b d s → (f : HasFrame b w k) → b.outcome ≡ None
      → (let a = f.frame_state in WentOn code inputs a.cursor asks.Sync came) → (let l = b.frames in went ≡ changed (λ _. came) l.items k) → must_wait came ≡ true → (let u = f.worker in BringsOwn came u.views brought views)
      → arrived ≡ changed (λ _. brought) went k → (let l = b'.frames in l.items ≡ changed waiting arrived k) → (let l = b.workers in viewed ≡ viewing views l.items w) → (let l = b'.workers in l.items ≡ altered freed viewed w)
      → b'.offered ≡ b.offered → (let c = b.cells in let d = b'.cells in d.items ≡ c.items) → (let e = b.journal in let l = b'.journal in l.items ≡ e.items) → b'.ticks ≡ b.ticks → b'.outcome ≡ b.outcome
      → StaysBehind code p inputs b b' w k

  -- Else its block passes, and it makes its sync.
  abbrev pub FramesPass : Type 0
  FramesPass =
      (name : ℕ → Name) (b b' : Scheduler) (d : WorkerTable) (s : State FrameEnv View) (w k : ℕ) (brought : FrameState) (views : Hypermap) (went arrived acted : List (Activation FrameState)) → ShowsBy code p inputs name b d s → (h : HasCome code p inputs b w k asks.Sync)
      → (let l = b.frames in went ≡ changed (λ _. h.came) l.items k) → must_wait h.came ≡ false → (let u = h.worker in BringsOwn h.came u.views brought views)
      → arrived ≡ changed (λ _. brought) went k → acted ≡ changed synced arrived k → (let l = b'.frames in l.items ≡ changed counted acted k) → ((a : Activation FrameState) → slice_get acted k ≡ Some a → b'.ticks ≡ b.ticks + (let x = a.cursor in x.took - x.counted))
      → (let e = b.journal in let l = b'.journal in l.items ≡ e.items ++ (record { frame = k; event = events.Sync }) ∷ []) → (let c = b.cells in let d = b'.cells in d.items ≡ c.items) → (let l = b.workers in let m = b'.workers in m.items ≡ viewing views l.items w)
      → b'.offered ≡ b.offered → b'.outcome ≡ b.outcome
      → (let a = h.frame_state in let u = h.worker in PassesWith a.cursor u.views views) × (let c = b.cells in Notes code p inputs b b' w k h.came (synced h.came) events.Sync c.items views)

  -- A scheduler is new if it was made of the first frame's cursor and activation, the global cells
  -- and that frame's cells, which hold 0, and workers. Only the first worker holds the frame.
  abbrev pub SchedulersAreNew : Type 0
  SchedulersAreNew =
      (b : Scheduler) (c : CursorView) (root : Activation FrameState) (count : ℕ) → LaysOut p code.layout → Stands code inputs p callees.Root c [] 0 → c.owed ≡ Nothing
      → ((q : Source) (frames : List (Activation FrameState)) → (let l = code.layout in length l.openings ≡ length q.openings) → (let l = code.layout in length l.reducers ≡ length q.reducers) → (let l = code.layout in HasScope frames root (home_of q callees.Root 1 (length l.openings) [] ∷ [])))
      → root.cursor ≡ seated 0 0 Call 0 c → root.number ≡ 1 → (let l = code.layout in root.base ≡ length l.openings) → root.result ≡ None → (let l = code.layout in root.creator ≡ Some l.main) → (let f = b.frames in f.items ≡ root ∷ [])
      → (let l = code.layout in let d = b.cells in d.items ≡ l.openings ++ replicate (cells_in l callees.Root) (pos 0))
      → (let l = b.workers in length l.items ≡ suc count) → ((v : ℕ) (u : Worker) → (let l = b.workers in slice_get l.items v ≡ Some u) → OpensAs v u)
      → b.offered ≡ 0 → (let e = b.journal in e.items ≡ []) → b.ticks ≡ 0 → b.outcome ≡ None
      → (h : IsNew code p inputs b) × (let l = h.others in length l ≡ count)
