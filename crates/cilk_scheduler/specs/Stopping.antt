-- Choices that stop the run or are skipped: the scheduler before and after, by numbers.
use Rattle.std.specs.Prelude.{◌≡◌, ◌+◌, ◌-◌, ◌≤◌, ℕ, suc, nat_eq, false, cond, ℤ, List, length, slice_get, Option, Some, None}
use Rattle.cilk_types.specs.declared.fault.Fault.{Fault}
use Rattle.cilk_types.specs.declared.outcome.Outcome.{Outcome}
use Rattle.cilk_program.specs.declared.ask.Ask.{Ask}
use Rattle.cilk_program.specs.declared.ask.Ask.TheVariants as asks
use Rattle.cilk_program.specs.Syntax.{Source}
use Rattle.cilk_lower.specs.Code.{CodeView}
use Rattle.cilk_lower.specs.Layout.{LaysOut}
use Rattle.cilk_frames.specs.Cursor.{CursorView}
use Rattle.cilk_frames.specs.declared.activation.Activation.{Activation}
use Rattle.cilk_determinacy.specs.Machine.{State, Stop}
use Rattle.cilk_determinacy.specs.Runs.{Name}
use Rattle.cilk_determinacy.specs.Reducers.{View}
use Rattle.cilk_determinacy.specs.FrameEnvs.{FrameEnv}
use Rattle.cilk_scheduler.specs.declared.scheduler.Scheduler.{Scheduler}
use Rattle.cilk_scheduler.specs.declared.choice.Choice.{Choice}
use Rattle.cilk_scheduler.specs.declared.choice.Choice.TheVariants.{Run, Steal}
use Rattle.cilk_scheduler.specs.declared.frame_state.FrameState.{FrameState}
use Rattle.cilk_scheduler.specs.declared.frame_state.Worker.{Worker}
use Rattle.cilk_scheduler.specs.Asking.{WentOn, refusal}
use Rattle.cilk_scheduler.specs.Schedulers.{ShowsBy, Tells}
use Rattle.cilk_scheduler.specs.WorkerTables.{BlockIsOver, Chooses, WorkerTable, Skipped, StopsAt}
use Rattle.cilk_scheduler.specs.GoneOn.{HaveGoneOn}
use Rattle.cilk_scheduler.specs.Noting.{HasFrame}
use Rattle.cilk_scheduler.specs.Parts.{must_wait}
use Rattle.cilk_scheduler.specs.FrameStates.{changed}
use Rattle.cilk_scheduler.specs.Workers.{held_by, is_idle, offers}

-- the latest strand of a frame that has begun n strands, and the first if it has begun none
abbrev pub latest : ℕ → ℕ
latest begun = cond (nat_eq begun 0) 1 begun

-- Both lists have the same frames, each at its index and with its parent. Their states may differ.
pub record StandAsBefore (old new : List (Activation FrameState)) : Type 0 where
  pub as_many : length new ≡ length old
  pub each : (j : ℕ) (a : Activation FrameState) → slice_get new j ≡ Some a → (z : Activation FrameState) × (slice_get old j ≡ Some z) × (a ≡ record z { cursor = a.cursor }) × (let x = a.cursor in let y = z.cursor in (x.parent ≡ y.parent) × (x.ordinal ≡ y.ordinal))

module _ (code : CodeView) (p : Source) (inputs : List ℤ) where
  -- Worker w holds frame k, which has reached this request, and this fault comes in place of its
  -- event.
  pub record IsRefused (b : Scheduler) (w k : ℕ) (ask : Ask) (fault : Fault) : Type 0 where
    pub worker : Worker
    pub frame_state : Activation FrameState
    pub came : FrameState
    pub at : let l = b.workers in slice_get l.items w ≡ Some worker
    pub has : worker.frame ≡ Some k
    pub sits : let f = b.frames in slice_get f.items k ≡ Some frame_state
    pub went : let x = frame_state.cursor in WentOn code inputs x ask came
    pub refused : let e = b.journal in let f = b.frames in let c = b.cells in refusal (b.ticks + (came.took - came.counted)) (length e.items) (length f.items) (length c.items) code.layout ask ≡ Some fault

  -- All that a scheduler shows stays as long as frames keep their indices and parents, no event is
  -- made and the run isn't over. So after a stop, or out of memory, it shows what it had shown.
  abbrev pub TellingsStay : Type 0
  TellingsStay =
      (name : ℕ → Name) (b b' : Scheduler) (s : State FrameEnv View) (stopped : Option Stop) → Tells code p inputs name b s → (let f = b.frames in let g = b'.frames in StandAsBefore f.items g.items) → (let e = b.journal in let l = b'.journal in l.items ≡ e.items) → b'.outcome ≡ b.outcome
      → Tells code p inputs name b' (record s { stopped = stopped })

  -- A fault in place of an event stops the free machine, at the frame's latest strand. The
  -- scheduler still shows what it had shown.
  abbrev pub StopsAreShown : Type 0
  StopsAreShown =
      (name : ℕ → Name) (b b' : Scheduler) (d : WorkerTable) (s : State FrameEnv View) (w k : ℕ) (ask : Ask) (fault : Fault) → LaysOut p code.layout → ShowsBy code p inputs name b d s → (h : IsRefused b w k ask fault) → (ask ≡ asks.Sync → BlockIsOver s (name k))
      → (let f = b.frames in let g = b'.frames in g.items ≡ changed (λ _. h.came) f.items k) → (let e = b.journal in let l = b'.journal in l.items ≡ e.items) → b'.outcome ≡ b.outcome
      → (s' : State FrameEnv View) × StopsAt p inputs s d (Run (suc w)) s' × (let a = h.frame_state in let x = a.cursor in s'.stopped ≡ Some (record { frame = name k; strand = latest x.strands; fault = fault })) × Tells code p inputs name b' s'

  -- The block of a frame at its sync is over, if the sync need not wait.
  abbrev pub BlocksAreOver : Type 0
  BlocksAreOver =
      (name : ℕ → Name) (b : Scheduler) (d : WorkerTable) (s : State FrameEnv View) (w k : ℕ) (came : FrameState) → ShowsBy code p inputs name b d s → HaveGoneOn s → (f : HasFrame b w k) → (let a = f.frame_state in WentOn code inputs a.cursor asks.Sync came) → must_wait came ≡ false
      → BlockIsOver s (name k)

  -- A choice is skipped if its worker holds no frame, is to steal and isn't idle, no continuation
  -- is offered at that index, or the run is over. A frame that a worker holds is in the list, with
  -- its cursor.
  pub record SkipsAreShown : Type 0 where
    pub nobody : (name : ℕ → Name) (b : Scheduler) (d : WorkerTable) (s : State FrameEnv View) (w : ℕ) → ShowsBy code p inputs name b d s → (let l = b.workers in held_by l.items w ≡ None) → Chooses p inputs s d (Run w) Skipped s d
    pub busy : (name : ℕ → Name) (b : Scheduler) (d : WorkerTable) (s : State FrameEnv View) (w place : ℕ) → ShowsBy code p inputs name b d s → (let l = b.workers in is_idle l.items w ≡ false) → Chooses p inputs s d (Steal w place) Skipped s d
    pub unoffered : (name : ℕ → Name) (b : Scheduler) (d : WorkerTable) (s : State FrameEnv View) (w place : ℕ) → ShowsBy code p inputs name b d s → (let l = b.workers in slice_get (offers l.items) place ≡ None) → Chooses p inputs s d (Steal w place) Skipped s d
    pub past : (name : ℕ → Name) (b : Scheduler) (d : WorkerTable) (s : State FrameEnv View) (place : ℕ) → ShowsBy code p inputs name b d s → b.offered ≤ place → (let l = b.workers in slice_get (offers l.items) place ≡ None)
    pub over : (name : ℕ → Name) (b : Scheduler) (d : WorkerTable) (s : State FrameEnv View) (c : Choice) (o : Outcome) → ShowsBy code p inputs name b d s → b.outcome ≡ Some o → Chooses p inputs s d c Skipped s d
    pub held : (name : ℕ → Name) (b : Scheduler) (d : WorkerTable) (s : State FrameEnv View) (w k : ℕ) → ShowsBy code p inputs name b d s → (let l = b.workers in held_by l.items (suc w) ≡ Some k) → (f : HasFrame b w k) × (c : CursorView) × (let a = f.frame_state in let x = a.cursor in x.cursor ≡ Some c)
