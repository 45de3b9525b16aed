-- A worker's frame waits at its sync: the scheduler before and after, by numbers.
use Rattle.std.specs.Prelude.{◌≡◌, ◌+◌, ℕ, suc, true, false, ℤ, List, slice_get, Some, None}
use Rattle.cilk_program.specs.declared.ask.Ask.TheVariants as asks
use Rattle.cilk_program.specs.Syntax.{Source}
use Rattle.cilk_lower.specs.Code.{CodeView}
use Rattle.cilk_frames.specs.declared.activation.Activation.{Activation}
use Rattle.cilk_hypermap.specs.declared.hypermap.Hypermap.{Hypermap}
use Rattle.cilk_join.specs.Products.{product}
use Rattle.cilk_determinacy.specs.Machine.{State, deeds_at}
use Rattle.cilk_determinacy.specs.Runs.{Name}
use Rattle.cilk_determinacy.specs.Reducers.{View}
use Rattle.cilk_determinacy.specs.FrameEnvs.{FrameEnv}
use Rattle.cilk_scheduler.specs.declared.scheduler.Scheduler.{Scheduler}
use Rattle.cilk_scheduler.specs.declared.choice.Choice.TheVariants.{Run}
use Rattle.cilk_scheduler.specs.declared.frame_state.FrameState.{FrameState}
use Rattle.cilk_scheduler.specs.declared.frame_state.Worker.{Worker}
use Rattle.cilk_scheduler.specs.Asking.{WentOn}
use Rattle.cilk_scheduler.specs.Schedulers.{ShowsBy, is_resuming}
use Rattle.cilk_scheduler.specs.WorkerTables.{WorkerTable, Waited, Chooses}
use Rattle.cilk_scheduler.specs.Events.{Arrives, block_in}
use Rattle.cilk_scheduler.specs.FrameStates.{changed, waiting}
use Rattle.cilk_scheduler.specs.Workers.{altered}

-- a worker is idle, with these views
abbrev pub idling : Hypermap → Worker → Worker
idling views u = record u { frame = None; views = views }

module _ (code : CodeView) (p : Source) (inputs : List ℤ) where
  -- Worker w holds frame k, which has reached a sync. Its views arrive at the block as its own
  -- piece, and the block doesn't pass. The frame waits, and the worker is idle.
  pub record StaysBehind (b b' : Scheduler) (w k : ℕ) : Type 0 where
    pub worker : Worker
    pub frame_state : Activation FrameState
    pub came : FrameState
    pub after : FrameState
    pub views : Hypermap
    pub at : let l = b.workers in slice_get l.items w ≡ Some worker
    pub has : worker.frame ≡ Some k
    pub sits : let f = b.frames in slice_get f.items k ≡ Some frame_state
    pub was_open : b.outcome ≡ None
    pub went : let x = frame_state.cursor in WentOn code inputs x asks.Sync came
    pub unmerged : let x = frame_state.cursor in x.merged ≡ false
    pub arrives : Arrives (block_in came.join) (came.children + 1) true (product worker.views) false (block_in after.join) views
    pub after_is : after ≡ (let y = waiting came in record y { join = after.join })
    pub frames : let f = b.frames in let g = b'.frames in g.items ≡ changed (λ _. after) f.items k
    pub workers : let l = b.workers in let m = b'.workers in m.items ≡ altered (idling views) l.items w
    pub offered : b'.offered ≡ b.offered
    pub cells : let c = b.cells in let d = b'.cells in d.items ≡ c.items
    pub journal : let e = b.journal in let l = b'.journal in l.items ≡ e.items
    pub ticks : b'.ticks ≡ b.ticks
    pub outcome : b'.outcome ≡ b.outcome

  -- A wait makes no event: the scheduler shows the same state, in which the worker is idle and the
  -- frame waits. The frame's last event started no child.
  abbrev pub WaitsAreShown : Type 0
  WaitsAreShown =
      (name : ℕ → Name) (b b' : Scheduler) (d : WorkerTable) (s : State FrameEnv View) (w k : ℕ) → ShowsBy code p inputs name b d s → is_resuming (deeds_at (s.frames (name k))) ≡ false → StaysBehind b b' w k
      → (d' : WorkerTable) × Chooses p inputs s d (Run (suc w)) Waited s d' × ShowsBy code p inputs name b' d' s
