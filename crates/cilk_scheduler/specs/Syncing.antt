-- The sync of a worker's frame: the scheduler before and after, by numbers.
use Rattle.std.specs.Prelude.{◌≡◌, ◌+◌, ℕ, true, false, ℤ, List, None}
use Rattle.cilk_types.specs.declared.event.Event.TheVariants as events
use Rattle.cilk_program.specs.declared.ask.Ask.TheVariants as asks
use Rattle.cilk_program.specs.Syntax.{Source}
use Rattle.cilk_lower.specs.Code.{CodeView}
use Rattle.cilk_lower.specs.Layout.{LaysOut}
use Rattle.cilk_hypermap.specs.declared.hypermap.Hypermap.{Hypermap}
use Rattle.cilk_join.specs.Joins.{JoinView}
use Rattle.cilk_join.specs.Products.{product}
use Rattle.cilk_determinacy.specs.Machine.{State}
use Rattle.cilk_determinacy.specs.Runs.{Name}
use Rattle.cilk_determinacy.specs.Reducers.{View}
use Rattle.cilk_determinacy.specs.FrameEnvs.{FrameEnv}
use Rattle.cilk_scheduler.specs.declared.scheduler.Scheduler.{Scheduler}
use Rattle.cilk_scheduler.specs.declared.frame_state.FrameState.{FrameState}
use Rattle.cilk_scheduler.specs.Schedulers.{ShowsBy}
use Rattle.cilk_scheduler.specs.WorkerTables.{WorkerTable}
use Rattle.cilk_scheduler.specs.Events.{Arrives, block_in}
use Rattle.cilk_scheduler.specs.GoneOn.{HaveGoneOn}
use Rattle.cilk_scheduler.specs.Histories.{DidAsAsked}
use Rattle.cilk_scheduler.specs.FrameStates.{synced}
use Rattle.cilk_scheduler.specs.Steps.{HasCome, IsDone, Notes}

-- The views of a frame's worker before and after its sync. The block had passed already, no
-- continuation of it was stolen, or all its pieces have arrived once the frame's own does.
pub data PassesWith (x : FrameState) (old new : Hypermap) : Type 0 where
  HadPassed : x.merged ≡ true → new ≡ old → PassesWith x old new
  NothingStolen : x.merged ≡ false → x.join ≡ None → new ≡ old → PassesWith x old new
  AllArrived : x.merged ≡ false → (after : JoinView) → Arrives (block_in x.join) (x.children + 1) true (product old) true after new → PassesWith x old new

module _ (code : CodeView) (p : Source) (inputs : List ℤ) where
  -- A sync whose block passes is a step of the free machine.
  abbrev pub SyncsAreShown : Type 0
  SyncsAreShown =
      (name : ℕ → Name) (b b' : Scheduler) (d : WorkerTable) (s : State FrameEnv View) (w k : ℕ) → LaysOut p code.layout → ShowsBy code p inputs name b d s → DidAsAsked p inputs s → HaveGoneOn s → (h : HasCome code p inputs b w k asks.Sync)
      → (views : Hypermap) → (let a = h.frame_state in let u = h.worker in PassesWith a.cursor u.views views)
      → (let c = b.cells in Notes code p inputs b b' w k h.came (synced h.came) events.Sync c.items views) → IsDone code p inputs name b' d s w
