-- The end of a frame, put together from the contracts of the functions.
use Rattle.std.specs.Prelude.{◌≡◌, ◌+◌, ◌-◌, ℕ, suc, Bool, true, false, cond, ℤ, List, [], ◌∷◌, ◌++◌, slice_get, Some}
use Rattle.cilk_types.specs.declared.event.Event.TheVariants as events
use Rattle.cilk_program.specs.declared.ask.Ask.TheVariants as asks
use Rattle.cilk_program.specs.Syntax.{Source}
use Rattle.cilk_lower.specs.Code.{CodeView}
use Rattle.cilk_frames.specs.declared.activation.Activation.{Activation}
use Rattle.cilk_hypermap.specs.declared.hypermap.Hypermap.{Hypermap}
use Rattle.cilk_join.specs.Joins.{MayArrive}
use Rattle.cilk_join.specs.Products.{product}
use Rattle.cilk_join.specs.Waits.{shown}
use Rattle.cilk_determinacy.specs.Machine.{State}
use Rattle.cilk_determinacy.specs.Runs.{Name}
use Rattle.cilk_determinacy.specs.Reducers.{View}
use Rattle.cilk_determinacy.specs.FrameEnvs.{FrameEnv}
use Rattle.cilk_scheduler.specs.declared.scheduler.Scheduler.{Scheduler}
use Rattle.cilk_scheduler.specs.declared.frame_state.FrameState.{FrameState}
use Rattle.cilk_scheduler.specs.declared.frame_state.Status.{Status}
use Rattle.cilk_scheduler.specs.declared.frame_state.Status.TheVariants.{Held, Offered}
use Rattle.cilk_scheduler.specs.declared.frame_state.Worker.{Worker}
use Rattle.cilk_scheduler.specs.Acting.{IsShown}
use Rattle.cilk_scheduler.specs.Schedulers.{ShowsBy}
use Rattle.cilk_scheduler.specs.WorkerTables.{WorkerTable}
use Rattle.cilk_scheduler.specs.Ending.{EndsRun, GoesBack, HandsIn, RetiresOwn}
use Rattle.cilk_scheduler.specs.Events.{Arrives}
use Rattle.cilk_frames.specs.Leaving.{outcome_of}
use Rattle.cilk_scheduler.specs.Parents.{OutliveChildren}
use Rattle.cilk_scheduler.specs.Parts.{freed, working}
use Rattle.cilk_scheduler.specs.FrameStates.{changed, counted, finished, moved_to, passed}
use Rattle.cilk_scheduler.specs.Steps.{HasCome}
use Rattle.cilk_scheduler.specs.Workers.{altered, viewing}
use Rattle.cilk_scheduler.specs.OfferLists.{Withdraws}

-- Frame k of these is marked as ended, its ticks are counted, and its end is recorded.
pub record IsFinished (b b' : Scheduler) (k : ℕ) (frames : List (Activation FrameState)) : Type 0 where
  pub acted : List (Activation FrameState)
  pub finishes : acted ≡ changed finished frames k
  pub counts : let l = b'.frames in l.items ≡ changed counted acted k
  pub ticks : (a : Activation FrameState) → slice_get acted k ≡ Some a → b'.ticks ≡ b.ticks + (let x = a.cursor in x.took - x.counted)
  pub journal : let e = b.journal in let l = b'.journal in l.items ≡ e.items ++ (record { frame = k; event = events.End }) ∷ []
  pub cells : let c = b.cells in let d = b'.cells in d.items ≡ c.items

-- The continuation of frame k is withdrawn from the worker that offers it, if one does.
pub data Seeks (k : ℕ) (status : Status) (workers after : List Worker) (before offered : ℕ) : Type 0 where
  NotOffered : ((v : ℕ) → status ≡ Offered v → ⊥) → after ≡ workers → offered ≡ before → Seeks k status workers after before offered
  OfferedBy : (v : ℕ) (owner without : Worker) (found : Bool) → status ≡ Offered v → slice_get workers v ≡ Some owner → without ≡ record owner { offered = without.offered } → (let o = owner.offered in let l = without.offered in Withdraws o.items k found l.items)
      → after ≡ altered (λ _. without) workers v → offered ≡ cond found (before - 1) before → Seeks k status workers after before offered

-- A piece with this key arrives at the block of a frame, whose state is x before and x' after.
pub data Brings (x : FrameState) (key : ℕ) (piece : Hypermap) (passes : Bool) (x' : FrameState) (left : Hypermap) : Type 0 where
  ToJoin : (l l' : _) → x.join ≡ Some l → x' ≡ record x { join = Some l' } → Arrives (shown l.value) key false (product piece) passes (shown l'.value) left → Brings x key piece passes x' left

module _ (code : CodeView) (p : Source) (inputs : List ℤ) where
  -- Worker w's frame has reached its end, and the worker's views have lost its reducers.
  pub record HasRetired (b : Scheduler) (w k : ℕ) (v : ℤ) (h : HasCome code p inputs b w k (asks.End v)) (went : List (Activation FrameState)) (views : Hypermap) : Type 0 where
    pub goes : let l = b.frames in went ≡ changed (λ _. h.came) l.items k
    pub retires : (top : Activation FrameState) → slice_get went k ≡ Some top → let u = h.worker in RetiresOwn code.layout top u.views views

  -- The first frame: the outcome is kept, with these views, and the worker is idle.
  abbrev pub RunsAreLeft : Type 0
  RunsAreLeft =
      (b b' : Scheduler) (w : ℕ) (v : ℤ) (h : HasCome code p inputs b w 0 (asks.End v)) (went : List (Activation FrameState)) (views left : Hypermap) (viewed : List Worker) → HasRetired b w 0 v h went views
      → (let c = b.cells in b'.outcome ≡ Some (outcome_of code.layout c.items views v)) → (let l = b.workers in viewed ≡ viewing left l.items w) → (let l = b'.workers in l.items ≡ altered freed viewed w) → b'.offered ≡ b.offered
      → IsFinished b b' 0 went → EndsRun code p inputs b b' w v h

  -- A frame beside which no continuation was stolen: the worker holds the parent, whose
  -- continuation is no longer offered.
  abbrev pub FramesGoBack : Type 0
  FramesGoBack =
      (name : ℕ → Name) (b b' : Scheduler) (d : WorkerTable) (s : State FrameEnv View) (w k : ℕ) (v : ℤ) → ShowsBy code p inputs name b d s → (h : HasCome code p inputs b w (suc k) (asks.End v)) (went held : List (Activation FrameState)) (views : Hypermap) (viewed others : List Worker) (above : Activation FrameState)
      → HasRetired b w (suc k) v h went views → (let a = h.frame_state in let x = a.cursor in x.stolen ≡ false) → (let a = h.frame_state in let x = a.cursor in slice_get went x.parent ≡ Some above) → (let l = b.workers in viewed ≡ viewing views l.items w)
      → (let a = h.frame_state in let x = a.cursor in let y = above.cursor in Seeks x.parent y.status viewed others b.offered b'.offered) → (let a = h.frame_state in let x = a.cursor in held ≡ changed (moved_to (Held w)) went x.parent)
      → (let a = h.frame_state in let x = a.cursor in let l = b'.workers in l.items ≡ altered (working x.parent) others w) → b'.outcome ≡ b.outcome → IsFinished b b' (suc k) held → GoesBack code p inputs b b' w (suc k) v h

  -- A frame beside which the continuation was stolen: its piece has arrived at its parent's block.
  -- If the block passes, the worker holds the parent.
  abbrev pub PiecesAreHandedIn : Type 0
  PiecesAreHandedIn =
      (name : ℕ → Name) (b b' : Scheduler) (d : WorkerTable) (s : State FrameEnv View) (w k : ℕ) (v : ℤ) → ShowsBy code p inputs name b d s → (h : HasCome code p inputs b w (suc k) (asks.End v)) (went brought held : List (Activation FrameState)) (views left : Hypermap) (viewed : List Worker) (above : Activation FrameState) (joined : FrameState) (passes : Bool)
      → HasRetired b w (suc k) v h went views → (let a = h.frame_state in let x = a.cursor in x.stolen ≡ true) → (let a = h.frame_state in let x = a.cursor in slice_get went x.parent ≡ Some above)
      → (let a = h.frame_state in let x = a.cursor in Brings above.cursor x.ordinal views passes joined left) → (let a = h.frame_state in let x = a.cursor in brought ≡ changed (λ _. joined) went x.parent)
      → (let a = h.frame_state in let x = a.cursor in held ≡ cond passes (changed (moved_to (Held w)) (changed passed brought x.parent) x.parent) brought) → (let l = b.workers in viewed ≡ viewing left l.items w)
      → (let a = h.frame_state in let x = a.cursor in let l = b'.workers in l.items ≡ altered (cond passes (working x.parent) freed) viewed w) → b'.offered ≡ b.offered → b'.outcome ≡ b.outcome → IsFinished b b' (suc k) held → HandsIn code p inputs b b' w (suc k) v h

  -- The parent of a frame that a worker holds is in the list. If the continuation beside the frame
  -- was stolen, its piece may arrive at the parent's block.
  abbrev pub PiecesMayArrive : Type 0
  PiecesMayArrive =
      (name : ℕ → Name) (b : Scheduler) (d : WorkerTable) (s : State FrameEnv View) (w k : ℕ) (v : ℤ) → IsShown code p inputs name b d s → OutliveChildren s → (h : HasCome code p inputs b w (suc k) (asks.End v))
      → let a = h.frame_state in
      let x = a.cursor in
      let f = b.frames in
      (above : Activation FrameState) × (slice_get f.items x.parent ≡ Some above) × (x.stolen ≡ true → let y = above.cursor in (l : _) × (y.join ≡ Some l) × MayArrive (shown l.value) x.ordinal false)
