-- The end of a worker's frame: the scheduler before and after, by numbers.
use Rattle.std.specs.Prelude.{◌≡◌, ◌+◌, ◌-◌, ℕ, suc, Bool, true, false, cond, ℤ, List, [], ◌∷◌, ◌++◌, slice_get, Option, Some, None}
use Rattle.cilk_types.specs.declared.event.Event.TheVariants as events
use Rattle.cilk_types.specs.declared.event.Instance.{Instance}
use Rattle.cilk_monoid.specs.declared.kind.MonoidKind.{MonoidKind}
use Rattle.cilk_program.specs.declared.ask.Ask.TheVariants as asks
use Rattle.cilk_program.specs.Syntax.{Source}
use Rattle.cilk_lower.specs.Code.{CodeView}
use Rattle.cilk_lower.specs.Layout.{function_frame}
use Rattle.cilk_lower.specs.declared.layout.Layout.{Layout}
use Rattle.cilk_frames.specs.declared.activation.Activation.{Activation}
use Rattle.cilk_hypermap.specs.Hypermap.{view_in}
use Rattle.cilk_hypermap.specs.declared.hypermap.Hypermap.{Hypermap}
use Rattle.cilk_join.specs.Products.{product}
use Rattle.cilk_determinacy.specs.Machine.{State}
use Rattle.cilk_determinacy.specs.Runs.{Name}
use Rattle.cilk_determinacy.specs.Reducers.{View}
use Rattle.cilk_determinacy.specs.FrameEnvs.{FrameEnv}
use Rattle.cilk_scheduler.specs.declared.scheduler.Scheduler.{Scheduler}
use Rattle.cilk_scheduler.specs.declared.choice.Choice.TheVariants.{Run}
use Rattle.cilk_scheduler.specs.declared.frame_state.FrameState.{FrameState}
use Rattle.cilk_scheduler.specs.declared.frame_state.Status.{Status}
use Rattle.cilk_scheduler.specs.declared.frame_state.Status.TheVariants.{Held, Offered}
use Rattle.cilk_scheduler.specs.declared.frame_state.Worker.{Worker}
use Rattle.cilk_scheduler.specs.Acting.{IsShown}
use Rattle.cilk_scheduler.specs.Schedulers.{ShowsBy}
use Rattle.cilk_scheduler.specs.WorkerTables.{WorkerTable, Did, Chooses}
use Rattle.cilk_scheduler.specs.Events.{Arrives, block_in}
use Rattle.cilk_frames.specs.Leaving.{outcome_of}
use Rattle.cilk_scheduler.specs.Retired.{without_own}
use Rattle.cilk_scheduler.specs.Parents.{AreStarted, OutliveChildren}
use Rattle.cilk_scheduler.specs.FrameStates.{changed, counted, finished, moved_to, passed}
use Rattle.cilk_scheduler.specs.Steps.{HasCome}
use Rattle.cilk_scheduler.specs.Waiting.{idling}
use Rattle.cilk_scheduler.specs.Workers.{altered, holding}
use Rattle.cilk_scheduler.specs.OfferLists.{Withdraws}

-- the monoids of the reducers that a frame with this creator created for itself
abbrev pub created_by : Layout → Option ℕ → List MonoidKind
created_by l None = []
created_by l (Some function) = let f = function_frame l function in f.reducers

-- the views without those of the reducers that a frame created for itself
abbrev pub RetiresOwn : Layout → Activation FrameState → Hypermap → Hypermap → Type 0
RetiresOwn l a old new = (k : MonoidKind) (j : Instance) → view_in new k j ≡ without_own a.number a.first (created_by l a.creator) k j (view_in old k j)

-- The continuation of frame k is withdrawn from the worker that offers it; else workers stay.
pub data TakesBack (b : Scheduler) (k : ℕ) (status : Status) (workers : List Worker) (offered : ℕ) : Type 0 where
  WasNotOffered : ((v : ℕ) → status ≡ Offered v → ⊥) → (let l = b.workers in workers ≡ l.items) → offered ≡ b.offered → TakesBack b k status workers offered
  WasOffered : (v : ℕ) (owner without : Worker) (found : Bool) → status ≡ Offered v → (let l = b.workers in slice_get l.items v ≡ Some owner) → without.frame ≡ owner.frame → without.views ≡ owner.views
      → (let o = owner.offered in let l = without.offered in Withdraws o.items k found l.items) → (let l = b.workers in workers ≡ altered (λ _. without) l.items v) → offered ≡ cond found (b.offered - 1) b.offered
      → TakesBack b k status workers offered

module _ (code : CodeView) (p : Source) (inputs : List ℤ) where
  -- The worker's views lose the frame's own reducers, its end is recorded, and its ticks are
  -- counted.
  pub record Closes (b b' : Scheduler) (w k : ℕ) (v : ℤ) (h : HasCome code p inputs b w k (asks.End v)) (views : Hypermap) : Type 0 where
    pub retires : let u = h.worker in RetiresOwn code.layout h.frame_state u.views views
    pub journal : let e = b.journal in let l = b'.journal in l.items ≡ e.items ++ (record { frame = k; event = events.End }) ∷ []
    pub cells : let c = b.cells in let d = b'.cells in d.items ≡ c.items
    pub ticks : let x = h.came in b'.ticks ≡ b.ticks + (x.took - x.counted)

  -- The first frame ends: the run has an outcome, and the worker is idle.
  pub record EndsRun (b b' : Scheduler) (w : ℕ) (v : ℤ) (h : HasCome code p inputs b w 0 (asks.End v)) : Type 0 where
    pub views : Hypermap
    pub left : Hypermap
    pub closes : Closes b b' w 0 v h views
    pub frames : let f = b.frames in let g = b'.frames in g.items ≡ changed (λ _. counted (finished h.came)) f.items 0
    pub workers : let l = b.workers in let m = b'.workers in m.items ≡ altered (idling left) l.items w
    pub offered : b'.offered ≡ b.offered
    pub outcome : let c = b.cells in b'.outcome ≡ Some (outcome_of code.layout c.items views v)

  -- A frame ends beside which no continuation was stolen: the worker continues with the parent and
  -- the child's views.
  pub record GoesBack (b b' : Scheduler) (w k : ℕ) (v : ℤ) (h : HasCome code p inputs b w k (asks.End v)) : Type 0 where
    pub views : Hypermap
    pub above : Activation FrameState
    pub others : List Worker
    pub closes : Closes b b' w k v h views
    pub was_kept : let a = h.frame_state in let x = a.cursor in x.stolen ≡ false
    pub sits : let a = h.frame_state in let x = a.cursor in let f = b.frames in slice_get f.items x.parent ≡ Some above
    pub frames : let a = h.frame_state in let x = a.cursor in let f = b.frames in let g = b'.frames in g.items ≡ changed (moved_to (Held w)) (changed (λ _. counted (finished h.came)) f.items k) x.parent
    pub back : let a = h.frame_state in let x = a.cursor in let y = above.cursor in TakesBack b x.parent y.status others b'.offered
    pub workers : let a = h.frame_state in let x = a.cursor in let m = b'.workers in m.items ≡ altered (holding x.parent views) others w
    pub outcome : b'.outcome ≡ b.outcome

  -- A frame ends beside which the continuation was stolen: its piece arrives at its parent's block.
  -- If the block passes, the worker continues with the parent and the block's views; else it is
  -- idle.
  pub record HandsIn (b b' : Scheduler) (w k : ℕ) (v : ℤ) (h : HasCome code p inputs b w k (asks.End v)) : Type 0 where
    pub views : Hypermap
    pub left : Hypermap
    pub above : Activation FrameState
    pub joined : FrameState
    pub passes : Bool
    pub closes : Closes b b' w k v h views
    pub was_stolen : let a = h.frame_state in let x = a.cursor in x.stolen ≡ true
    pub sits : let a = h.frame_state in let x = a.cursor in let f = b.frames in slice_get f.items x.parent ≡ Some above
    pub arrives : let a = h.frame_state in let x = a.cursor in let y = above.cursor in Arrives (block_in y.join) x.ordinal false (product views) passes (block_in joined.join) left
    pub joined_is : joined ≡ (let y = above.cursor in record y { join = joined.join })
    pub frames : let a = h.frame_state in let x = a.cursor in let f = b.frames in let g = b'.frames in g.items ≡ changed (λ _. cond passes (moved_to (Held w) (passed joined)) joined) (changed (λ _. counted (finished h.came)) f.items k) x.parent
    pub workers : let a = h.frame_state in let x = a.cursor in let l = b.workers in let m = b'.workers in m.items ≡ altered (cond passes (holding x.parent left) (idling left)) l.items w
    pub offered : b'.offered ≡ b.offered
    pub outcome : b'.outcome ≡ b.outcome

  -- what the worker's choice does to a state shown, and that the scheduler shows the result
  abbrev pub IsEnded : (ℕ → Name) → Scheduler → WorkerTable → State FrameEnv View → ℕ → Type 0
  IsEnded name b' d s w = (s' : State FrameEnv View) × (d' : WorkerTable) × Chooses p inputs s d (Run (suc w)) Did s' d' × ShowsBy code p inputs name b' d' s'

  -- the first frame ends
  abbrev pub RunsEnd : Type 0
  RunsEnd =
      (name : ℕ → Name) (b b' : Scheduler) (d : WorkerTable) (s : State FrameEnv View) (w : ℕ) (v : ℤ) → IsShown code p inputs name b d s → AreStarted p s
      → (h : HasCome code p inputs b w 0 (asks.End v)) → EndsRun b b' w v h → IsEnded name b' d s w

  -- a frame ends that was called, or beside which the continuation wasn't stolen
  abbrev pub ReturnsAreShown : Type 0
  ReturnsAreShown =
      (name : ℕ → Name) (b b' : Scheduler) (d : WorkerTable) (s : State FrameEnv View) (w k : ℕ) (v : ℤ) → IsShown code p inputs name b d s → AreStarted p s → OutliveChildren s
      → (h : HasCome code p inputs b w (suc k) (asks.End v)) → GoesBack b b' w (suc k) v h → IsEnded name b' d s w

  -- a frame ends beside which the continuation was stolen
  abbrev pub ArrivalsAreShown : Type 0
  ArrivalsAreShown =
      (name : ℕ → Name) (b b' : Scheduler) (d : WorkerTable) (s : State FrameEnv View) (w k : ℕ) (v : ℤ) → IsShown code p inputs name b d s → AreStarted p s → OutliveChildren s
      → (h : HasCome code p inputs b w (suc k) (asks.End v)) → HandsIn b b' w (suc k) v h → IsEnded name b' d s w
