-- A call or a spawn by a worker's frame: the scheduler before and after, by numbers.
use Rattle.std.specs.Prelude.{◌≡◌, ◌+◌, ◌-◌, ℕ, suc, ℤ, pos, List, [], ◌∷◌, ◌++◌, length, replicate, slice_get, Some}
use Rattle.cilk_types.specs.declared.event.Event.{Event}
use Rattle.cilk_types.specs.declared.invocation.Invocation.{Invocation}
use Rattle.cilk_types.specs.declared.invocation.Invocation.TheVariants.{Call, Spawn}
use Rattle.cilk_program.specs.SerialRun.{invocation}
use Rattle.cilk_program.specs.Syntax.{Source}
use Rattle.cilk_program.specs.declared.ask.Ask.TheVariants as asks
use Rattle.cilk_program.specs.declared.ask.Callee.{Callee}
use Rattle.cilk_lower.specs.Behaves.{Behaves}
use Rattle.cilk_lower.specs.Code.{CodeView}
use Rattle.cilk_lower.specs.Layout.{cells_in}
use Rattle.cilk_frames.specs.declared.activation.Activation.{Activation}
use Rattle.cilk_determinacy.specs.Machine.{State, deeds_at, started}
use Rattle.cilk_determinacy.specs.Runs.{Name}
use Rattle.cilk_determinacy.specs.Reducers.{View}
use Rattle.cilk_determinacy.specs.FrameEnvs.{FrameEnv}
use Rattle.cilk_scheduler.specs.declared.scheduler.Scheduler.{Scheduler}
use Rattle.cilk_scheduler.specs.declared.choice.Choice.TheVariants.{Run}
use Rattle.cilk_scheduler.specs.declared.frame_state.FrameState.{FrameState}
use Rattle.cilk_scheduler.specs.declared.frame_state.Status.{Status}
use Rattle.cilk_scheduler.specs.declared.frame_state.Status.TheVariants.{Calling, Offered}
use Rattle.cilk_scheduler.specs.declared.frame_state.Worker.{Worker}
use Rattle.cilk_scheduler.specs.Acting.{IsShown}
use Rattle.cilk_scheduler.specs.Schedulers.{ShowsBy}
use Rattle.cilk_scheduler.specs.WorkerTables.{WorkerTable, Did, Chooses}
use Rattle.cilk_scheduler.specs.Invoking.{IsChild}
use Rattle.cilk_scheduler.specs.Ordinals.{AreCounted}
use Rattle.cilk_scheduler.specs.FrameStates.{changed, counted, started_at}
use Rattle.cilk_scheduler.specs.Starting.{named_at}
use Rattle.cilk_scheduler.specs.Steps.{HasCome}
use Rattle.cilk_scheduler.specs.Workers.{altered}

-- the status of a frame that has started another
abbrev pub left_at : Invocation → ℕ → Status
left_at Call w = Calling
left_at Spawn w = Offered w

-- the worker's offers then: a spawn adds the frame's continuation as the newest
abbrev pub offering : Invocation → ℕ → List ℕ → List ℕ
offering Call k ks = ks
offering Spawn k ks = ks ++ k ∷ []

abbrev pub newly_offered : Invocation → ℕ
newly_offered Call = 0
newly_offered Spawn = 1

-- The worker continues with the frame at this index. After a spawn it offers the continuation of
-- frame k.
abbrev pub HandsOver : Invocation → ℕ → ℕ → Worker → Worker → Type 0
HandsOver how k place u v = (v.frame ≡ Some place) × (v.views ≡ u.views) × (let o = u.offered in let q = v.offered in q.items ≡ offering how k o.items)

-- Frame k has reached its request with this state, and nothing else has changed.
pub record HasGoneOn (b b' : Scheduler) (k : ℕ) (came : FrameState) : Type 0 where
  pub frames : let f = b.frames in let g = b'.frames in g.items ≡ changed (λ _. came) f.items k
  pub cells : let c = b.cells in let d = b'.cells in d.items ≡ c.items
  pub workers : let l = b.workers in let m = b'.workers in m.items ≡ l.items
  pub offered : b'.offered ≡ b.offered
  pub journal : let e = b.journal in let l = b'.journal in l.items ≡ e.items
  pub ticks : b'.ticks ≡ b.ticks
  pub outcome : b'.outcome ≡ b.outcome

-- A child of frame k with n cells begins: worker w continues with it, and the parent's status
-- changes.
pub record ChildBegins (b b' : Scheduler) (w k : ℕ) (how : Invocation) (child : Activation FrameState) (count : ℕ) : Type 0 where
  pub before : Worker
  pub after : Worker
  pub at : let l = b.workers in slice_get l.items w ≡ Some before
  pub hands : let f = b.frames in HandsOver how k (length f.items) before after
  pub workers : let l = b.workers in let m = b'.workers in m.items ≡ altered (λ _. after) l.items w
  pub frames : let f = b.frames in let g = b'.frames in g.items ≡ changed (started_at (left_at how w) (length f.items)) (f.items ++ child ∷ []) k
  pub cells : let c = b.cells in let d = b'.cells in d.items ≡ c.items ++ replicate count (pos 0)
  pub offered : b'.offered ≡ b.offered + newly_offered how
  pub journal : let e = b.journal in let l = b'.journal in l.items ≡ e.items
  pub ticks : b'.ticks ≡ b.ticks
  pub outcome : b'.outcome ≡ b.outcome

-- An event of frame k is recorded, its ticks are counted, and nothing else has changed.
pub record IsNoted (b b' : Scheduler) (k : ℕ) (event : Event) : Type 0 where
  pub frames : let f = b.frames in let g = b'.frames in g.items ≡ changed counted f.items k
  pub journal : let e = b.journal in let l = b'.journal in l.items ≡ e.items ++ (record { frame = k; event = event }) ∷ []
  pub ticks : (a : Activation FrameState) → (let f = b.frames in slice_get f.items k ≡ Some a) → b'.ticks ≡ b.ticks + (let x = a.cursor in x.took - x.counted)
  pub cells : let c = b.cells in let d = b'.cells in d.items ≡ c.items
  pub workers : let l = b.workers in let m = b'.workers in m.items ≡ l.items
  pub offered : b'.offered ≡ b.offered
  pub outcome : b'.outcome ≡ b.outcome

module _ (code : CodeView) (p : Source) (inputs : List ℤ) where
  -- Worker w holds frame k, whose request is a call or a spawn. The new frame is the last then, and
  -- its cells come after all others and hold 0. The worker holds it with the views that it had.
  pub record GoesToChild (b b' : Scheduler) (w k : ℕ) (how : Invocation) (callee : Callee) (h : HasCome code p inputs b w k (asks.Invoke how callee)) : Type 0 where
    pub child : Activation FrameState
    pub worker : Worker
    pub is_child : let f = b.frames in let c = b.cells in IsChild code (changed (λ _. h.came) f.items k) k w (length c.items) how callee child
    pub frames : let f = b.frames in let g = b'.frames in g.items ≡ changed (λ _. counted (started_at (left_at how w) (length f.items) h.came)) f.items k ++ child ∷ []
    pub cells : let c = b.cells in let d = b'.cells in d.items ≡ c.items ++ replicate (cells_in code.layout callee) (pos 0)
    pub has : let f = b.frames in worker.frame ≡ Some (length f.items)
    pub views : let u = h.worker in worker.views ≡ u.views
    pub offers : let u = h.worker in let o = u.offered in let q = worker.offered in q.items ≡ offering how k o.items
    pub workers : let l = b.workers in let m = b'.workers in m.items ≡ altered (λ _. worker) l.items w
    pub offered : b'.offered ≡ b.offered + newly_offered how
    pub journal : let f = b.frames in let e = b.journal in let l = b'.journal in l.items ≡ e.items ++ (record { frame = k; event = invocation how (suc (length f.items)) }) ∷ []
    pub ticks : let y = h.came in b'.ticks ≡ b.ticks + (y.took - y.counted)
    pub outcome : b'.outcome ≡ b.outcome

  -- The steps of the code lead there: the frame continues, the child is made and begun, the event
  -- is recorded and its ticks are counted.
  abbrev pub InvocationsAreNoted : Type 0
  InvocationsAreNoted =
      (b went begun b' : Scheduler) (w k : ℕ) (how : Invocation) (callee : Callee) (h : HasCome code p inputs b w k (asks.Invoke how callee)) (child : Activation FrameState)
      → HasGoneOn b went k h.came → (let f = went.frames in let c = went.cells in IsChild code f.items k w (length c.items) how callee child) → ChildBegins went begun w k how child (cells_in code.layout callee)
      → IsNoted begun b' k (let f = went.frames in invocation how (suc (length f.items))) → GoesToChild b b' w k how callee h

  -- A call or a spawn is a step of the free machine by the worker's choice. The scheduler shows the
  -- result, by its old names and the new frame's.
  abbrev pub InvocationsAreShown : Type 0
  InvocationsAreShown =
      (name : ℕ → Name) (b b' : Scheduler) (d : WorkerTable) (s : State FrameEnv View) (w k : ℕ) (how : Invocation) (callee : Callee) → Behaves p code → IsShown code p inputs name b d s → AreCounted s.frames
      → (h : HasCome code p inputs b w k (asks.Invoke how callee)) → GoesToChild b b' w k how callee h
      → (s' : State FrameEnv View) × (d' : WorkerTable) × Chooses p inputs s d (Run (suc w)) Did s' d'
      × (let f = b.frames in ShowsBy code p inputs (named_at name (length f.items) (name k ++ suc (started (deeds_at (s.frames (name k)))) ∷ [])) b' d' s')
