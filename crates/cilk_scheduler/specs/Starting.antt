-- A call or a spawn by a worker's frame: what the new frame sees, by names and by numbers.
use Rattle.std.specs.Prelude.{◌≡◌, ◌<◌, ℕ, suc, nat_eq, cond, ℤ, List, [], ◌∷◌, ◌++◌, length, slice_get, Some, None}
use Rattle.cilk_types.specs.declared.invocation.Invocation.{Invocation}
use Rattle.cilk_program.specs.SerialRun.{invocation}
use Rattle.cilk_program.specs.Syntax.{Source}
use Rattle.cilk_program.specs.declared.ask.Ask.TheVariants as asks
use Rattle.cilk_program.specs.declared.ask.Callee.{Callee}
use Rattle.cilk_lower.specs.Behaves.{Behaves}
use Rattle.cilk_lower.specs.Code.{CodeView}
use Rattle.cilk_frames.specs.declared.activation.Activation.{Activation}
use Rattle.cilk_determinacy.specs.Machine.{Frame, State, after_deed, started}
use Rattle.cilk_determinacy.specs.Runs.{Name, Invokes}
use Rattle.cilk_determinacy.specs.Reducers.{View}
use Rattle.cilk_determinacy.specs.FrameEnvs.{FrameEnv, child_env}
use Rattle.cilk_scheduler.specs.declared.scheduler.Scheduler.{Scheduler}
use Rattle.cilk_scheduler.specs.declared.frame_state.FrameState.{FrameState}
use Rattle.cilk_scheduler.specs.declared.frame_state.Status.{Status}
use Rattle.cilk_scheduler.specs.declared.frame_state.Worker.{Worker}
use Rattle.cilk_scheduler.specs.Acting.{IsShown}
use Rattle.cilk_scheduler.specs.Schedulers.{Seen, Sits}
use Rattle.cilk_scheduler.specs.WorkerTables.{WorkerTable}
use Rattle.cilk_scheduler.specs.Invoking.{IsChild}
use Rattle.cilk_scheduler.specs.FrameStates.{changed, counted, started_at}
use Rattle.cilk_scheduler.specs.Steps.{HasCome}

-- the names of frames, with a new one at this index
abbrev pub named_at : (ℕ → Name) → ℕ → Name → ℕ → Name
named_at name k n j = cond (nat_eq k j) n (name j)

module _ (code : CodeView) (p : Source) (inputs : List ℤ) where
  -- Worker w's frame k has reached a call or a spawn. The frame that it starts is the last then,
  -- and its cells come after all others. Frame k has another status. No frame had the new one's
  -- name.
  pub record Starts (name : ℕ → Name) (b b' : Scheduler) (s s' : State FrameEnv View) (w k : ℕ) (how : Invocation) (callee : Callee) : Type 0 where
    pub comes : HasCome code p inputs b w k (asks.Invoke how callee)
    pub frame : Frame FrameEnv
    pub child : Activation FrameState
    pub status : Status
    pub here : s.frames (name k) ≡ Some frame
    pub fresh : s.frames (name k ++ suc (started frame.deeds) ∷ []) ≡ None
    pub made : s'.frames ≡ after_deed s.frames (name k) frame (Invokes how (child_env p frame.what (suc (started frame.deeds)) callee))
    pub is_child : let f = b.frames in let c = b.cells in IsChild code (changed (λ _. comes.came) f.items k) k w (length c.items) how callee child
    pub frame_states_are : let f = b.frames in let g = b'.frames in g.items ≡ changed (λ _. counted (started_at status (length f.items) comes.came)) f.items k ++ child ∷ []

  -- The worker holds the new frame then, its parent's event is recorded, and no continuation is
  -- stolen.
  pub record TakesTurn (b b' : Scheduler) (s s' : State FrameEnv View) (w k : ℕ) (how : Invocation) : Type 0 where
    pub worker : Worker
    pub at : let l = b'.workers in slice_get l.items w ≡ Some worker
    pub has : let f = b.frames in worker.frame ≡ Some (length f.items)
    pub stolen : s'.stolen ≡ s.stolen
    pub written : let f = b.frames in let e = b.journal in let l = b'.journal in l.items ≡ e.items ++ (record { frame = k; event = invocation how (suc (length f.items)) }) ∷ []

  -- The new frame sees, by names and by numbers at once, what its callee names, and all of it
  -- exists.
  abbrev pub ChildrenSee : Type 0
  ChildrenSee =
      (name : ℕ → Name) (b b' : Scheduler) (d : WorkerTable) (s s' : State FrameEnv View) (w k : ℕ) (how : Invocation) (callee : Callee) → IsShown code p inputs name b d s → (t : Starts name b b' s s' w k how callee)
      → let f = b.frames in
      let g = t.frame in
      let n = name k ++ suc (started g.deeds) ∷ [] in
      Seen code p inputs (named_at name (length f.items) n) b' s' t.child (child_env p g.what (suc (started g.deeds)) callee)

  -- The new frame's state is that of the free machine's frame of that name, which has done nothing.
  abbrev pub ChildrenSit : Type 0
  ChildrenSit =
      (name : ℕ → Name) (b b' : Scheduler) (d : WorkerTable) (s s' : State FrameEnv View) (w k : ℕ) (how : Invocation) (callee : Callee) → Behaves p code → IsShown code p inputs name b d s
      → (t : Starts name b b' s s' w k how callee) → TakesTurn b b' s s' w k how
      → let f = b.frames in
      let g = t.frame in
      let n = name k ++ suc (started g.deeds) ∷ [] in
      Sits code p inputs (named_at name (length f.items) n) b' s' (length f.items) t.child

  -- Different frames still have different names then.
  abbrev pub NamesStayApart : Type 0
  NamesStayApart =
      (name : ℕ → Name) (b b' : Scheduler) (d : WorkerTable) (s s' : State FrameEnv View) (w k : ℕ) (how : Invocation) (callee : Callee) → IsShown code p inputs name b d s → (t : Starts name b b' s s' w k how callee)
      → let f = b.frames in
      let g = b'.frames in
      let o = t.frame in
      let names = named_at name (length f.items) (name k ++ suc (started o.deeds) ∷ []) in
      (i j : ℕ) → i < length g.items → j < length g.items → names i ≡ names j → i ≡ j
