-- The simulation relation: the state of the free machine that a scheduler shows.
use Rattle.std.specs.Prelude.{◌≡◌, ◌⊎◌, ◌+◌, ◌<◌, ◌≤◌, ℕ, suc, Bool, true, false, cond, ℤ, pos, List, [], ◌∷◌, ◌++◌, length, map, slice_get, sum, Option, Some, None}
use Rattle.std.specs.Option.{option_map}
use Rattle.cilk_types.specs.declared.event.Instance as numbered
use Rattle.cilk_types.specs.declared.invocation.Invocation.TheVariants.{Call, Spawn}
use Rattle.cilk_types.specs.declared.limits.TheConstants.{MAX_CELLS, MAX_FRAMES, MAX_TICKS}
use Rattle.cilk_types.specs.declared.outcome.Outcome.{Outcome}
use Rattle.cilk_monoid.specs.Laws.{MonoidStructure}
use Rattle.cilk_monoid.specs.declared.kind.MonoidKind.{MonoidKind}
use Rattle.cilk_monoid.specs.Kinds.{structure_of}
use Rattle.cilk_monoid.specs.Values.{ViewValue}
use Rattle.cilk_program.specs.Scopes.{Scope}
use Rattle.cilk_program.specs.SerialRun.{own_reducers}
use Rattle.cilk_program.specs.Syntax.{Source}
use Rattle.cilk_program.specs.declared.ask.Ask as language
use Rattle.cilk_program.specs.Visible.{FrameSees}
use Rattle.cilk_lower.specs.Code.{CodeView}
use Rattle.cilk_lower.specs.Layout.{function_frame}
use Rattle.cilk_lower.specs.declared.code.Owed.TheVariants.{Nothing}
use Rattle.cilk_frames.specs.Cursor.{CursorView}
use Rattle.cilk_frames.specs.Following.{Stands}
use Rattle.cilk_frames.specs.Sight.{HasScope}
use Rattle.cilk_frames.specs.declared.activation.Activation.{Activation}
use Rattle.cilk_hypermap.specs.Hypermap.{value_in}
use Rattle.cilk_join.specs.Joins.{JoinView}
use Rattle.cilk_join.specs.Products.{Product}
use Rattle.cilk_join.specs.Rows.{Wait, wait}
use Rattle.cilk_join.specs.Waits.{shown}
use Rattle.cilk_determinacy.specs.Cuts.{times, joined_at}
use Rattle.cilk_determinacy.specs.Runs.{Name, Cell, Own, Instance, Reducer, Sync, Deed, Does, Invokes}
use Rattle.cilk_determinacy.specs.Costs.{TickTotal, EventTotal, FrameTotal, CellTotal}
use Rattle.cilk_determinacy.specs.Machine.{Frame, State, HasEnd, deeds_at, started, strands, block_view}
use Rattle.cilk_determinacy.specs.Monoids.{unit_of}
use Rattle.cilk_determinacy.specs.Progress.{GoesOn}
use Rattle.cilk_scheduler.specs.KeptCursors.{IsTold}
use Rattle.cilk_determinacy.specs.FrameEnvMachine.{answers_of, but_last, has_ended, named_ask, next, taken}
use Rattle.cilk_determinacy.specs.Reducers.{View, kind_of, monoid_of}
use Rattle.cilk_determinacy.specs.Steps.{outcome_in}
use Rattle.cilk_determinacy.specs.FrameEnvViews.{IsViewOf}
use Rattle.cilk_determinacy.specs.FrameEnvs.{FrameEnv}
use Rattle.cilk_scheduler.specs.declared.scheduler.Scheduler.{Scheduler}
use Rattle.cilk_scheduler.specs.declared.frame_state.Due.{Due}
use Rattle.cilk_scheduler.specs.declared.frame_state.Due.TheVariants as due
use Rattle.cilk_scheduler.specs.declared.frame_state.FrameState.{FrameState}
use Rattle.cilk_scheduler.specs.declared.frame_state.Status.{Status}
use Rattle.cilk_scheduler.specs.declared.frame_state.Status.TheVariants.{Held, Calling, Offered, Waiting, Finished}
use Rattle.cilk_scheduler.specs.declared.frame_state.Worker.{Worker}
use Rattle.cilk_scheduler.specs.Asking.{WentOn}
use Rattle.cilk_scheduler.specs.Blocks.{stolen_in, Lays}
use Rattle.cilk_scheduler.specs.WorkerTables.{WorkerTable, BlockIsOver, IsIn}
use Rattle.cilk_scheduler.specs.Numbered.{AreNamed, IsAbsent, size_of, IsCell, IsInstance, AreDeeds, events_of, CellBoth, ReducerBoth, names_in, numbers_in, global_cell, global_both}

-- the last deed starts a child
abbrev pub is_resuming : {W : Type 0} → List (Deed W) → Bool
is_resuming [] = false
is_resuming (Does e ∷ []) = false
is_resuming (Invokes k w ∷ []) = true
is_resuming (d ∷ e ∷ ds) = is_resuming (e ∷ ds)

-- The view that a frame's worker has. It is the view of the frame's own piece. Before the resume it
-- is the newest child's, unless the continuation was stolen. Once the block has passed it is the
-- product of the block with the own piece.
abbrev pub carried : {W V : Type 0} → MonoidStructure V → (Name → V) → (Name → Bool) → Name → List (Deed W) → Bool → V
carried M piece stolen n ds merged =
    cond merged
    (M.combine (block_view M (λ k. piece (n ++ k ∷ [])) (λ k. stolen (n ++ k ∷ [])) M.unit 1 ds) (piece n))
    (cond (is_resuming ds) (cond (stolen (n ++ started ds ∷ [])) (piece n) (piece (n ++ started ds ∷ []))) (piece n))

-- the children whose pieces are in that view
abbrev pub IsUsed : {W : Type 0} → (Name → Bool) → Name → List (Deed W) → Bool → ℕ → Type 0
IsUsed stolen n ds merged q =
    ((merged ≡ true) × (stolen (n ++ q ∷ []) ≡ true)) ⊎ ((merged ≡ false) × (is_resuming ds ≡ true) × (q ≡ started ds) × (stolen (n ++ q ∷ []) ≡ false))

-- the products of a row, for one reducer
abbrev pub run_at : MonoidKind → numbered.Instance → Option Product → Option ViewValue
run_at k j run = option_map (λ (v : Product). v k j) run

abbrev pub waits_at : MonoidKind → numbered.Instance → List (Wait Product) → List (Wait ViewValue)
waits_at k j ws = map (λ (w : Wait Product). wait w.key (run_at k j w.run)) ws

-- the last of a list of ordinals
abbrev pub greatest : List ℕ → ℕ
greatest [] = 0
greatest (k ∷ []) = k
greatest (k ∷ j ∷ ks) = greatest (j ∷ ks)

-- no view belongs to a frame that hasn't begun
abbrev pub IsBare : ℕ → (MonoidKind → numbered.Instance → ViewValue) → Type 0
IsBare frames views = (k : MonoidKind) (j : numbered.Instance) → frames < j.frame → views k j ≡ (structure_of k).unit

-- the name of the frame that a worker holds
abbrev pub hand_of : (ℕ → Name) → Worker → Option Name
hand_of name w = option_map name w.frame

abbrev pub offers_of : (ℕ → Name) → Worker → List Name
offers_of name w = let o = w.offered in map name o.items

module _ (code : CodeView) (p : Source) (inputs : List ℤ) where
  -- Where a frame continues: its begin, the answer to its last event, or a sync that it requested.
  abbrev pub IsDue : FrameEnv → List (Deed FrameEnv) → Due → CursorView → ℕ → Type 0
  IsDue w deeds due.Begin c took = (deeds ≡ []) × Stands code inputs p w.callee c [] 0 × (c.owed ≡ Nothing) × (took ≡ 0)
  IsDue w deeds (due.Answer a) c took = IsTold code p inputs w deeds c a took
  IsDue w deeds due.Sync c took = Stands code inputs p w.callee c (answers_of deeds) took × (c.owed ≡ Nothing) × (next p inputs w deeds ≡ Some Sync) × (took ≡ taken p inputs w deeds) × (took ≤ MAX_TICKS)

  module _ (name : ℕ → Name) (b : Scheduler) (s : State FrameEnv View) where
    abbrev pub frame_states : List (Activation FrameState)
    frame_states = let f = b.frames in f.items

    -- a cell of the scheduler, and a reducer of one of its frames, by name and by number
    abbrev pub HasCell : CellBoth → Type 0
    HasCell c = IsCell p frame_states name s c.0 c.1

    abbrev pub HasReducer : ReducerBoth → MonoidKind → Type 0
    HasReducer r k = (kind_of (r.0 k) ≡ k) × IsInstance p frame_states name (r.0 k) r.1

    -- All that a frame sees, by names and by numbers at once, exists.
    pub record Seen (x : Activation FrameState) (w : FrameEnv) : Type 0 where
      pub scope : Scope CellBoth ReducerBoth
      pub target : Option CellBoth
      pub names : w.sight ≡ names_in scope
      pub numbers : HasScope frame_states x (numbers_in scope)
      pub goes_to : w.result ≡ option_map (λ (c : CellBoth). c.0) target
      pub lies_at : x.result ≡ option_map (λ (c : CellBoth). c.1) target
      pub sees : FrameSees p global_cell global_both HasCell HasReducer w.callee scope target

    -- child q of frame n has ended
    abbrev pub is_there : Name → ℕ → Bool
    is_there n q = has_ended (deeds_at (s.frames (n ++ q ∷ [])))

    abbrev pub stolen_at_block : Name → List (Deed FrameEnv) → List ℕ
    stolen_at_block n deeds = stolen_in (λ q. s.stolen (n ++ q ∷ [])) 1 [] deeds

    -- The pieces at a frame's block, with its own once that has arrived.
    pub record Keeps (n : Name) (deeds : List (Deed FrameEnv)) (j : JoinView) : Type 0 where
      pub lays : (i : Instance) (k : numbered.Instance) → IsInstance p frame_states name i k → let r = j.row in
          Lays (kind_of i) (λ q. s.piece (n ++ q ∷ []) i) (is_there n) (cond j.closed (s.piece n i) (unit_of monoid_of i)) (unit_of monoid_of i) (stolen_at_block n deeds) (run_at (kind_of i) k r.run) (waits_at (kind_of i) k r.waits)
      pub stolen : j.stolen ≡ greatest (stolen_at_block n deeds)
      pub arrived : j.closed ≡ false → j.arrived ≤ j.stolen
      pub bare : let r = j.row in (run : Product) → (r.run ≡ Some run → IsBare (length frame_states) run)
      pub bare_later : let r = j.row in (q : ℕ) (a : Wait Product) (run : Product) → slice_get r.waits q ≡ Some a → a.run ≡ Some run → IsBare (length frame_states) run

    -- A block has a join if a continuation of it was stolen. The frame's own piece has arrived
    -- there only if the frame waits or the block has passed.
    abbrev pub HasBlock : Name → List (Deed FrameEnv) → FrameState → Type 0
    HasBlock n deeds x = ((x.join ≡ None) × (stolen_at_block n deeds ≡ []) × (x.merged ≡ false))
        ⊎ ((l : _) × (x.join ≡ Some l) × ((x.merged ≡ true) ⊎ (Keeps n deeds (shown l.value) × ((let j = shown l.value in j.closed ≡ true) → x.status ≡ Waiting))))

    -- The status of a frame, by its deeds: held by a worker, waiting for the child that it called
    -- or spawned last, waiting at a sync, or ended.
    abbrev pub IsWhere : ℕ → Name → List (Deed FrameEnv) → FrameState → Status → Type 0
    IsWhere k n deeds x (Held w) =
        (v : Worker) × (let l = b.workers in slice_get l.items w ≡ Some v) × (v.frame ≡ Some k) × GoesOn FrameEnv View s n deeds × (has_ended deeds ≡ false) × (x.merged ≡ true → (x.due ≡ due.Sync) × BlockIsOver s n)
        × (x.merged ≡ false → ¬ (x.due ≡ due.Sync))
    IsWhere k n deeds x Calling = (before : List (Deed FrameEnv)) × (v : FrameEnv) × (deeds ≡ before ++ Invokes Call v ∷ []) × (is_there n (started deeds) ≡ false) × (x.merged ≡ false) × (has_ended deeds ≡ false) × ¬ (x.due ≡ due.Sync)
    IsWhere k n deeds x (Offered w) =
        (before : List (Deed FrameEnv)) × (v : FrameEnv) × (deeds ≡ before ++ Invokes Spawn v ∷ []) × (is_there n (started deeds) ≡ false) × (s.stolen (n ++ started deeds ∷ []) ≡ false) × (x.merged ≡ false)
        × (u : Worker) × (let l = b.workers in slice_get l.items w ≡ Some u) × (place : ℕ) × (let o = u.offered in slice_get o.items place ≡ Some k) × (has_ended deeds ≡ false) × ¬ (x.due ≡ due.Sync)
    IsWhere k n deeds x Waiting = (x.due ≡ due.Sync) × (l : _) × (x.join ≡ Some l) × (let j = shown l.value in j.closed ≡ true) × ¬ (BlockIsOver s n) × GoesOn FrameEnv View s n deeds × (has_ended deeds ≡ false) × (x.merged ≡ false)
    IsWhere k n deeds x Finished = HasEnd deeds

    -- A frame of the scheduler is a frame of the state.
    pub record Sits (k : ℕ) (x : Activation FrameState) : Type 0 where
      pub frame : Frame FrameEnv
      pub here : s.frames (name k) ≡ Some frame
      pub named : let w = frame.what in w.name ≡ name k
      pub number : x.number ≡ suc k
      pub seen : Seen x frame.what
      pub creates : (function : ℕ) → x.creator ≡ Some function → let f = function_frame code.layout function in let w = frame.what in f.reducers ≡ own_reducers p w.callee
      pub creates_none : x.creator ≡ None → let w = frame.what in own_reducers p w.callee ≡ []
      pub stolen : let a = x.cursor in s.stolen (name k) ≡ a.stolen
      pub children : let a = x.cursor in started frame.deeds ≡ a.children
      pub last : let a = x.cursor in 0 < a.children → (a.last < length frame_states) × (name a.last ≡ name k ++ a.children ∷ [])
      pub strands_are : let a = x.cursor in strands frame.deeds ≡ a.strands
      pub counted : let a = x.cursor in a.counted ≡ taken p inputs frame.what (but_last frame.deeds)
      pub due : let a = x.cursor in has_ended frame.deeds ≡ false → (c : CursorView) × (a.cursor ≡ Some c) × IsDue frame.what frame.deeds a.due c a.took
      pub is_where : let a = x.cursor in IsWhere k (name k) frame.deeds a a.status
      pub block : let a = x.cursor in has_ended frame.deeds ≡ false → HasBlock (name k) frame.deeds a
      pub written : let e = b.journal in AreDeeds p frame_states name s k frame.deeds (events_of k e.items)

    -- a worker that holds a frame has the views of that frame
    pub record Holds (w : ℕ) (u : Worker) (k : ℕ) : Type 0 where
      pub frame_state : Activation FrameState
      pub here : slice_get frame_states k ≡ Some frame_state
      pub held : let a = frame_state.cursor in a.status ≡ Held w
      pub views : let a = frame_state.cursor in (i : Instance) (j : numbered.Instance) → IsInstance p frame_states name i j
          → IsViewOf (kind_of i) (carried (monoid_of i) (λ m. s.piece m i) s.stolen (name k) (deeds_at (s.frames (name k))) a.merged) (value_in u.views (kind_of i) j)
      pub used : let a = frame_state.cursor in (q : ℕ) → IsUsed s.stolen (name k) (deeds_at (s.frames (name k))) a.merged q → is_there (name k) q ≡ true
      pub bare : IsBare (length frame_states) (value_in u.views)

  -- The worker table has the scheduler's workers, by names.
  pub record IsWorkerTable (name : ℕ → Name) (b : Scheduler) (d : WorkerTable) : Type 0 where
    pub hands : let l = b.workers in d.hands ≡ map (hand_of name) l.items
    pub offered : let l = b.workers in d.offered ≡ map (offers_of name) l.items
    pub total : let l = b.workers in b.offered ≡ sum (map (λ (u : Worker). let o = u.offered in length o.items) l.items)
    pub places : (w q k : ℕ) (u : Worker) → (let l = b.workers in slice_get l.items w ≡ Some u) → (let o = u.offered in slice_get o.items q ≡ Some k) → (x : Activation FrameState) × (let f = b.frames in slice_get f.items k ≡ Some x) × (let a = x.cursor in a.status ≡ Offered w)
    pub once : (w q r k : ℕ) (u : Worker) → (let l = b.workers in slice_get l.items w ≡ Some u) → (let o = u.offered in slice_get o.items q ≡ Some k) → (let o = u.offered in slice_get o.items r ≡ Some k) → q ≡ r
    pub waiting : (k : ℕ) (x : Activation FrameState) → (let f = b.frames in slice_get f.items k ≡ Some x) → ((let a = x.cursor in a.status ≡ Waiting) → IsIn (name k) d.waiting) × (IsIn (name k) d.waiting → let a = x.cursor in a.status ≡ Waiting)
    -- Each frame that waits exists.
    pub present : (n : Name) → IsIn n d.waiting → (let f = b.frames in IsAbsent f.items name n) → ⊥

  -- The part that is shown after a stop too: the frames with their deeds, the joins, and the
  -- outcome once the first frame has ended. Frames' cells come after the global ones, in the order
  -- of frames.
  pub record Tells (name : ℕ → Name) (b : Scheduler) (s : State FrameEnv View) : Type 0 where
    pub named : let f = b.frames in AreNamed f.items name
    pub here : (k : ℕ) (x : Activation FrameState) → (let f = b.frames in slice_get f.items k ≡ Some x) → (f : Frame FrameEnv) × (s.frames (name k) ≡ Some f) × (let e = b.journal in let l = b.frames in AreDeeds p l.items name s k f.deeds (events_of k e.items))
    pub absent : (n : Name) → (let f = b.frames in IsAbsent f.items name n) → s.frames n ≡ None
    pub joins : (n : Name) (q : ℕ) → times (n ++ q ∷ []) s.joins ≡ joined_at 1 q (deeds_at (s.frames n))
    pub going : b.outcome ≡ None → ¬ (HasEnd (deeds_at (s.frames [])))
    pub over : (o : Outcome) → b.outcome ≡ Some o → HasEnd (deeds_at (s.frames [])) × (o ≡ outcome_in p s)
    pub first : (x : Activation FrameState) → (let f = b.frames in slice_get f.items 0 ≡ Some x) → length p.openings ≤ x.base
    pub ascend : (j k : ℕ) (x y : Activation FrameState) → (let f = b.frames in slice_get f.items j ≡ Some x) → (let f = b.frames in slice_get f.items k ≡ Some y) → j < k → x.base + size_of p (s.frames (name j)) ≤ y.base

  -- The scheduler shows this state, by these names.
  pub record ShowsBy (name : ℕ → Name) (b : Scheduler) (d : WorkerTable) (s : State FrameEnv View) : Type 0 where
    pub tells : Tells name b s
    pub running : s.stopped ≡ None
    pub sits : (k : ℕ) (x : Activation FrameState) → slice_get (frame_states name b s) k ≡ Some x → Sits name b s k x
    -- A frame that hasn't begun has nothing: its cells hold 0, and no piece has a view of its
    -- reducers.
    pub unstolen : (n : Name) → IsAbsent (frame_states name b s) name n → s.stolen n ≡ false
    pub unwritten : (n : Name) (q : ℕ) → IsAbsent (frame_states name b s) name n → s.memory (Own n q) ≡ pos 0
    pub bare : (n m : Name) (q : ℕ) (kind : MonoidKind) → IsAbsent (frame_states name b s) name n → (IsAbsent (frame_states name b s) name m → ⊥) → s.piece m (Reducer n q kind) ≡ unit_of monoid_of (Reducer n q kind)
    -- The cells, with those of all frames among them.
    pub memory : (c : Cell) (n : ℕ) → IsCell p (frame_states name b s) name s c n → (let l = b.cells in slice_get l.items n ≡ Some (s.memory c))
    pub within : (k : ℕ) (x : Activation FrameState) → slice_get (frame_states name b s) k ≡ Some x → (let l = b.cells in x.base + size_of p (s.frames (name k)) ≤ length l.items)
    -- The workers.
    pub holds : (w k : ℕ) (u : Worker) → (let l = b.workers in slice_get l.items w ≡ Some u) → u.frame ≡ Some k → Holds name b s w u k
    pub worker_table : IsWorkerTable name b d
    -- The totals.
    pub ticks : s.totals TickTotal ≡ b.ticks
    pub events : let e = b.journal in s.totals EventTotal ≡ length e.items
    pub frames : s.totals FrameTotal ≡ length (frame_states name b s)
    pub cells : let l = b.cells in s.totals CellTotal ≡ length l.items
    pub few_frames : s.totals FrameTotal ≤ MAX_FRAMES
    pub few_cells : s.totals CellTotal ≤ MAX_CELLS
    -- No event belongs to a frame that doesn't exist.
    pub eventless : (j : ℕ) → length (frame_states name b s) ≤ j → let e = b.journal in events_of j e.items ≡ []

  -- The scheduler shows this state of the free machine and this worker table.
  abbrev pub Shows : Scheduler → WorkerTable → State FrameEnv View → Type 0
  Shows b d s = (name : ℕ → Name) × ShowsBy name b d s

  -- The next request of a frame is that of the free machine, by names, and the ticks used are those
  -- that it counts up to that request.
  abbrev pub AsksAreNamed : Type 0
  AsksAreNamed = (w : FrameEnv) (deeds : List (Deed FrameEnv)) (x x' : FrameState) (c : CursorView) (k : language.Ask) → has_ended deeds ≡ false → x.cursor ≡ Some c → IsDue w deeds x.due c x.took → WentOn code inputs x k x'
      → (next p inputs w deeds ≡ Some (named_ask p w (suc (started deeds)) k)) × (x'.took ≡ taken p inputs w deeds)
