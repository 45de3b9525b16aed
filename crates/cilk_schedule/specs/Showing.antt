-- The run that is shown: by numbers; and as a state of the free machine, by names that no schedule
-- changes.
use Rattle.std.specs.Prelude.{◌≡◌, ◌-◌, ◌<◌, ◌≤◌, ℕ, zero, suc, nat_eq, Bool, true, false, cond, ℤ, List, [], ◌∷◌, ◌++◌, length, slice_get, unwrap_or, Some, None}
use Rattle.std.specs.Option.{option_map}
use Rattle.cilk_types.specs.declared.event.Event.{Event}
use Rattle.cilk_types.specs.declared.event.Event.TheVariants as events
use Rattle.cilk_types.specs.declared.event.Instance as numbered
use Rattle.cilk_types.specs.declared.invocation.Invocation.{Invocation}
use Rattle.cilk_types.specs.declared.invocation.Invocation.TheVariants.{Call, Spawn}
use Rattle.cilk_types.specs.declared.outcome.Outcome.{Outcome}
use Rattle.cilk_program.specs.Syntax.{Source}
use Rattle.cilk_frames.specs.declared.activation.Activation.{Activation}
use Rattle.cilk_determinacy.specs.Cuts.{joined_at, times}
use Rattle.cilk_determinacy.specs.Machine.{Frame, State, HasEnd, deeds_at}
use Rattle.cilk_determinacy.specs.Runs.{Name, Cell, Global, Own, Instance, Output, Reducer, Granted, Begins, Resumes, Creates, Updates, Sets, Values, Prints, Deed, Does, Invokes, Reads, Writes, Syncs, Ends, Passes}
use Rattle.cilk_determinacy.specs.Runs.{Event as Done}
use Rattle.cilk_determinacy.specs.Reducers.{View}
use Rattle.cilk_determinacy.specs.Steps.{outcome_in}
use Rattle.cilk_determinacy.specs.FrameEnvs.{FrameEnv}
use Rattle.cilk_lower.specs.Code.{CodeView}
use Rattle.cilk_scheduler.specs.Schedulers.{Tells}
use Rattle.cilk_scheduler.specs.Parents.{ChildrenAreNamed}
use Rattle.cilk_scheduler.specs.declared.scheduler.Scheduler.{Scheduler}
use Rattle.cilk_scheduler.specs.declared.frame_state.FrameState.{FrameState}
use Rattle.cilk_schedule.specs.declared.naming.CellName.{CellName}
use Rattle.cilk_schedule.specs.declared.naming.CellName.TheVariants as cells
use Rattle.cilk_schedule.specs.declared.naming.ReducerName.{ReducerName}
use Rattle.cilk_schedule.specs.declared.naming.ReducerName.TheVariants as reducers
use Rattle.cilk_schedule.specs.declared.naming.ShownEvent.{ShownEvent}
use Rattle.cilk_schedule.specs.declared.naming.ShownEvent.TheVariants as shows
use Rattle.cilk_schedule.specs.declared.showing.Shown.{Shown}
use Rattle.cilk_schedule.specs.declared.showing.ShownFrame.{ShownFrame}

-- ---- by numbers

-- the ordinal of the frame with a number, from 1; 0 if there is none
abbrev pub ordinal_of : List (Activation FrameState) → ℕ → ℕ
ordinal_of frames zero = 0
ordinal_of frames (suc k) = unwrap_or (option_map (λ (a : Activation FrameState). let x = a.cursor in x.ordinal) (slice_get frames k)) 0

-- a reducer's name, by its number
abbrev pub reducer_of : numbered.Instance → ReducerName
reducer_of j = cond (nat_eq j.frame 0) reducers.Output (reducers.Own (j.frame - 1) (j.place - 1))

-- The cell with this number is of the frame at place k, or past its last cell: the cells of all
-- frames up to that one begin at it or before it, and those of all later frames after it.
pub record IsOwner (frames : List (Activation FrameState)) (k : ℕ) (x : Activation FrameState) (n : ℕ) : Type 0 where
  pub here : slice_get frames k ≡ Some x
  pub before : (j : ℕ) (y : Activation FrameState) → slice_get frames j ≡ Some y → j ≤ k → y.base ≤ n
  pub behind : (j : ℕ) (y : Activation FrameState) → slice_get frames j ≡ Some y → k < j → n < y.base

-- the name of the cell with this number; the first `globals` cells are global
abbrev pub IsCellOf : List (Activation FrameState) → ℕ → ℕ → CellName → Type 0
IsCellOf frames globals n q = (n < globals → q ≡ cells.Global n) × ((k : ℕ) (x : Activation FrameState) → globals ≤ n → IsOwner frames k x n → q ≡ cells.Own k (n - x.base))

-- the name of an event by numbers
abbrev pub IsNamedAs : List (Activation FrameState) → ℕ → Event → ShownEvent → Type 0
IsNamedAs frames globals (events.Begin k) e = e ≡ shows.Begin
IsNamedAs frames globals (events.Read n v) e = (q : CellName) × IsCellOf frames globals n q × (e ≡ shows.Read q v)
IsNamedAs frames globals (events.Write n v) e = (q : CellName) × IsCellOf frames globals n q × (e ≡ shows.Write q v)
IsNamedAs frames globals (events.Create j) e = e ≡ shows.Create (reducer_of j)
IsNamedAs frames globals (events.Update j v) e = e ≡ shows.Update (reducer_of j) v
IsNamedAs frames globals (events.Set j v) e = e ≡ shows.Set (reducer_of j) v
IsNamedAs frames globals (events.Value j v) e = e ≡ shows.Value (reducer_of j) v
IsNamedAs frames globals (events.Print v) e = e ≡ shows.Print v
IsNamedAs frames globals (events.Resume k) e = e ≡ shows.Resume
IsNamedAs frames globals (events.Call c) e = e ≡ shows.Call (ordinal_of frames c)
IsNamedAs frames globals (events.Spawn c) e = e ≡ shows.Spawn (ordinal_of frames c)
IsNamedAs frames globals events.Sync e = e ≡ shows.Sync
IsNamedAs frames globals events.End e = e ≡ shows.End

-- ---- by names

-- the event by which a frame starts its child with this ordinal
abbrev pub start_shown : Invocation → ℕ → ShownEvent
start_shown Call q = shows.Call q
start_shown Spawn q = shows.Spawn q

-- `count` frames have begun, with these names by place
module _ (name : ℕ → Name) (count : ℕ) where
  abbrev pub IsCellShown : Cell → CellName → Type 0
  IsCellShown (Global g) q = q ≡ cells.Global g
  IsCellShown (Own m n) q = (k : ℕ) × (k < count) × (name k ≡ m) × (q ≡ cells.Own k n)

  abbrev pub IsReducerShown : Instance → ReducerName → Type 0
  IsReducerShown Output q = q ≡ reducers.Output
  IsReducerShown (Reducer m n kind) q = (k : ℕ) × (k < count) × (name k ≡ m) × (q ≡ reducers.Own k n)

  abbrev pub IsMarkShown : Granted → ShownEvent → Type 0
  IsMarkShown Begins e = e ≡ shows.Begin
  IsMarkShown Resumes e = e ≡ shows.Resume
  IsMarkShown (Creates i) e = (q : ReducerName) × IsReducerShown i q × (e ≡ shows.Create q)
  IsMarkShown (Updates i x) e = (q : ReducerName) × IsReducerShown i q × (e ≡ shows.Update q x)
  IsMarkShown (Sets i x) e = (q : ReducerName) × IsReducerShown i q × (e ≡ shows.Set q x)
  IsMarkShown (Values i v) e = (q : ReducerName) × IsReducerShown i q × (e ≡ shows.Value q v)
  IsMarkShown (Prints x) e = e ≡ shows.Print x

  abbrev pub IsEventShown : Done → ShownEvent → Type 0
  IsEventShown (Reads c v) e = (q : CellName) × IsCellShown c q × (e ≡ shows.Read q v)
  IsEventShown (Writes c v) e = (q : CellName) × IsCellShown c q × (e ≡ shows.Write q v)
  IsEventShown Syncs e = e ≡ shows.Sync
  IsEventShown (Ends v gone) e = e ≡ shows.End
  IsEventShown (Passes m) e = IsMarkShown m e

  -- These events are what frame n did, in order. Its next child has ordinal `next`.
  abbrev pub AreShown : Name → ℕ → List (Deed FrameEnv) → List ShownEvent → Type 0
  AreShown n next [] [] = Unit {0}
  AreShown n next [] (e ∷ es) = ⊥
  AreShown n next (d ∷ ds) [] = ⊥
  AreShown n next (Does d ∷ ds) (e ∷ es) = IsEventShown d e × AreShown n next ds es
  AreShown n next (Invokes k w ∷ ds) (e ∷ es) = (w.name ≡ n ++ next ∷ []) × (e ≡ start_shown k next) × AreShown n (suc next) ds es

-- Frames by links have these names. The first is the root. Each other frame has an earlier parent
-- and is named by that and its ordinal there. Names differ. Each frame lists its children by their
-- ordinals, from 1 on.
pub record AreLinked (frames : List ShownFrame) (name : ℕ → Name) : Type 0 where
  pub root : name 0 ≡ []
  pub child : (k : ℕ) (f : ShownFrame) → slice_get frames (suc k) ≡ Some f → let l = f.link in (l.parent < suc k) × (name (suc k) ≡ name l.parent ++ l.ordinal ∷ [])
  pub apart : (j k : ℕ) → j < length frames → k < length frames → name j ≡ name k → j ≡ k
  pub lists : (k q j : ℕ) (f : ShownFrame) → slice_get frames k ≡ Some f → (let c = f.children in slice_get c.items q ≡ Some j) → (j < length frames) × (name j ≡ name k ++ suc q ∷ [])
  pub listed : (k q j : ℕ) (f : ShownFrame) → slice_get frames k ≡ Some f → j < length frames → name j ≡ name k ++ q ∷ [] → (r : ℕ) × (q ≡ suc r) × (let c = f.children in slice_get c.items r ≡ Some j)

-- The run shown is this state of the free machine, by these names: what each frame did, which
-- children were joined, each once, and the outcome once the first frame has ended.
pub record ShowsRun (p : Source) (name : ℕ → Name) (s : State FrameEnv View) (shown : Shown) : Type 0 where
  pub linked : let l = shown.frames in AreLinked l.items name
  pub events : (k : ℕ) (f : ShownFrame) → (let l = shown.frames in slice_get l.items k ≡ Some f)
      → (x : Frame FrameEnv) × (s.frames (name k) ≡ Some x) × (let l = shown.frames in let e = f.events in AreShown name (length l.items) (name k) 1 x.deeds e.items)
  pub absent : (n : Name) → ((k : ℕ) → (let l = shown.frames in k < length l.items) → name k ≡ n → ⊥) → s.frames n ≡ None
  pub joins : (n : Name) (q : ℕ) → times (n ++ q ∷ []) s.joins ≡ joined_at 1 q (deeds_at (s.frames n))
  pub going : shown.outcome ≡ None → ¬ (HasEnd (deeds_at (s.frames [])))
  pub over : (o : Outcome) → shown.outcome ≡ Some o → HasEnd (deeds_at (s.frames [])) × (o ≡ outcome_in p s)

-- The run shown is right for every state that the scheduler records, of a program with `globals`
-- global cells, if each child was started under its parent's name and its ordinal.
abbrev pub ShowsScheduler : ℕ → Scheduler → Shown → Type 0
ShowsScheduler globals b shown =
    (code : CodeView) (p : Source) (inputs : List ℤ) (name : ℕ → Name) (s : State FrameEnv View) → globals ≡ length p.openings → ChildrenAreNamed s → Tells code p inputs name b s → ShowsRun p name s shown

-- a sync is among the events
abbrev pub has_sync : List ShownEvent → Bool
has_sync [] = false
has_sync (shows.Begin ∷ es) = has_sync es
has_sync (shows.Spawn q ∷ es) = has_sync es
has_sync (shows.Call q ∷ es) = has_sync es
has_sync (shows.Resume ∷ es) = has_sync es
has_sync (shows.Sync ∷ es) = true
has_sync (shows.End ∷ es) = has_sync es
has_sync (shows.Read c v ∷ es) = has_sync es
has_sync (shows.Write c v ∷ es) = has_sync es
has_sync (shows.Create r ∷ es) = has_sync es
has_sync (shows.Update r v ∷ es) = has_sync es
has_sync (shows.Set r v ∷ es) = has_sync es
has_sync (shows.Value r v ∷ es) = has_sync es
has_sync (shows.Print v ∷ es) = has_sync es

-- a sync follows the spawn of the child with this ordinal
abbrev pub joins_child : ℕ → List ShownEvent → Bool
joins_child k [] = false
joins_child k (shows.Begin ∷ es) = joins_child k es
joins_child k (shows.Spawn q ∷ es) = cond (nat_eq q k) (has_sync es) (joins_child k es)
joins_child k (shows.Call q ∷ es) = joins_child k es
joins_child k (shows.Resume ∷ es) = joins_child k es
joins_child k (shows.Sync ∷ es) = joins_child k es
joins_child k (shows.End ∷ es) = joins_child k es
joins_child k (shows.Read c v ∷ es) = joins_child k es
joins_child k (shows.Write c v ∷ es) = joins_child k es
joins_child k (shows.Create r ∷ es) = joins_child k es
joins_child k (shows.Update r v ∷ es) = joins_child k es
joins_child k (shows.Set r v ∷ es) = joins_child k es
joins_child k (shows.Value r v ∷ es) = joins_child k es
joins_child k (shows.Print v ∷ es) = joins_child k es

-- the number of strands that these events begin
abbrev pub strands_shown : List ShownEvent → ℕ
strands_shown [] = 0
strands_shown (shows.Begin ∷ es) = suc (strands_shown es)
strands_shown (shows.Spawn q ∷ es) = strands_shown es
strands_shown (shows.Call q ∷ es) = strands_shown es
strands_shown (shows.Resume ∷ es) = suc (strands_shown es)
strands_shown (shows.Sync ∷ es) = suc (strands_shown es)
strands_shown (shows.End ∷ es) = strands_shown es
strands_shown (shows.Read c v ∷ es) = strands_shown es
strands_shown (shows.Write c v ∷ es) = strands_shown es
strands_shown (shows.Create r ∷ es) = strands_shown es
strands_shown (shows.Update r v ∷ es) = strands_shown es
strands_shown (shows.Set r v ∷ es) = strands_shown es
strands_shown (shows.Value r v ∷ es) = strands_shown es
strands_shown (shows.Print v ∷ es) = strands_shown es
