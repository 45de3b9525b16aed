-- The scheduler's numbers of frames, cells and reducers, which the free machine knows by names.
use Rattle.std.specs.Prelude.{◌≡◌, ◌+◌, ◌<◌, ℕ, zero, suc, nat_eq, cond, List, [], ◌∷◌, ◌++◌, length, map, slice_get, Option, Some, None}
use Rattle.std.specs.Option.{option_map}
use Rattle.cilk_types.specs.declared.event.Event.{Event}
use Rattle.cilk_types.specs.declared.event.Event.TheVariants as events
use Rattle.cilk_types.specs.declared.event.Instance as numbered
use Rattle.cilk_types.specs.declared.invocation.Invocation.TheVariants.{Call, Spawn}
use Rattle.cilk_program.specs.Scopes.{Home, Scope}
use Rattle.cilk_program.specs.SerialRun.{cells_of, global_reducer}
use Rattle.cilk_program.specs.Syntax.{Source}
use Rattle.cilk_frames.specs.declared.activation.Activation.{Activation}
use Rattle.cilk_determinacy.specs.Runs.{Name, Cell, Global, Own, Instance, Output, Reducer, Granted, Begins, Resumes, Creates, Updates, Sets, Values, Prints, Deed, Does, Invokes, Reads, Writes, Syncs, Ends, Passes}
use Rattle.cilk_determinacy.specs.Machine.{Frame, State}
use Rattle.cilk_determinacy.specs.Reducers.{View}
use Rattle.cilk_determinacy.specs.FrameEnvs.{FrameEnv, Reducers, Sight, global_named}
use Rattle.cilk_scheduler.specs.declared.frame_state.JournalEntry.{JournalEntry}
use Rattle.cilk_scheduler.specs.declared.frame_state.FrameState.{FrameState}

-- the parent of the frame at this index, if there is such a frame
abbrev pub parent_at : List (Activation FrameState) → ℕ → Option ℕ
parent_at frames n = option_map (λ (a : Activation FrameState). let x = a.cursor in x.parent) (slice_get frames n)

-- this index, if the frame there is a child of frame k; the first frame has no parent
abbrev pub child_at : Option ℕ → ℕ → ℕ → List ℕ
child_at None k n = []
child_at (Some m) k zero = []
child_at (Some m) k (suc n) = cond (nat_eq m k) (suc n ∷ []) []

-- the indices of the children of frame k among the first n frames, in order
abbrev pub children_among : List (Activation FrameState) → ℕ → ℕ → List ℕ
children_among frames k zero = []
children_among frames k (suc n) = children_among frames k n ++ child_at (parent_at frames n) k n

-- The frames of a scheduler, in the order in which they began, and their names. The first is the
-- root. Each other frame has an earlier parent, and an ordinal that counts the parent's children
-- from 1 on. Different frames have different names.
pub record AreNamed (frames : List (Activation FrameState)) (name : ℕ → Name) : Type 0 where
  pub root : name 0 ≡ []
  pub child : (k : ℕ) (x : Activation FrameState) → slice_get frames (suc k) ≡ Some x → (let s = x.cursor in (s.parent < suc k) × (name (suc k) ≡ name s.parent ++ s.ordinal ∷ []))
  pub ordinal : (k : ℕ) (x : Activation FrameState) → slice_get frames (suc k) ≡ Some x → (let s = x.cursor in s.ordinal ≡ suc (length (children_among frames s.parent (suc k))))
  pub apart : (j k : ℕ) → j < length frames → k < length frames → name j ≡ name k → j ≡ k

-- no frame of the scheduler has this name
abbrev pub IsAbsent : List (Activation FrameState) → (ℕ → Name) → Name → Type 0
IsAbsent frames name n = (k : ℕ) → k < length frames → name k ≡ n → ⊥

-- how many cells a frame has
abbrev pub size_of : Source → Option (Frame FrameEnv) → ℕ
size_of p None = 0
size_of p (Some f) = let w = f.what in cells_of p w.callee

module _ (p : Source) (frames : List (Activation FrameState)) (name : ℕ → Name) where
  -- a cell has this number
  abbrev pub IsCell : State FrameEnv View → Cell → ℕ → Type 0
  IsCell s (Global g) n = (n ≡ g) × (g < length p.openings)
  IsCell s (Own m q) n = (k : ℕ) × (x : Activation FrameState) × (slice_get frames k ≡ Some x) × (name k ≡ m) × (n ≡ x.base + q) × (q < size_of p (s.frames m))

  -- a reducer has this number, which names the frame that created it
  abbrev pub IsInstance : Instance → numbered.Instance → Type 0
  IsInstance Output j = (j.frame ≡ 0) × (j.place ≡ 0)
  IsInstance (Reducer m q kind) j = (k : ℕ) × (k < length frames) × (name k ≡ m) × (j.frame ≡ suc k) × (j.place ≡ suc q)

  -- an event by numbers is what a frame did
  abbrev pub IsMarked : ℕ → Granted → Event → Type 0
  IsMarked k Begins e = e ≡ events.Begin (suc k)
  IsMarked k Resumes e = e ≡ events.Resume (suc k)
  IsMarked k (Creates i) e = (j : numbered.Instance) × IsInstance i j × (e ≡ events.Create j)
  IsMarked k (Updates i x) e = (j : numbered.Instance) × IsInstance i j × (e ≡ events.Update j x)
  IsMarked k (Sets i x) e = (j : numbered.Instance) × IsInstance i j × (e ≡ events.Set j x)
  IsMarked k (Values i v) e = (j : numbered.Instance) × IsInstance i j × (e ≡ events.Value j v)
  IsMarked k (Prints x) e = e ≡ events.Print x

  abbrev pub IsDeed : State FrameEnv View → ℕ → Deed FrameEnv → Event → Type 0
  IsDeed s k (Does (Reads c v)) e = (n : ℕ) × IsCell s c n × (e ≡ events.Read n v)
  IsDeed s k (Does (Writes c v)) e = (n : ℕ) × IsCell s c n × (e ≡ events.Write n v)
  IsDeed s k (Does Syncs) e = e ≡ events.Sync
  IsDeed s k (Does (Ends v gone)) e = e ≡ events.End
  IsDeed s k (Does (Passes m)) e = IsMarked k m e
  IsDeed s k (Invokes Call w) e = (c : ℕ) × (c < length frames) × (name c ≡ w.name) × (e ≡ events.Call (suc c))
  IsDeed s k (Invokes Spawn w) e = (c : ℕ) × (c < length frames) × (name c ≡ w.name) × (e ≡ events.Spawn (suc c))

  -- these events are what frame k did, in order
  abbrev pub AreDeeds : State FrameEnv View → ℕ → List (Deed FrameEnv) → List Event → Type 0
  AreDeeds s k [] [] = Unit {0}
  AreDeeds s k [] (e ∷ es) = ⊥
  AreDeeds s k (d ∷ ds) [] = ⊥
  AreDeeds s k (d ∷ ds) (e ∷ es) = IsDeed s k d e × AreDeeds s k ds es

-- the events of a frame in a journal
abbrev pub events_of : ℕ → List JournalEntry → List Event
events_of k [] = []
events_of k (e ∷ es) = cond (nat_eq e.frame k) (e.event ∷ events_of k es) (events_of k es)

-- ---- what a frame sees, by names and by numbers at once

abbrev pub CellBoth : Type 0
CellBoth = Cell × ℕ

abbrev pub ReducerBoth : Type 0
ReducerBoth = Reducers × numbered.Instance

abbrev pub name_home : Home CellBoth ReducerBoth → Home Cell Reducers
name_home h = record { cells = λ n. let c = h.cells n in c.0; own = λ n. let r = h.own n in r.0; given = map (λ (r : ReducerBoth). r.0) h.given }

abbrev pub number_home : Home CellBoth ReducerBoth → Home ℕ numbered.Instance
number_home h = record { cells = λ n. let c = h.cells n in c.1; own = λ n. let r = h.own n in r.1; given = map (λ (r : ReducerBoth). r.1) h.given }

abbrev pub names_in : Scope CellBoth ReducerBoth → Sight
names_in scope = map name_home scope

abbrev pub numbers_in : Scope CellBoth ReducerBoth → Scope ℕ numbered.Instance
numbers_in scope = map number_home scope

abbrev pub global_cell : ℕ → CellBoth
global_cell n = (Global n, n)

abbrev pub global_both : ℕ → ReducerBoth
global_both n = (global_named n, global_reducer n)
