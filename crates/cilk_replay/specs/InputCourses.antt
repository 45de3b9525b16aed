-- The values along a plan on an input, its own or another. The plan is a run, whose events are
-- followed as long as frames request them.
use Rattle.std.specs.Prelude.{◌≡◌, ℤ, Bool, true, false, cond, List, [], ◌∷◌, ◌++◌, Option, Some, None}
use Rattle.cilk_types.specs.declared.invocation.Invocation.{Invocation}
use Rattle.cilk_types.specs.declared.invocation.Invocation.TheVariants.{Call, Spawn}
use Rattle.cilk_monoid.specs.Laws.{MonoidStructure}
use Rattle.cilk_determinacy.specs.Runs.{Cell, same_cell, Instance, same_instance, Wish, Begin, Resume, Create, Update, Set, Value, Print, Ask, Read, Write, Invoke, Sync, End, Pass, Granted, Begins, Resumes, Creates, Updates, Sets, Values, Prints, Event, Reads, Writes, Syncs, Ends, Passes, Deed, Does, Invokes, Run, ask_of}
use Rattle.cilk_determinacy.specs.Runs as runs
use Rattle.cilk_determinacy.specs.Machine.{put, mark_of}
use Rattle.cilk_determinacy.specs.Monoids.{on_view, numbers_of}
use Rattle.cilk_determinacy.specs.Serial.{value_after, IsReadRight, IsSerial, Behaves}
use Rattle.cilk_determinacy.specs.Traces.{begin_due, IsFramed}
use Rattle.cilk_determinacy.specs.Views.{view_after, IsViewRight, IsSerialViews}
use Rattle.cilk_determinacy.specs.MachineTheorem.{follows}

-- A run along a plan: each event, and whether its frame requests it.
pub data Course (W : Type 0) : Type 0 where
  stop : Course W
  act : (asked : Bool) → (event : Event) → (rest : Course W) → Course W
  child : (asked : Bool) → (how : Invocation) → (what : W) → (inner : Course W) → (rest : Course W) → Course W

-- the run alone
abbrev pub run_of : {W : Type 0} → Course W → Run W
run_of stop = runs.stop
run_of (act b e r) = runs.act e (run_of r)
run_of (child b k w u r) = runs.child k w (run_of u) (run_of r)

-- whether each event is requested, in serial order
abbrev pub asked_in : {W : Type 0} → Course W → List Bool
asked_in stop = []
asked_in (act b e r) = b ∷ asked_in r
asked_in (child b k w u r) = b ∷ (asked_in u ++ asked_in r)

-- the course of a run in which each event is requested
abbrev pub all_asked : {W : Type 0} → Run W → Course W
all_asked runs.stop = stop
all_asked (runs.act e r) = act true e (all_asked r)
all_asked (runs.child k w u r) = child true k w (all_asked u) (all_asked r)

-- each event is requested
abbrev pub IsAskedThroughout : {W : Type 0} → Course W → Type 0
IsAskedThroughout stop = Unit {0}
IsAskedThroughout (act b e r) = (b ≡ true) × IsAskedThroughout r
IsAskedThroughout (child b k w u r) = (b ≡ true) × IsAskedThroughout u × IsAskedThroughout r

-- two events of one kind, and of one instance
abbrev pub IsMarkLike : Granted → Granted → Type 0
IsMarkLike Begins Begins = Unit {0}
IsMarkLike Resumes Resumes = Unit {0}
IsMarkLike (Creates i) (Creates j) = i ≡ j
IsMarkLike (Updates i x) (Updates j y) = i ≡ j
IsMarkLike (Sets i x) (Sets j y) = i ≡ j
IsMarkLike (Values i x) (Values j y) = i ≡ j
IsMarkLike (Prints x) (Prints y) = Unit {0}
IsMarkLike _ _ = ⊥

-- two events of one kind, and of one cell or instance, whatever their values
abbrev pub IsLike : Event → Event → Type 0
IsLike (Reads c v) (Reads d w) = c ≡ d
IsLike (Writes c v) (Writes d w) = c ≡ d
IsLike Syncs Syncs = Unit {0}
IsLike (Ends v gone) (Ends w gone') = Unit {0}
IsLike (Passes m) (Passes n) = IsMarkLike m n
IsLike _ _ = ⊥

-- a request for an event of this kind, and of this cell or instance
abbrev pub wishes_for : Wish → Granted → Bool
wishes_for Begin Begins = true
wishes_for Resume Resumes = true
wishes_for (Create i) (Creates j) = same_instance j i
wishes_for (Update i x) (Updates j y) = same_instance j i
wishes_for (Set i x) (Sets j y) = same_instance j i
wishes_for (Value i) (Values j y) = same_instance j i
wishes_for (Print x) (Prints y) = true
wishes_for _ _ = false

abbrev pub asks_for : {W : Type 0} → Option (Ask W) → Event → Bool
asks_for (Some (Read c)) (Reads d v) = same_cell d c
asks_for (Some (Write c x)) (Writes d v) = same_cell d c
asks_for (Some Sync) Syncs = true
asks_for (Some (End x gone)) (Ends v gone') = true
asks_for (Some (Pass a)) (Passes m) = wishes_for a m
asks_for _ _ = false

-- the event of a request, if the cells hold these values and the views have these numbers; if it
-- makes none, event e
abbrev pub made_by : {W : Type 0} → (Cell → ℤ) → (Instance → ℤ) → Option (Ask W) → Event → Event
made_by memory number (Some (Read c)) e = Reads c (memory c)
made_by memory number (Some (Write c v)) e = Writes c v
made_by memory number (Some Sync) e = Syncs
made_by memory number (Some (End v gone)) e = Ends v gone
made_by memory number (Some (Pass a)) e = Passes (mark_of number a)
made_by memory number _ e = e

-- a request that starts, in this way, a frame of the same function or loop as v
abbrev pub starts_like : {W : Type 0} → (W → W → Bool) → Option (Ask W) → Invocation → W → Bool
starts_like same (Some (Invoke Call x)) Call v = same v x
starts_like same (Some (Invoke Spawn x)) Spawn v = same v x
starts_like same _ k v = false

-- the frame that a request starts; if it starts none, frame v
abbrev pub started_by : {W : Type 0} → Option (Ask W) → W → W
started_by (Some (Invoke k x)) v = x
started_by _ v = v

-- `next` is the program's behaviour on the input. `same` says whether two frames run one function
-- or one loop.
module _ (W V : Type 0) (M : Instance → MonoidStructure V) (next : W → List (Deed W) → Option (Ask W)) (same : W → W → Bool) where
  -- In the place of the plan's event e, a frame with this past makes event e'. The event is
  -- requested if the frame's next request is of that kind. Then it has the frame's values: a read
  -- gives its cell's value, a value is the number of its view. An event that isn't requested stays
  -- as the plan has it.
  pub record IsMadeFor (w : W) (past : List (Deed W)) (memory : Cell → ℤ) (views : Instance → V) (e e' : Event) (asked : Bool) : Type 0 where
    pub like : IsLike e e'
    pub made : asked ≡ true → (next w past ≡ Some (ask_of e')) × IsReadRight e' memory × IsViewRight M e' views
    pub kept : asked ≡ false → e' ≡ e
    pub only : (x : Event) → IsLike e x → next w past ≡ Some (ask_of x) → asked ≡ true

  -- in the place of the plan's child v, the frame starts v'
  pub record IsStartedFor (w : W) (past : List (Deed W)) (k k' : Invocation) (v v' : W) (asked : Bool) : Type 0 where
    pub how : k ≡ k'
    pub fits : same v v' ≡ true
    pub made : asked ≡ true → next w past ≡ Some (Invoke k' v')
    pub kept : asked ≡ false → v' ≡ v
    pub only : (x : W) → same v x ≡ true → next w past ≡ Some (Invoke k x) → asked ≡ true

  -- The course of the plan's run from frame w on, with this past, these values in the cells and
  -- these views. A read gives the last write of its cell before it in serial order. A value comes
  -- from the events before it in serial order.
  abbrev pub IsCourse : W → List (Deed W) → (Cell → ℤ) → (Instance → V) → Run W → Course W → Type 0
  IsCourse w past memory views runs.stop stop = Unit {0}
  IsCourse w past memory views (runs.act e r) (act b e' r') =
      IsMadeFor w past memory views e e' b
      × IsCourse w (past ++ Does e' ∷ []) (λ c. put e' c (memory c)) (λ i. on_view (M i) i e' (views i)) r r'
  IsCourse w past memory views (runs.child k v u r) (child b k' v' u' r') =
      IsStartedFor w past k k' v v' b
      × IsCourse v' [] memory views u u'
      × IsCourse w (past ++ Invokes k' v' ∷ []) (λ c. value_after (run_of u') c (memory c)) (λ i. view_after (M i) i (run_of u') (views i)) r r'
  IsCourse _ _ _ _ _ _ = ⊥

  -- The same, as a function.
  abbrev pub event_for : W → List (Deed W) → (Cell → ℤ) → (Instance → V) → Event → Event
  event_for w past memory views e = cond (asks_for (next w past) e) (made_by memory (numbers_of M views) (next w past) e) e

  abbrev pub frame_for : W → List (Deed W) → Invocation → W → W
  frame_for w past k v = cond (starts_like same (next w past) k v) (started_by (next w past) v) v

  abbrev pub course_of : W → List (Deed W) → (Cell → ℤ) → (Instance → V) → Run W → Course W
  course_of w past memory views runs.stop = stop
  course_of w past memory views (runs.act e r) =
      let e' = event_for w past memory views e in
      act (asks_for (next w past) e) e' (course_of w (past ++ Does e' ∷ []) (λ c. put e' c (memory c)) (λ i. on_view (M i) i e' (views i)) r)
  course_of w past memory views (runs.child k v u r) =
      let v' = frame_for w past k v in
      let u' = course_of v' [] memory views u in
      child (starts_like same (next w past) k v) k v' u'
      (course_of w (past ++ Invokes k v' ∷ []) (λ c. value_after (run_of u') c (memory c)) (λ i. view_after (M i) i (run_of u') (views i)) r)

  -- A plan's run has exactly one course on each input.
  abbrev pub CoursesAreOne : Type 0
  CoursesAreOne = ((v : W) → same v v ≡ true) → (w : W) (past : List (Deed W)) (memory : Cell → ℤ) (views : Instance → V) (t : Run W)
      → IsCourse w past memory views t (course_of w past memory views t)
      × ((c : Course W) → IsCourse w past memory views t c → c ≡ course_of w past memory views t)

  -- the run is what its frames request, one after the other, and each read and each value is right
  pub record IsSerialRunFrom (w : W) (memory : Cell → ℤ) (views : Instance → V) (t : Run W) : Type 0 where
    pub behaves : Behaves W (follows next) w [] t
    pub framed : IsFramed begin_due t
    pub reads : IsSerial t memory
    pub values : IsSerialViews M t views

  -- There is at most one such run.
  abbrev pub SerialRunsAreOne : Type 0
  SerialRunsAreOne =
      (w : W) (memory : Cell → ℤ) (views : Instance → V) (t u : Run W) → IsSerialRunFrom w memory views t → IsSerialRunFrom w memory views u → t ≡ u

  -- On its own input a run is its own course, in which each event is requested.
  abbrev pub OwnCourse : Type 0
  OwnCourse = ((v : W) → same v v ≡ true) → (w : W) (memory : Cell → ℤ) (views : Instance → V) (t : Run W) → IsSerialRunFrom w memory views t
      → IsCourse w [] memory views t (all_asked t) × IsAskedThroughout (all_asked t) × (run_of (all_asked t) ≡ t)

  -- a frame requests nothing after its end
  abbrev pub IsOverWithItsEnd : Type 0
  IsOverWithItsEnd = (w : W) (past : List (Deed W)) (v : ℤ) (gone : List Instance) → next w (past ++ Does (Ends v gone) ∷ []) ≡ None

  -- If each event is requested, the course of a plan is a serial run of the program on the input,
  -- whatever the plan's own input.
  abbrev pub AskedCourseIsSerial : Type 0
  AskedCourseIsSerial = IsOverWithItsEnd → (w : W) (memory : Cell → ℤ) (views : Instance → V) (t : Run W) (c : Course W) → IsFramed begin_due t
      → IsCourse w [] memory views t c → IsAskedThroughout c → IsSerialRunFrom w memory views (run_of c)
