-- The free machine: any frame that isn't waiting may make its next event at any moment. Steals are
-- those of Frigo, Leiserson and Randall (1998), views those of Frigo, Halpern, Leiserson and
-- Lewin-Berlin (2009).
use Rattle.std.specs.Prelude.{◌≡◌, ℕ, suc, ◌+◌, nat_eq, ℤ, Bool, true, false, cond, List, [], ◌∷◌, ◌++◌, Option, Some, None, ◌⊎◌}
use Rattle.cilk_types.specs.declared.invocation.Invocation.TheVariants.{Call, Spawn}
use Rattle.cilk_determinacy.specs.Runs.{Name, same_name, Cell, same_cell, Instance, Ask, Read, Write, Invoke, Sync, End, Pass, Fail, Wish, Begin, Resume, Create, Update, Set, Value, Print, Granted, Begins, Resumes, Creates, Updates, Sets, Values, Prints, Event, Reads, Writes, Syncs, Ends, Passes, Deed, Does, Invokes}
use Rattle.cilk_types.specs.declared.fault.Fault.{Fault}
use Rattle.cilk_determinacy.specs.Costs.{Costs, Total, cost, fault_of}
use Rattle.cilk_monoid.specs.Laws.{MonoidStructure}
use Rattle.cilk_determinacy.specs.Monoids.{unit_of, numbers_of, on_view}

-- a frame: what it was started as, and what it has done
pub record Frame (W : Type 0) : Type 0 where
  pub what : W
  pub deeds : List (Deed W)

-- the frames by name
abbrev pub Frames : Type 0 → Type 0
Frames W = Name → Option (Frame W)

-- where and why a run stopped; the strand is given by its frame and its number among the frame's
-- strands, from 1
pub record Stop : Type 0 where
  pub frame : Name
  pub strand : ℕ
  pub fault : Fault

-- A state of the machine. The continuation of a spawn is named by the spawned child.
pub record State (W V : Type 0) : Type 0 where
  pub frames : Frames W
  pub stolen : Name → Bool
  pub memory : Cell → ℤ
  pub piece : Name → Instance → V  -- the views of the piece that a frame holds, or has left where it ended
  pub joins : List Name
  pub totals : Total → ℕ
  pub stopped : Option Stop

-- the deeds of a frame, none if it doesn't exist
abbrev pub deeds_at : {W : Type 0} → Option (Frame W) → List (Deed W)
deeds_at None = []
deeds_at (Some f) = f.deeds

-- the frame has ended
abbrev pub HasEnd : {W : Type 0} → List (Deed W) → Type 0
HasEnd [] = ⊥
HasEnd (Does (Reads c v) ∷ ds) = HasEnd ds
HasEnd (Does (Writes c v) ∷ ds) = HasEnd ds
HasEnd (Does Syncs ∷ ds) = HasEnd ds
HasEnd (Does (Ends val gone) ∷ ds) = Unit {0}
HasEnd (Does (Passes m) ∷ ds) = HasEnd ds
HasEnd (Invokes k w ∷ ds) = HasEnd ds

-- the frame has made a sync
abbrev pub HasSync : {W : Type 0} → List (Deed W) → Type 0
HasSync [] = ⊥
HasSync (Does (Reads c v) ∷ ds) = HasSync ds
HasSync (Does (Writes c v) ∷ ds) = HasSync ds
HasSync (Does Syncs ∷ ds) = Unit {0}
HasSync (Does (Ends val gone) ∷ ds) = HasSync ds
HasSync (Does (Passes m) ∷ ds) = HasSync ds
HasSync (Invokes k w ∷ ds) = HasSync ds

-- the number of children started, which is the ordinal of the last
abbrev pub started : {W : Type 0} → List (Deed W) → ℕ
started [] = 0
started (Does e ∷ ds) = started ds
started (Invokes k w ∷ ds) = suc (started ds)

-- The frame isn't waiting and may make its next ask; kid gives its children and loose the stolen
-- continuations, by ordinal. A frame waits after a call for the child's end, after a spawn for the
-- child's end or a thief, and at a sync for the end of each child spawned in the block.
abbrev pub Ready : {W : Type 0} → (ℕ → Option (Frame W)) → (ℕ → Bool) → Ask W → ℕ → List (Deed W) → Type 0
Ready kid loose a k [] = Unit {0}
Ready kid loose a k (Does e ∷ ds) = Ready kid loose a k ds
Ready kid loose a k (Invokes Call w ∷ ds) = (ds ≡ [] → HasEnd (deeds_at (kid k))) × Ready kid loose a (suc k) ds
Ready kid loose a k (Invokes Spawn w ∷ ds) =
    (ds ≡ [] → HasEnd (deeds_at (kid k)) ⊎ (loose k ≡ true)) × (a ≡ Sync → ¬ (HasSync ds) → HasEnd (deeds_at (kid k))) × Ready kid loose a (suc k) ds

-- an event that begins a strand of its frame: the frame's begin, a resume, a sync
abbrev pub begins_strand : Event → Bool
begins_strand (Reads c v) = false
begins_strand (Writes c v) = false
begins_strand Syncs = true
begins_strand (Ends v gone) = false
begins_strand (Passes Begins) = true
begins_strand (Passes Resumes) = true
begins_strand (Passes (Creates i)) = false
begins_strand (Passes (Updates i v)) = false
begins_strand (Passes (Sets i v)) = false
begins_strand (Passes (Values i v)) = false
begins_strand (Passes (Prints v)) = false

-- the number of strands begun
abbrev pub strands : {W : Type 0} → List (Deed W) → ℕ
strands [] = 0
strands (Does e ∷ ds) = cond (begins_strand e) (suc (strands ds)) (strands ds)
strands (Invokes k w ∷ ds) = strands ds

-- the latest strand begun; the first before the frame's begin
abbrev pub strand_of : {W : Type 0} → List (Deed W) → ℕ
strand_of ds = cond (nat_eq (strands ds) 0) 1 (strands ds)

-- the answer to a wish, given the numbers of the views
abbrev pub mark_of : (Instance → ℤ) → Wish → Granted
mark_of number Begin = Begins
mark_of number Resume = Resumes
mark_of number (Create i) = Creates i
mark_of number (Update i x) = Updates i x
mark_of number (Set i x) = Sets i x
mark_of number (Value i) = Values i (number i)
mark_of number (Print x) = Prints x

-- The deed of an ask, given the memory and the numbers of the views. The deed of a fault is never
-- used, since a fault stops the run.
abbrev pub deed_of : {W : Type 0} → (Cell → ℤ) → (Instance → ℤ) → Ask W → Deed W
deed_of memory number (Read c) = Does (Reads c (memory c))
deed_of memory number (Write c v) = Does (Writes c v)
deed_of memory number (Invoke k w) = Invokes k w
deed_of memory number Sync = Does Syncs
deed_of memory number (End v gone) = Does (Ends v gone)
deed_of memory number (Pass a) = Does (Passes (mark_of number a))
deed_of memory number (Fail n) = Does (Passes Begins)

-- a cell's value after an event, given its value x before
abbrev pub put : Event → Cell → ℤ → ℤ
put (Reads c v) at x = x
put (Writes c v) at x = cond (same_cell c at) v x
put Syncs at x = x
put (Ends val gone) at x = x
put (Passes m) at x = x

-- a cell's value after a deed, given its value x before
abbrev pub effect : {W : Type 0} → Deed W → Cell → ℤ → ℤ
effect (Does e) at x = put e at x
effect (Invokes k w) at x = x

-- the frames with one of them replaced
abbrev pub with_frame : {W : Type 0} → Frames W → Name → Frame W → Frames W
with_frame frames n f = λ m. cond (same_name n m) (Some f) (frames m)

-- a frame that has done nothing yet
abbrev pub begun : {W : Type 0} → W → Frame W
begun w = record { what = w; deeds = [] }

-- the frames after one more deed of frame n
abbrev pub after_deed : {W : Type 0} → Frames W → Name → Frame W → Deed W → Frames W
after_deed frames n f (Does e) = with_frame frames n (record f { deeds = f.deeds ++ Does e ∷ [] })
after_deed frames n f (Invokes k w) =
    with_frame (with_frame frames n (record f { deeds = f.deeds ++ Invokes k w ∷ [] })) (n ++ suc (started f.deeds) ∷ []) (begun w)

-- the ordinals of the children spawned in the block that is open after the deeds
abbrev pub open_block : {W : Type 0} → ℕ → List ℕ → List (Deed W) → List ℕ
open_block k block [] = block
open_block k block (Does (Reads c v) ∷ ds) = open_block k block ds
open_block k block (Does (Writes c v) ∷ ds) = open_block k block ds
open_block k block (Does Syncs ∷ ds) = open_block k [] ds
open_block k block (Does (Ends val gone) ∷ ds) = open_block k block ds
open_block k block (Does (Passes m) ∷ ds) = open_block k block ds
open_block k block (Invokes Call w ∷ ds) = open_block (suc k) block ds
open_block k block (Invokes Spawn w ∷ ds) = open_block (suc k) (block ++ k ∷ []) ds

-- the names of the children of these ordinals
abbrev pub children : Name → List ℕ → List Name
children n [] = []
children n (k ∷ ks) = (n ++ k ∷ []) ∷ children n ks

-- the children joined by this ask: those of the open block, at a sync
abbrev pub joined_by : {W : Type 0} → Ask W → Name → List (Deed W) → List Name
joined_by (Read c) n ds = []
joined_by (Write c v) n ds = []
joined_by (Invoke k w) n ds = []
joined_by Sync n ds = children n (open_block 1 [] ds)
joined_by (End v gone) n ds = []
joined_by (Pass m) n ds = []
joined_by (Fail m) n ds = []

-- The product of the pieces of the open block's stolen children, in order of their ordinals.
abbrev pub block_view : {W V : Type 0} → MonoidStructure V → (ℕ → V) → (ℕ → Bool) → V → ℕ → List (Deed W) → V
block_view M kid loose acc k [] = acc
block_view M kid loose acc k (Does (Reads c v) ∷ ds) = block_view M kid loose acc k ds
block_view M kid loose acc k (Does (Writes c v) ∷ ds) = block_view M kid loose acc k ds
block_view M kid loose acc k (Does Syncs ∷ ds) = block_view M kid loose M.unit k ds
block_view M kid loose acc k (Does (Ends val gone) ∷ ds) = block_view M kid loose acc k ds
block_view M kid loose acc k (Does (Passes m) ∷ ds) = block_view M kid loose acc k ds
block_view M kid loose acc k (Invokes Call w ∷ ds) = block_view M kid loose acc (suc k) ds
block_view M kid loose acc k (Invokes Spawn w ∷ ds) = block_view M kid loose (cond (loose k) (M.combine acc (kid k)) acc) (suc k) ds

-- A frame's view of one instance after its event, given the block's product, and the last child's
-- flag and view. A resume takes over the child's piece, unless the continuation was stolen with an
-- empty one.
abbrev pub own_view : {V : Type 0} → MonoidStructure V → Instance → V → Bool → V → Event → V → V
own_view M i block loose last (Reads c n) v = v
own_view M i block loose last (Writes c n) v = v
own_view M i block loose last Syncs v = M.combine block v
own_view M i block loose last (Ends val gone) v = on_view M i (Ends val gone) v
own_view M i block loose last (Passes Begins) v = v
own_view M i block loose last (Passes Resumes) v = cond loose v last
own_view M i block loose last (Passes (Creates j)) v = on_view M i (Passes (Creates j)) v
own_view M i block loose last (Passes (Updates j x)) v = on_view M i (Passes (Updates j x)) v
own_view M i block loose last (Passes (Sets j x)) v = on_view M i (Passes (Sets j x)) v
own_view M i block loose last (Passes (Values j n)) v = v
own_view M i block loose last (Passes (Prints x)) v = on_view M i (Passes (Prints x)) v

-- the views with that of one frame replaced
abbrev pub with_view : {V : Type 0} → (Name → V) → Name → V → Name → V
with_view views n v m = cond (same_name n m) v (views m)

-- one instance's views after one more deed of frame n. A child begins with its parent's piece.
abbrev pub after_views : {W V : Type 0} → MonoidStructure V → Instance → (Name → Bool) → Name → List (Deed W) → Deed W → (Name → V) → Name → V
after_views M i stolen n ds (Does e) views =
    with_view views n (own_view M i (block_view M (λ k. views (n ++ k ∷ [])) (λ k. stolen (n ++ k ∷ [])) M.unit 1 ds) (stolen (n ++ started ds ∷ [])) (views (n ++ started ds ∷ [])) e (views n))
after_views M i stolen n ds (Invokes k w) views = with_view views (n ++ suc (started ds) ∷ []) (views n)

module _ (W V : Type 0) (M : Instance → MonoidStructure V) (Next : W → List (Deed W) → Ask W → Type 0) (C : Costs W) where
  -- frame n isn't waiting, and this is its next ask
  pub record IsAsking (s : State W V) (n : Name) (frame : Frame W) (ask : Ask W) : Type 0 where
    pub here : s.frames n ≡ Some frame
    pub next : Next frame.what frame.deeds ask
    pub ready : Ready (λ k. s.frames (n ++ k ∷ [])) (λ k. s.stolen (n ++ k ∷ [])) ask 1 frame.deeds

  -- frame n makes its next event
  pub record Makes (s : State W V) (n : Name) (s' : State W V) : Type 0 where
    pub frame : Frame W
    pub ask : Ask W
    pub asking : IsAsking s n frame ask
    pub within : fault_of C s.totals frame.what frame.deeds ask ≡ None
    pub frames : s'.frames ≡ after_deed s.frames n frame (deed_of s.memory (numbers_of M (s.piece n)) ask)
    pub memory : s'.memory ≡ (λ c. effect (deed_of s.memory (numbers_of M (s.piece n)) ask) c (s.memory c))
    pub stolen : s'.stolen ≡ s.stolen
    pub piece : (i : Instance) (m : Name) → s'.piece m i ≡ after_views (M i) i s.stolen n frame.deeds (deed_of s.memory (numbers_of M (s.piece n)) ask) (λ z. s.piece z i) m
    pub joins : s'.joins ≡ joined_by ask n frame.deeds ++ s.joins
    pub totals : (total : Total) → s'.totals total ≡ s.totals total + cost C total frame.what frame.deeds ask
    pub stopped : s'.stopped ≡ s.stopped

  -- a thief steals the continuation of frame n's last spawn
  pub record Steals (s : State W V) (n : Name) (s' : State W V) : Type 0 where
    pub frame : Frame W
    pub before : List (Deed W)
    pub what : W
    pub here : s.frames n ≡ Some frame
    pub spawned : frame.deeds ≡ before ++ Invokes Spawn what ∷ []
    pub not_yet : s.stolen (n ++ suc (started before) ∷ []) ≡ false
    pub frames : s'.frames ≡ s.frames
    pub memory : s'.memory ≡ s.memory
    pub stolen : s'.stolen ≡ (λ m. cond (same_name (n ++ suc (started before) ∷ []) m) true (s.stolen m))
    pub piece : (i : Instance) (m : Name) → s'.piece m i ≡ with_view (λ z. s.piece z i) n (unit_of M i) m
    pub joins : s'.joins ≡ s.joins
    pub totals : s'.totals ≡ s.totals
    pub stopped : s'.stopped ≡ s.stopped

  -- frame n's next ask is a fault, or would exceed a limit
  pub record Stops (s : State W V) (n : Name) (s' : State W V) : Type 0 where
    pub frame : Frame W
    pub ask : Ask W
    pub fault : Fault
    pub asking : IsAsking s n frame ask
    pub why : fault_of C s.totals frame.what frame.deeds ask ≡ Some fault
    pub after : s' ≡ record s { stopped = Some (record { frame = n; strand = strand_of frame.deeds; fault = fault }) }

  -- one step; a stopped run makes none
  abbrev pub Step : State W V → Name → State W V → Type 0
  Step s n s' = (s.stopped ≡ None) × (Makes s n s' ⊎ (Steals s n s' ⊎ Stops s n s'))

  -- a list of steps, by the frames that make them
  abbrev pub Steps : List Name → State W V → State W V → Type 0
  Steps [] s s' = s' ≡ s
  Steps (n ∷ ns) s s' = (mid : State W V) × Step s n mid × Steps ns mid s'

  -- only the root exists and it has done nothing; cells have their opening values; nothing is
  -- stolen, joined or stopped
  abbrev pub IsOpening : W → (Cell → ℤ) → State W V → Type 0
  IsOpening w opening s =
      ((n : Name) → s.frames n ≡ cond (same_name [] n) (Some (begun w)) None) × (s.memory ≡ opening) × (s.joins ≡ []) × (s.stopped ≡ None) × ((n : Name) → s.stolen n ≡ false) × ((i : Instance) → s.piece [] i ≡ unit_of M i) × ((total : Total) → s.totals total ≡ C.used total)
