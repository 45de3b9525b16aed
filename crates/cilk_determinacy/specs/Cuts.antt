-- Consistent cuts of a serial run, as states of the free machine (consistent cuts: Chandy and
-- Lamport 1985).
use Rattle.std.specs.Prelude.{◌+◌, cond, nat_eq, ◌≡◌, ℕ, suc, ℤ, ◌≤◌, Bool, true, false, List, [], ◌∷◌, ◌++◌, Option, Some, None}
use Rattle.cilk_types.specs.declared.invocation.Invocation.{Invocation}
use Rattle.cilk_types.specs.declared.invocation.Invocation.TheVariants.{Call, Spawn}
use Rattle.cilk_determinacy.specs.Runs.{Name, same_name, Cell, Instance, Event, Reads, Writes, Syncs, Ends, Passes, Deed, Does, Invokes, Run, stop, act, child, Invoke, ask_of}
use Rattle.cilk_determinacy.specs.Costs.{Costs, Total, cost}
use Rattle.cilk_determinacy.specs.Serial.{own_deeds, run_in}
use Rattle.cilk_monoid.specs.Laws.{MonoidStructure}
use Rattle.cilk_determinacy.specs.Monoids.{unit_of, on_view}
use Rattle.cilk_determinacy.specs.Machine.{Frame, Frames, State, deeds_at, HasSync, put}

-- the frames below each child of a frame, by the child's ordinal
abbrev pub below : {W : Type 0} → Frames W → ℕ → Frames W
below frames k n = frames (k ∷ n)

-- the frame exists and was started as w
abbrev pub IsAs : {W : Type 0} → W → Option (Frame W) → Type 0
IsAs w None = ⊥
IsAs w (Some f) = f.what ≡ w

-- the frame exists and was started as w, and its children are counted from 1
abbrev pub IsStarted : {W : Type 0} → W → Frames W → Type 0
IsStarted w frames = IsAs w (frames []) × ((n : Name) → frames (0 ∷ n) ≡ None)

-- the frame has made each event of the run, and so have the frames in it
abbrev pub IsFull : {W : Type 0} → Run W → ℕ → List (Deed W) → (ℕ → Frames W) → Type 0
IsFull stop k [] kids = Unit {0}
IsFull stop k (d ∷ ds) kids = ⊥
IsFull (act e r) k [] kids = ⊥
IsFull (act e r) k (d ∷ ds) kids = IsFull r k ds kids
IsFull (child i w u r) k [] kids = ⊥
IsFull (child i w u r) k (d ∷ ds) kids = IsFull u 1 (deeds_at (kids k [])) (below (kids k)) × IsFull r (suc k) ds kids

-- the child must have ended: a called child once there is a later deed, a spawned one once there is
-- a later sync
abbrev pub IsPast : {W : Type 0} → Invocation → List (Deed W) → Type 0
IsPast Call [] = ⊥
IsPast Call (d ∷ ds) = Unit {0}
IsPast Spawn ds = HasSync ds

-- there is no child with this ordinal or a later one
abbrev pub NoneFrom : {W : Type 0} → ℕ → (ℕ → Frames W) → Type 0
NoneFrom k kids = (j : ℕ) → k ≤ j → (n : Name) → kids j n ≡ None

-- A frame's deeds are a prefix of its run, and so are those of each frame that it started; no other
-- frame exists. If an event is made, everything before it (in series with it) is made.
abbrev pub IsCut : {W : Type 0} → Run W → ℕ → List (Deed W) → (ℕ → Frames W) → Type 0
IsCut stop k [] kids = NoneFrom k kids
IsCut stop k (d ∷ ds) kids = ⊥
IsCut (act e r) k [] kids = NoneFrom k kids
IsCut (act e r) k (d ∷ ds) kids = (d ≡ Does e) × IsCut r k ds kids
IsCut (child i w u r) k [] kids = NoneFrom k kids
IsCut (child i w u r) k (d ∷ ds) kids =
    (d ≡ Invokes i w)
    × IsStarted w (kids k)
    × IsCut u 1 (deeds_at (kids k [])) (below (kids k))
    × (IsPast i ds → IsFull u 1 (deeds_at (kids k [])) (below (kids k)))
    × IsCut r (suc k) ds kids

-- the first list is a prefix of the second
abbrev pub Begins : {A : Type 0} → List A → List A → Type 0
Begins {A = A} xs ys = (rest : List A) × (xs ++ rest ≡ ys)

-- frame n is one of the run's, and its deeds are a prefix of those in the run
abbrev pub BeginsSerially : {W : Type 0} → Run W → Frames W → Name → Type 0
BeginsSerially {W = W} t frames n = (f : Frame W) → frames n ≡ Some f → (u : Run W) × (run_in (Some t) n ≡ Some u) × Begins f.deeds (own_deeds u)

-- a cell's value after the events made, in serial order, given its value before
abbrev pub made : {W : Type 0} → Run W → ℕ → List (Deed W) → (ℕ → Frames W) → Cell → ℤ → ℤ
made stop k ds kids c x = x
made (act e r) k [] kids c x = x
made (act e r) k (d ∷ ds) kids c x = made r k ds kids c (put e c x)
made (child i w u r) k [] kids c x = x
made (child i w u r) k (d ∷ ds) kids c x = made r (suc k) ds kids c (made u 1 (deeds_at (kids k [])) (below (kids k)) c x)

-- what the events made add to a total, for a frame started as w with this history
abbrev pub spent : {W : Type 0} → Costs W → Total → W → List (Deed W) → Run W → ℕ → List (Deed W) → (ℕ → Frames W) → ℕ
spent C total w past stop k ds kids = 0
spent C total w past (act e r) k [] kids = 0
spent C total w past (act e r) k (d ∷ ds) kids = cost C total w past (ask_of e) + spent C total w (past ++ Does e ∷ []) r k ds kids
spent C total w past (child i v u r) k [] kids = 0
spent C total w past (child i v u r) k (d ∷ ds) kids =
    cost C total w past (Invoke i v) + (spent C total v [] u 1 (deeds_at (kids k [])) (below (kids k)) + spent C total w (past ++ Invokes i v ∷ []) r (suc k) ds kids)

-- no continuation with this ordinal or a later one is stolen
abbrev pub NoneStolen : ℕ → (Name → Bool) → Type 0
NoneStolen k loose = (j : ℕ) → k ≤ j → (n : Name) → loose (j ∷ n) ≡ false

-- X once there is a later deed; before that, no later continuation is stolen
abbrev pub WhenResumed : {W : Type 0} → ℕ → (Name → Bool) → List (Deed W) → Type 0 → Type 0
WhenResumed k loose [] X = NoneStolen k loose
WhenResumed k loose (d ∷ ds) X = X

-- the first if the continuation was stolen, else the second
abbrev pub WhenStolen : Bool → Type 0 → Type 0 → Type 0
WhenStolen true X Y = X
WhenStolen false X Y = Y

-- the product of the frame's block after an event
abbrev pub block_after : {V : Type 0} → MonoidStructure V → Event → V → V
block_after M (Reads c n) acc = acc
block_after M (Writes c n) acc = acc
block_after M Syncs acc = M.unit
block_after M (Ends val gone) acc = acc
block_after M (Passes m) acc = acc

-- the frame's own view after an event, given its block's product
abbrev pub own_after : {V : Type 0} → MonoidStructure V → Instance → Event → V → V → V
own_after M i (Reads c n) acc p = p
own_after M i (Writes c n) acc p = p
own_after M i Syncs acc p = M.combine acc p
own_after M i (Ends val gone) acc p = on_view M i (Ends val gone) p
own_after M i (Passes m) acc p = on_view M i (Passes m) p

-- Each piece's view of instance i is that of the events that it covers. The frame began with view
-- p, acc is the product of its block, root is its own view now, and pcs are those of the frames
-- below it. A child begins with its parent's piece. If its continuation was stolen, the
-- continuation starts from the unit, and the child's piece goes to the block. Otherwise the frame
-- continues with the child's piece once the child has ended.
abbrev pub Lies : {W V : Type 0} → MonoidStructure V → Instance → Run W → ℕ → List (Deed W) → (ℕ → Frames W) → (Name → Bool) → (Name → V) → V → V → V → Type 0
Lies M i stop k [] kids loose pcs acc p root = (root ≡ p) × NoneStolen k loose
Lies M i stop k (d ∷ ds) kids loose pcs acc p root = ⊥
Lies M i (act e r) k [] kids loose pcs acc p root = (root ≡ p) × NoneStolen k loose
Lies M i (act e r) k (d ∷ ds) kids loose pcs acc p root = Lies M i r k ds kids loose pcs (block_after M e acc) (own_after M i e acc p) root
Lies M i (child b w u r) k [] kids loose pcs acc p root = (root ≡ p) × NoneStolen k loose
Lies M i (child Call w u r) k (d ∷ ds) kids loose pcs acc p root =
    (loose (k ∷ []) ≡ false)
    × Lies M i u 1 (deeds_at (kids k [])) (below (kids k)) (λ n. loose (k ∷ n)) (λ n. pcs (k ∷ n)) M.unit p (pcs (k ∷ []))
    × WhenResumed (suc k) loose ds (Lies M i r (suc k) ds kids loose pcs acc (pcs (k ∷ [])) root)
Lies M i (child Spawn w u r) k (d ∷ ds) kids loose pcs acc p root =
    Lies M i u 1 (deeds_at (kids k [])) (below (kids k)) (λ n. loose (k ∷ n)) (λ n. pcs (k ∷ n)) M.unit p (pcs (k ∷ []))
    × WhenStolen (loose (k ∷ []))
    (Lies M i r (suc k) ds kids loose pcs (M.combine acc (pcs (k ∷ []))) M.unit root)
    (WhenResumed (suc k) loose ds (IsFull u 1 (deeds_at (kids k [])) (below (kids k)) × Lies M i r (suc k) ds kids loose pcs acc (pcs (k ∷ [])) root))

-- the number of times a name is in a list
abbrev pub times : Name → List Name → ℕ
times m [] = 0
times m (n ∷ ns) = cond (same_name n m) 1 0 + times m ns

-- 1 if there is a sync, else 0
abbrev pub sync_bit : {W : Type 0} → List (Deed W) → ℕ
sync_bit [] = 0
sync_bit (Does (Reads c v) ∷ ds) = sync_bit ds
sync_bit (Does (Writes c v) ∷ ds) = sync_bit ds
sync_bit (Does Syncs ∷ ds) = 1
sync_bit (Does (Ends val gone) ∷ ds) = sync_bit ds
sync_bit (Does (Passes m) ∷ ds) = sync_bit ds
sync_bit (Invokes k w ∷ ds) = sync_bit ds

-- the number for a spawn, 0 for a call
abbrev pub spawn_bit : Invocation → ℕ → ℕ
spawn_bit Call n = 0
spawn_bit Spawn n = n

-- 1 if child k, counted from z, was spawned and its block's sync is made, else 0
abbrev pub joined_at : {W : Type 0} → ℕ → ℕ → List (Deed W) → ℕ
joined_at z k [] = 0
joined_at z k (Does e ∷ ds) = joined_at z k ds
joined_at z k (Invokes b w ∷ ds) = cond (nat_eq z k) (spawn_bit b (sync_bit ds)) (joined_at (suc z) k ds)

-- the same by name
abbrev pub joined : {W : Type 0} → Frames W → Name → ℕ
joined frames [] = 0
joined frames (k ∷ []) = joined_at 1 k (deeds_at (frames []))
joined frames (j ∷ k ∷ n) = joined (below frames j) (k ∷ n)

-- 1 if the name is that of a spawned child, else 0
abbrev pub spawned_at : {W : Type 0} → ℕ → ℕ → List (Deed W) → ℕ
spawned_at z k [] = 0
spawned_at z k (Does e ∷ ds) = spawned_at z k ds
spawned_at z k (Invokes b w ∷ ds) = cond (nat_eq z k) (spawn_bit b 1) (spawned_at (suc z) k ds)

-- the same by name
abbrev pub spawned : {W : Type 0} → Frames W → Name → ℕ
spawned frames [] = 0
spawned frames (k ∷ []) = spawned_at 1 k (deeds_at (frames []))
spawned frames (j ∷ k ∷ n) = spawned (below frames j) (k ∷ n)

-- the state is a consistent cut of the run
pub record IsConsistent {W V : Type 0} (M : Instance → MonoidStructure V) (C : Costs W) (w : W) (t : Run W) (opening : Cell → ℤ) (s : State W V) : Type 0 where
  pub root : IsStarted w s.frames
  pub cut : IsCut t 1 (deeds_at (s.frames [])) (below s.frames)
  pub memory : (c : Cell) → s.memory c ≡ made t 1 (deeds_at (s.frames [])) (below s.frames) c (opening c)
  pub pieces : (i : Instance) → Lies (M i) i t 1 (deeds_at (s.frames [])) (below s.frames) s.stolen (λ n. s.piece n i) (unit_of M i) (unit_of M i) (s.piece [] i)
  pub joins : (m : Name) → times m s.joins ≡ joined s.frames m
  pub totals : (total : Total) → s.totals total ≡ C.used total + spent C total w [] t 1 (deeds_at (s.frames [])) (below s.frames)
  pub no_stop : s.stopped ≡ None
