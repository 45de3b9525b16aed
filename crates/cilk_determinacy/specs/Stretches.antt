-- The events that each piece covers, and its views: the serial run as a list of stretches.
use Rattle.std.specs.Prelude.{◌≡◌, ℕ, suc, ◌+◌, Bool, true, false, List, [], ◌∷◌, ◌++◌, length, replicate, Some, slice_get}
use Rattle.cilk_types.specs.declared.invocation.Invocation.TheVariants.{Call, Spawn}
use Rattle.cilk_types.specs.declared.invocation.Invocation.{Invocation}
use Rattle.cilk_monoid.specs.Laws.{MonoidStructure}
use Rattle.cilk_determinacy.specs.Runs.{Name, Instance, Reads, Writes, Syncs, Ends, Passes, Deed, Does, Invokes, Run, stop, act, child}
use Rattle.cilk_determinacy.specs.Machine.{Frames, State, deeds_at}
use Rattle.cilk_determinacy.specs.Cuts.{below}
use Rattle.cilk_determinacy.specs.Monoids.{on_view}
use Rattle.cilk_determinacy.specs.CutPositions.{made_at}
use Rattle.cilk_determinacy.specs.Traces.{trace}

-- a stretch of consecutive events: the piece of a frame covers them, or they aren't made
pub data Stretch : Type 0 where
  Held : (holder : List ℕ) → (events : ℕ) → Stretch
  Ahead : (events : ℕ) → Stretch

-- whether each event of these stretches is made
abbrev pub marks : List Stretch → List Bool
marks [] = []
marks (Held n e ∷ ss) = replicate e true ++ marks ss
marks (Ahead e ∷ ss) = replicate e false ++ marks ss

-- the number of events of a run
abbrev pub many : {W : Type 0} → Run W → ℕ
many stop = 0
many (act e r) = suc (many r)
many (child b w u r) = suc (many u + many r)

abbrev pub has_sync : {W : Type 0} → List (Deed W) → Bool
has_sync [] = false
has_sync (Does (Reads c v) ∷ ds) = has_sync ds
has_sync (Does (Writes c v) ∷ ds) = has_sync ds
has_sync (Does Syncs ∷ ds) = true
has_sync (Does (Ends v gone) ∷ ds) = has_sync ds
has_sync (Does (Passes m) ∷ ds) = has_sync ds
has_sync (Invokes k w ∷ ds) = has_sync ds

-- The frame has the child's piece back: it has resumed with it, or if the continuation was stolen,
-- a sync has multiplied it.
abbrev pub is_back : {W : Type 0} → Invocation → (stolen : Bool) → List (Deed W) → Bool
is_back Call stolen [] = false
is_back Call stolen (d ∷ ds) = true
is_back Spawn true ds = has_sync ds
is_back Spawn false [] = false
is_back Spawn false (d ∷ ds) = true

-- the stretches after a child's start: the frame's own stretch continues; or the child's come and
-- then the thief's; or nothing more is made
abbrev pub past : (back stolen : Bool) (on inner thief : List Stretch) (left : ℕ) → List Stretch
past true stolen on inner thief left = on
past false true on inner thief left = inner ++ thief
past false false on inner thief left = inner ++ Ahead left ∷ []

-- The stretches of the rest of a frame's run. Frame n still has these deeds, and its piece covers
-- `own` events up to here. A child continues its parent's stretch, and a thief begins an empty one.
abbrev pub stretches : {W : Type 0} → Run W → ℕ → List (Deed W) → (ℕ → Frames W) → (Name → Bool) → Name → ℕ → List Stretch
stretches stop k [] kids loose n own = Held n own ∷ Ahead 0 ∷ []
stretches stop k (d ∷ ds) kids loose n own = []
stretches (act e r) k [] kids loose n own = Held n own ∷ Ahead (suc (many r)) ∷ []
stretches (act e r) k (d ∷ ds) kids loose n own = stretches r k ds kids loose n (suc own)
stretches (child b w u r) k [] kids loose n own = Held n own ∷ Ahead (suc (many u + many r)) ∷ []
stretches (child b w u r) k (d ∷ ds) kids loose n own =
    past (is_back b (loose (k ∷ [])) ds) (loose (k ∷ [])) (stretches r (suc k) ds kids loose n (suc own + many u))
    (stretches u 1 (deeds_at (kids k [])) (below (kids k)) (λ m. loose (k ∷ m)) (n ++ k ∷ []) (suc own)) (stretches r (suc k) ds kids loose n 0) (many r)

-- the stretches of a state
abbrev pub covered : {W V : Type 0} → Run W → State W V → List Stretch
covered t s = stretches t 1 (deeds_at (s.frames [])) (below s.frames) s.stolen [] 0

-- Each piece covers at most one stretch of the serial run, without gaps. The stretches are
-- disjoint, and together they are the cut.
pub record AreStretches {W V : Type 0} (t : Run W) (s : State W V) : Type 0 where
  pub whole : marks (covered t s) ≡ made_at t 1 (deeds_at (s.frames [])) (below s.frames)
  pub one : (a b : ℕ) (n : Name) (x y : ℕ) → slice_get (covered t s) a ≡ Some (Held n x) → slice_get (covered t s) b ≡ Some (Held n y) → a ≡ b

-- instance i's view after these events, given its view before
abbrev pub view_along : {W V : Type 0} → MonoidStructure V → Instance → List (Deed W) → V → V
view_along M i [] v = v
view_along M i (Does e ∷ ds) v = view_along M i ds (on_view M i e v)
view_along M i (Invokes k w ∷ ds) v = view_along M i ds v

-- The events are those of the stretches, one after another. A frame that holds a stretch has in its
-- piece the view of that stretch alone, made from the unit by its events.
abbrev pub AreViewed : {W V : Type 0} → MonoidStructure V → Instance → (Name → V) → List Stretch → List (Deed W) → Type 0
AreViewed M i piece [] ds = ds ≡ []
AreViewed {W = W} M i piece (Held n many ∷ ss) ds =
    (own : List (Deed W)) × (rest : List (Deed W)) × (ds ≡ own ++ rest) × (length own ≡ many) × (piece n ≡ view_along M i own M.unit) × AreViewed M i piece ss rest
AreViewed {W = W} M i piece (Ahead many ∷ ss) ds =
    (own : List (Deed W)) × (rest : List (Deed W)) × (ds ≡ own ++ rest) × (length own ≡ many) × AreViewed M i piece ss rest

-- this holds for each reducer
abbrev pub PiecesAreViews : {W V : Type 0} → (Instance → MonoidStructure V) → Run W → State W V → Type 0
PiecesAreViews M t s = (i : Instance) → AreViewed (M i) i (λ n. s.piece n i) (covered t s) (trace t)
