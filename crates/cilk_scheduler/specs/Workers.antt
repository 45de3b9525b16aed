-- The workers of a scheduler.
use Rattle.std.specs.Prelude.{◌≡◌, ℕ, zero, suc, Bool, true, false, if◌then◌else◌, List, [], ◌∷◌, ◌++◌, slice_get, Option, Some, None}
use Rattle.std.specs.Option.{is_some}
use Rattle.cilk_hypermap.specs.declared.hypermap.Hypermap.{Hypermap}
use Rattle.cilk_scheduler.specs.declared.frame_state.Worker.{Worker}

-- the frame of a worker, if there is one
abbrev pub frame_in : Option Worker → Option ℕ
frame_in None = None
frame_in (Some u) = u.frame

abbrev pub is_free : Option Worker → Bool
is_free None = false
is_free (Some u) = if is_some u.frame then false else true

-- the index of the frame that a worker holds, by its number in choices, if it exists and isn't idle
abbrev pub held_by : List Worker → ℕ → Option ℕ
held_by ws zero = None
held_by ws (suc w) = frame_in (slice_get ws w)

-- the worker exists and is idle
abbrev pub is_idle : List Worker → ℕ → Bool
is_idle ws zero = false
is_idle ws (suc w) = is_free (slice_get ws w)

-- the frames whose continuations are offered, worker by worker, each worker's oldest first
abbrev pub offers : List Worker → List ℕ
offers [] = []
offers (u ∷ us) = (let o = u.offered in o.items) ++ offers us

-- the continuation at this index among all is at index `at` of the victim's list
abbrev pub IsLocated : List Worker → ℕ → ℕ → ℕ → Type 0
IsLocated ws place victim at = (u : Worker) × (k : ℕ) × (slice_get ws victim ≡ Some u) × (let o = u.offered in slice_get o.items at ≡ Some k) × (slice_get (offers ws) place ≡ Some k)

-- worker w has other views
abbrev pub viewing : Hypermap → List Worker → ℕ → List Worker
viewing h [] w = []
viewing h (u ∷ us) zero = record u { views = h } ∷ us
viewing h (u ∷ us) (suc w) = u ∷ viewing h us w

-- worker w changes
abbrev pub altered : (Worker → Worker) → List Worker → ℕ → List Worker
altered f [] w = []
altered f (u ∷ us) zero = f u ∷ us
altered f (u ∷ us) (suc w) = u ∷ altered f us w

-- it holds this frame, with these views
abbrev pub holding : ℕ → Hypermap → Worker → Worker
holding k views u = record u { frame = Some k; views = views }
