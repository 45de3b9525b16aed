-- The view of a rack in contracts.
use Rattle.std.specs.Prelude.{◌≡◌, ◌⊎◌, ℕ, ◌+◌, ◌≤◌, Bool, true, false, List, [], ◌∷◌, ◌++◌, map, slice_get, slice_set, Some, All, Result, MatchResult}
use Rattle.crossbeam_deque.specs.Handles.{view, worker_deque, worker_view, worker_capacity, worker_index, stealer_deque}
use Rattle.cilk_replay.specs.declared.chain.Task.{Task}
use Rattle.cilk_workers.specs.declared.rack.Rack.{Rack}
use Rattle.cilk_workers.specs.declared.rack.Picker.{Picker}

-- one of several pickers has stolen this task besides what it stole before, and the others nothing
abbrev pub Steals : List (List Task) → Task → List (List Task) → Type 0
Steals before t after = (at : ℕ) × (its : List Task) × (slice_get before at ≡ Some its) × (after ≡ slice_set before at (its ++ t ∷ []))

module _ {N : Type 0} where
  -- the tasks that were offered and not given back, the oldest first
  abbrev pub waiting : Rack N → List Task
  waiting r = (worker_view r.worker).waiting

  -- no picker has been made
  abbrev pub IsAlone : Rack N → Type 0
  IsAlone r = (worker_view r.worker).alone ≡ true

  -- each task that waits is taken; if no picker has been made, none waits
  abbrev pub AreTaken : (Task → Type 0) → Rack N → Type 0
  AreTaken taken r = All taken (waiting r) × (IsAlone r → waiting r ≡ [])

  -- the number of offers that there is room for
  abbrev pub room : Rack N → ℕ
  room r = worker_capacity r.worker

  -- at most the number of offers so far
  abbrev pub offered : Rack N → ℕ
  offered r = worker_index r.worker

  -- the picker steals from the rack's deque
  abbrev pub IsPickerOf : Rack N → Picker N → Type 0
  IsPickerOf r p = stealer_deque p.stealer ≡ worker_deque r.worker

  -- the deque is the same, with no less room
  abbrev pub IsSameRack : Rack N → Rack N → Type 0
  IsSameRack r r' = (worker_deque r'.worker ≡ worker_deque r.worker) × (room r ≤ room r')

  -- a rack as it is made, with room for some tasks
  abbrev pub IsNewRack : ℕ → Rack N → Type 0
  IsNewRack first r = (waiting r ≡ []) × IsAlone r × (offered r ≡ 0) × (first ≤ room r)

  -- the flag says whether the task was pushed; if not, nothing is pushed and there is no room
  abbrev pub IsOfferedIf : Rack N → Task → Bool → Rack N → Type 0
  IsOfferedIf r t true r' = (waiting r' ≡ waiting r ++ t ∷ []) × (offered r' ≡ offered r + 1)
  IsOfferedIf r t false r' = (waiting r' ≡ waiting r) × (room r ≤ offered r)

  -- the task is pushed, or comes back if there is no room
  abbrev pub IsOffered : Rack N → Task → Result (Unit {0}) Task → Rack N → Type 0
  IsOffered r t result r' = MatchResult result
      (λ _. (waiting r' ≡ waiting r ++ t ∷ []) × (offered r' ≡ offered r + 1))
      (λ u. (u ≡ t) × (waiting r' ≡ waiting r) × (room r ≤ offered r))

  -- the tasks that a picker has stolen, the oldest first
  abbrev pub stolen : Picker N → List Task
  stolen p = let v = view p.pass in v.waiting

  -- the same of several pickers
  abbrev pub all_stolen : List (Picker N) → List (List Task)
  all_stolen ps = map stolen ps

  -- no task was taken
  abbrev pub TakesNone : Rack N → List (Picker N) → Rack N → List (Picker N) → Type 0
  TakesNone r ps r' ps' = (waiting r' ≡ waiting r) × (all_stolen ps' ≡ all_stolen ps)

  -- This task was taken, and no other: it was the rack's newest; or a picker stole it, and each task of the rack was taken.
  abbrev pub TakesOne : (Task → Type 0) → Rack N → List (Picker N) → Task → Rack N → List (Picker N) → Type 0
  TakesOne taken r ps t r' ps' =
      ((waiting r ≡ waiting r' ++ t ∷ []) × (all_stolen ps' ≡ all_stolen ps))
      ⊎ (AreTaken taken r × (waiting r' ≡ waiting r) × Steals (all_stolen ps) t (all_stolen ps'))
