-- The rule of a rack. Its tasks belong to one run. They are the last of those that its owner has
-- offered and not got back; pickers have taken the others.
use Rattle.std.specs.Prelude.{◌≡◌, ℕ, Bool, true, List, [], ◌++◌, All}
use mathlib.Core.Option.{some}
use lib.ListN.{get_elem?}
use Rattle.cilk_replay.specs.Replays.{ReplayValue}
use Rattle.cilk_replay.specs.declared.chain.Task.{Task}
use Rattle.cilk_workers.specs.declared.rack.Offers.{Offers}

abbrev pub Of : (ReplayValue → Type 0) → Task → Type 0
Of replay t = replay t.of

-- the right to take tasks: the fact of taken tasks may be said of any task
abbrev pub MayPick : (Task → Type 0) → Type 0
MayPick taken = (t : Task) → taken t

abbrev pub offers : Bool → Bool → List Task → Offers
offers owner alone waiting = record { owner = owner; alone = alone; waiting = waiting }

-- no pass but the owner's
abbrev pub IsOnly : List Offers → Type 0
IsOnly views = (port : ℕ) (v : Offers) → get_elem? views port ≡ some v → port ≡ 0

-- the deque's tasks are the last of the owner's, and those before them are taken; if no picker has
-- been made, they are all of the owner's
abbrev pub Fits : (Task → Type 0) → List Task → List Offers → Offers → Type 0
Fits taken items views v =
    (front : List Task) × (v.waiting ≡ front ++ items) × All taken front × (v.alone ≡ true → (front ≡ []) × IsOnly views)

abbrev pub Racked : (ReplayValue → Type 0) → (Task → Type 0) → List Task → List Offers → Type 0
Racked y taken items views =
    All (Of y) items × ((port : ℕ) (v : Offers) → get_elem? views port ≡ some v → v.owner ≡ true → (port ≡ 0) × Fits taken items views v)
