-- The state of a join box, at a sync block.
use Rattle.std.specs.Prelude.{◌≡◌, ◌<◌, ◌≤◌, ◌⊎◌, ℕ, nat_eq, nat_lt, Bool, true, false, if◌then◌else◌, List, [], ◌∷◌, Option, Some, None}
use Rattle.cilk_tree.specs.declared.event_order.EventOrder.{EventOrder}
use Rattle.cilk_tree.specs.Columns.{IsSpawnOf}
use Rattle.cilk_tree.specs.Word.{resume, word_step}
use Rattle.cilk_shared.specs.Pieces.{PieceValue}
use Rattle.cilk_replay.specs.Chains.{ChainValue}
use Rattle.cilk_replay.specs.Replays.{ReplayValue}
use Rattle.cilk_join.specs.AwaitedRows as awaited
use Rattle.cilk_workers.specs.Rows.{Run, RunValue, Wait, Rows, row, rows, placed_in, awaiting, end_in, is_empty, parts_in}

-- the rows; the replay of the run; the block's sync; the greatest stolen key and the greatest
-- arrived key, 0 where there is none; and whether the sync's own piece has arrived, as it has if
-- the block has passed
pub record BoxValue : Type 0 where
  pub rows : Rows
  pub replay : ReplayValue
  pub sync : ℕ
  pub stolen : ℕ
  pub arrived : ℕ
  pub closed : Bool

abbrev pub is_some : Option ChainValue → Bool
is_some None = false
is_some (Some c) = true

-- the chain that came, if one did
abbrev pub later : Option ChainValue → Option ChainValue → Option ChainValue
later c None = c
later c (Some d) = Some d

abbrev pub opening : RunValue → ReplayValue → ℕ → BoxValue
opening y c s = record { rows = rows y (row None []); replay = c; sync = s; stolen = 0; arrived = 0; closed = false }

-- the key is among the awaited ones
abbrev pub Stands : List Wait → ℕ → Type 0
Stands ws k = awaited.Stands (awaited.keys ws) k

abbrev pub IsAbsent : List Wait → ℕ → Type 0
IsAbsent [] k = Unit {0}
IsAbsent (w ∷ ws) k = (nat_eq w.key k ≡ false) × IsAbsent ws k

-- the flag says whether the key is awaited
abbrev pub IsAwaitedIf : Bool → List Wait → ℕ → Type 0
IsAwaitedIf true ws k = Stands ws k × (IsAbsent ws k → ⊥)
IsAwaitedIf false ws k = IsAbsent ws k × (Stands ws k → ⊥)

-- there is a run, and it ends at the position
abbrev pub IsUpTo : Run → ℕ → Type 0
IsUpTo None s = ⊥
IsUpTo (Some p) s = p.upto ≡ s

-- the row ends with a run, which ends at the position
abbrev pub Closes : Run → List Wait → ℕ → Type 0
Closes run [] s = IsUpTo run s
Closes run (w ∷ ws) s = Closes w.run ws s

-- the sync's chain, if it is there, is at the sync, where the last run ends
abbrev pub IsClosed : Rows → ReplayValue → ℕ → Option ChainValue → Type 0
IsClosed j u s None = Unit {0}
IsClosed j u s (Some c) = (c.of ≡ u) × (c.at ≡ s) × (let r = j.row in Closes r.run r.waits s)

-- whether the sync's own piece has arrived: it waits with its chain, or has passed
abbrev pub closed_by : Bool → Option ChainValue → Bool
closed_by true c = true
closed_by false c = is_some c

-- if the block has passed, no run, awaited key or chain is left
abbrev pub IsGone : Bool → Rows → Option ChainValue → Type 0
IsGone false j c = Unit {0}
IsGone true j c = (j.row ≡ row None []) × (c ≡ None)

-- no piece is there, and no key is awaited
abbrev pub IsUnused : BoxValue → Type 0
IsUnused j = (parts_in j.rows ≡ 0) × (let r = j.rows in let w = r.row in is_empty w.waits ≡ true)

-- k is above every stolen and every arrived key, and the sync's piece hasn't arrived
abbrev pub IsFresh : BoxValue → ℕ → Type 0
IsFresh j k = (j.closed ≡ false) × (j.stolen < k) × (j.arrived < k)

-- k may be stolen: it is above every stolen key and every other arrived key, and the sync's piece
-- hasn't arrived; and its parent continues at a, not before the end of the row
abbrev pub IsOpen : BoxValue → ℕ → ℕ → Type 0
IsOpen j k a = (j.closed ≡ false) × (j.stolen < k) × (j.arrived ≤ k) × (end_in j.rows ≤ a)

-- a child's piece arrives with an awaited or a fresh key; the sync's own piece arrives with its
-- chain and a fresh key, and ends at the sync
abbrev pub MayArrive : BoxValue → ℕ → PieceValue → Option ChainValue → Type 0
MayArrive j k x None = (let r = j.rows in let w = r.row in Stands w.waits k) ⊎ IsFresh j k
MayArrive j k x (Some c) = IsFresh j k × (let r = j.rows in let w = r.row in (c.of ≡ j.replay) × (c.at ≡ j.sync) × (x.upto ≡ j.sync) × IsAbsent w.waits k)

-- a child's piece ends right before the `resume` after its spawn, its key; the sync's own ends at its
-- key
abbrev pub EndsAtKey : EventOrder → ℕ → PieceValue → Bool → Type 0
EndsAtKey s k x false = word_step s x.upto ≡ resume k
EndsAtKey s k x true = x.upto ≡ k

-- the piece begins no later than the first spawn of the block that ends with the `sync` at q, and so
-- no later than any
abbrev pub BeginsByFirst : EventOrder → ℕ → PieceValue → Type 0
BeginsByFirst s q p = (k : ℕ) → IsSpawnOf s q k → p.from ≤ k

-- so does the first run of a row, if there is one
abbrev pub StartsByFirst : EventOrder → ℕ → Run → Type 0
StartsByFirst s q None = Unit {0}
StartsByFirst s q (Some p) = BeginsByFirst s q p

-- the piece has each spawn of the block that ends with the `sync` at q, up to that: it has every child
-- of the block whole
abbrev pub HoldsBlock : EventOrder → ℕ → PieceValue → Type 0
HoldsBlock s q p = BeginsByFirst s q p × (p.upto ≡ q)

-- the state after k is stolen: k is awaited, unless it has arrived
abbrev pub stolen_at : BoxValue → ℕ → ℕ → BoxValue
stolen_at j k a = record j { rows = if nat_eq j.arrived k then j.rows else awaiting j.rows k a; stolen = k }

-- the state after a piece has arrived
abbrev pub arrived_at : BoxValue → ℕ → PieceValue → Bool → BoxValue
arrived_at j k x last = record j { rows = placed_in j.rows k x; arrived = if nat_lt j.arrived k then k else j.arrived; closed = if last then true else j.closed }

abbrev pub is_there : Run → Bool
is_there None = false
is_there (Some p) = true

-- whether the sync's piece is there and no key is awaited
abbrev pub passes : BoxValue → Bool
passes j = if j.closed then (let r = j.rows in let w = r.row in if is_empty w.waits then is_there w.run else false) else false

-- the state after the one remaining run is moved out
abbrev pub passed : BoxValue → BoxValue
passed j = record j { rows = (let r = j.rows in rows r.of (row None [])) }

-- the same for the piece without its chain, as the code tests it
abbrev pub Comes : BoxValue → ℕ → PieceValue → Bool → Type 0
Comes j k x false = MayArrive j k x None
Comes j k x true = IsFresh j k × (let r = j.rows in let w = r.row in (x.upto ≡ j.sync) × IsAbsent w.waits k)
