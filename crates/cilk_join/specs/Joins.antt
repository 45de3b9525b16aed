-- The state of a join: the awaited keys, and the product of each run of arrived keys with no
-- awaited key between.
use Rattle.std.specs.Prelude.{◌≡◌, ◌<◌, ◌≤◌, ℕ, nat_eq, nat_lt, Bool, true, false, ◌⊎◌, if◌then◌else◌, [], ◌∷◌, ◌++◌, Some, None}
use Rattle.cilk_join.specs.declared.join.Arrival.{Arrival}
use Rattle.cilk_join.specs.declared.join.Arrival.TheVariants.{Waits, Passes}
use Rattle.cilk_join.specs.Rows.{Row, row, wait, keys, Stands, placed, is_empty, parts_of}
use Rattle.cilk_join.specs.Products.{Product, product, nothing, times}

-- The row; the greatest stolen key and the greatest arrived key, 0 where there is none; and whether
-- the sync's own piece has arrived.
pub record JoinView : Type 0 where
  pub row : Row Product
  pub stolen : ℕ
  pub arrived : ℕ
  pub closed : Bool

abbrev pub opening : JoinView
opening = record { row = row None []; stolen = 0; arrived = 0; closed = false }

-- k is above every stolen and every arrived key, and the sync's piece hasn't arrived
abbrev pub IsFresh : JoinView → ℕ → Type 0
IsFresh j k = (j.closed ≡ false) × (j.stolen < k) × (j.arrived < k)

-- k may be stolen: it is above every stolen key and every other arrived key, and the sync's piece
-- hasn't arrived
abbrev pub IsOpen : JoinView → ℕ → Type 0
IsOpen j k = (j.closed ≡ false) × (j.stolen < k) × (j.arrived ≤ k)

-- the piece of the stolen child with this key is still to come
abbrev pub IsAwaited : JoinView → ℕ → Type 0
IsAwaited j k = let r = j.row in Stands (keys r.waits) k

-- a key may arrive: an awaited key, for a child, or a fresh one
abbrev pub MayArrive : JoinView → ℕ → Bool → Type 0
MayArrive j k last = ((last ≡ false) × IsAwaited j k) ⊎ IsFresh j k

-- the state after k is stolen: k is awaited, unless it has arrived
abbrev pub stolen_at : JoinView → ℕ → JoinView
stolen_at j k = let r = j.row in record j { row = row r.run (r.waits ++ (if nat_eq j.arrived k then [] else wait k None ∷ [])); stolen = k }

-- a piece with this key is counted as arrived
abbrev pub noted : JoinView → ℕ → Bool → JoinView
noted j k last = record j { arrived = if nat_lt j.arrived k then k else j.arrived; closed = if last then true else j.closed }

-- the row after a piece has come to its place
abbrev pub arrived_row : JoinView → ℕ → Product → Row Product
arrived_row j k x = let r = j.row in placed nothing times r.run r.waits k x

-- the state after a piece has arrived
abbrev pub arrived_at : JoinView → ℕ → Bool → Product → JoinView
arrived_at j k last x = noted (record j { row = arrived_row j k x }) k last

-- whether a key is awaited
abbrev pub has_awaited : JoinView → Bool
has_awaited j = let r = j.row in if is_empty r.waits then false else true

-- whether the sync's piece is there and no key is awaited
abbrev pub passes : JoinView → Bool
passes j = if j.closed then (let r = j.row in is_empty r.waits) else false

-- the state after the one remaining run is moved out
abbrev pub passed : JoinView → JoinView
passed j = record j { row = row None [] }

-- the block passes with the whole product, or waits
abbrev pub Answers : JoinView → Arrival → JoinView → Type 0
Answers j Waits j' = (passes j ≡ false) × (j' ≡ j)
Answers j (Passes h) j' = (passes j ≡ true) × (let r = j.row in r.run ≡ Some (product h)) × (j' ≡ passed j)

-- the number of runs of arrived keys
abbrev pub parts_in : JoinView → ℕ
parts_in j = parts_of j.row
