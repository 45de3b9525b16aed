-- The histories of a join: continuations are stolen and pieces arrive, in any allowed order; and
-- the row that the pieces give by ascending key.
use Rattle.std.specs.Prelude.{◌≡◌, ℕ, nat_lt, Bool, true, ◌⊎◌, List, [], ◌∷◌, ◌++◌, map, Option, Some, None}
use Rattle.std.specs.List.{filter}
use Rattle.cilk_monoid.specs.Kinds.{structure_of}
use Rattle.cilk_monoid.specs.Products as monoid
use Rattle.cilk_hypermap.specs.Hypermap.{value_in}
use Rattle.cilk_hypermap.specs.declared.hypermap.Hypermap.{Hypermap}
use Rattle.cilk_join.specs.declared.join.Arrival.{Arrival}
use Rattle.cilk_join.specs.declared.join.Arrival.TheVariants.{Waits, Passes}
use Rattle.cilk_join.specs.Joins.{JoinView, opening, IsOpen, MayArrive, stolen_at, arrived_at}
use Rattle.cilk_join.specs.Products.{Product, product}
use Rattle.cilk_join.specs.Rows.{Row, row, ahead, keys, Stands}

-- a child's piece with the child's key, or the sync's own
pub record Piece : Type 0 where
  pub key : ℕ
  pub views : Hypermap

-- the continuation of the child with this key is stolen, or a piece arrives; the last one is the
-- sync's own
pub data JoinStep : Type 0 where
  Steals : (key : ℕ) → JoinStep
  Arrives : (piece : Piece) (last : Bool) → JoinStep

-- ---- steps from an opening join on, the latest step first

abbrev pub joined : List JoinStep → JoinView
joined [] = opening
joined (Steals k ∷ steps) = stolen_at (joined steps) k
joined (Arrives p last ∷ steps) = arrived_at (joined steps) p.key last (product p.views)

-- each step is allowed when it is made
abbrev pub IsHistory : List JoinStep → Type 0
IsHistory [] = Unit {0}
IsHistory (Steals k ∷ steps) = IsHistory steps × IsOpen (joined steps) k
IsHistory (Arrives p last ∷ steps) = IsHistory steps × MayArrive (joined steps) p.key last

abbrev pub awaited_keys : List JoinStep → List ℕ
awaited_keys steps = let j = joined steps in let r = j.row in keys r.waits

abbrev pub stolen_keys : List JoinStep → List ℕ
stolen_keys [] = []
stolen_keys (Steals k ∷ steps) = k ∷ stolen_keys steps
stolen_keys (Arrives p last ∷ steps) = stolen_keys steps

-- the pieces that have arrived
abbrev pub pieces_in : List JoinStep → List Piece
pieces_in [] = []
pieces_in (Steals k ∷ steps) = pieces_in steps
pieces_in (Arrives p last ∷ steps) = p ∷ pieces_in steps

abbrev pub keys_of : List Piece → List ℕ
keys_of ps = map (λ p. p.key) ps

-- this piece has arrived as the sync's own
abbrev pub IsOwn : List JoinStep → Piece → Type 0
IsOwn [] p = ⊥
IsOwn (Steals k ∷ steps) p = IsOwn steps p
IsOwn (Arrives q last ∷ steps) p = ((q ≡ p) × (last ≡ true)) ⊎ IsOwn steps p

-- the sync's own piece and that of each stolen child have arrived
abbrev pub HaveAllArrived : List JoinStep → Type 0
HaveAllArrived steps = ((p : Piece) × IsOwn steps p) × ((k : ℕ) → Stands (stolen_keys steps) k → Stands (keys_of (pieces_in steps)) k)

-- ---- by ascending key

abbrev pub below : ℕ → List Piece → List Piece
below k ps = filter (λ p. nat_lt p.key k) ps

abbrev pub above : ℕ → List Piece → List Piece
above k ps = filter (λ p. nat_lt k p.key) ps

-- pieces in ascending order of their keys
abbrev pub by_key : List Piece → List Piece
by_key [] = []
by_key (p ∷ ps) = below p.key (by_key ps) ++ p ∷ above p.key (by_key ps)

-- the pieces multiplied in order
abbrev pub product_of : List Piece → Product
product_of ps k i = monoid.product (structure_of k) (map (λ p. value_in p.views k i) ps)

-- the run of these pieces, if there are any
abbrev pub run_over : List Piece → Option Product
run_over [] = None
run_over (p ∷ ps) = Some (product_of (p ∷ ps))

-- pieces cut at keys: a run of those below the first key, and one between each key and the next
abbrev pub cut : List ℕ → List Piece → Row Product
cut [] ps = row (run_over ps) []
cut (k ∷ ks) ps = ahead (run_over (below k ps)) k (cut ks (above k ps))

-- the answer to the last arrival of these steps
abbrev pub IsAnswer : List JoinStep → Arrival → Type 0
IsAnswer steps Waits = ¬ (HaveAllArrived steps)
IsAnswer steps (Passes h) = HaveAllArrived steps × (product h ≡ product_of (by_key (pieces_in steps)))
