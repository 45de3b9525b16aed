-- The laws of a join, after every history.
use Rattle.std.specs.Prelude.{◌≡◌, ◌≤◌, ℕ, suc, Bool, true, List, [], ◌∷◌, ◌++◌, length}
use Rattle.std.specs.List.Sorted.{IsPermutation, IsStrictlyIncreasing}
use Rattle.cilk_join.specs.declared.join.Arrival.{Arrival}
use Rattle.cilk_join.specs.Histories.{Piece, JoinStep, Arrives, joined, IsHistory, awaited_keys, stolen_keys, pieces_in, keys_of, IsOwn, HaveAllArrived, by_key, cut, IsAnswer}
use Rattle.cilk_join.specs.Joins.{JoinView, Answers, IsAwaited, IsOpen, MayArrive, parts_in, passes, passed}
use Rattle.cilk_join.specs.Rows.{Stands}

-- the awaited keys ascend
abbrev pub AwaitedKeysAscend : Type 0
AwaitedKeysAscend = (steps : List JoinStep) → IsHistory steps → IsStrictlyIncreasing (awaited_keys steps)

-- a key is awaited exactly if it was stolen and its piece hasn't arrived
abbrev pub AwaitedAreStolen : Type 0
AwaitedAreStolen = (steps : List JoinStep) → IsHistory steps → (k : ℕ)
    → (IsAwaited (joined steps) k → Stands (stolen_keys steps) k × (¬ (Stands (keys_of (pieces_in steps)) k)))
    × (Stands (stolen_keys steps) k → ¬ (Stands (keys_of (pieces_in steps)) k) → IsAwaited (joined steps) k)

-- sorted by key, the pieces are those that have arrived, and each key is there once
abbrev pub PiecesAscend : Type 0
PiecesAscend = (steps : List JoinStep) → IsHistory steps → IsPermutation (pieces_in steps) (by_key (pieces_in steps)) × IsStrictlyIncreasing (keys_of (by_key (pieces_in steps)))

-- the sync's own piece has the greatest key
abbrev pub OwnPieceIsLast : Type 0
OwnPieceIsLast = (steps : List JoinStep) → IsHistory steps → (p : Piece) → IsOwn steps p → (ps : List Piece) × (by_key (pieces_in steps) ≡ ps ++ p ∷ [])

-- the row is that of the pieces sorted by key, cut at the awaited keys
abbrev pub RowsAreOfPieces : Type 0
RowsAreOfPieces = (steps : List JoinStep) → IsHistory steps → (let j = joined steps in j.row) ≡ cut (awaited_keys steps) (by_key (pieces_in steps))

-- a row has at most one run more than it has awaited keys
abbrev pub PartsAreFew : Type 0
PartsAreFew = (j : JoinView) → parts_in j ≤ suc (let r = j.row in length r.waits)

-- the block passes exactly if the sync's own piece and that of each stolen child have arrived
abbrev pub PassesWithAll : Type 0
PassesWithAll = (steps : List JoinStep) → IsHistory steps → (passes (joined steps) ≡ true → HaveAllArrived steps) × (HaveAllArrived steps → passes (joined steps) ≡ true)

-- an arrival answers accordingly, with the product of all pieces by ascending key
abbrev pub ArrivalsAnswer : Type 0
ArrivalsAnswer = (steps : List JoinStep) (p : Piece) (last : Bool) → IsHistory (Arrives p last ∷ steps)
    → (answer : Arrival) (left : JoinView) → Answers (joined (Arrives p last ∷ steps)) answer left → IsAnswer (Arrives p last ∷ steps) answer

-- after the block has passed, nothing is stolen from it and nothing arrives
abbrev pub PassesOnce : Type 0
PassesOnce = (j : JoinView) → passes j ≡ true → (k : ℕ) (last : Bool) → (¬ (IsOpen (passed j) k)) × (¬ (MayArrive (passed j) k last))
