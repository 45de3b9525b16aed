-- A row of awaited keys, with the runs of arrived keys between them.
use Rattle.std.specs.Prelude.{◌≡◌, ◌<◌, ◌≤◌, ℕ, nat_eq, Bool, true, false, List, [], ◌∷◌, Option, Some, None}
use Rattle.atomic_table.specs.Seated.{TableId}
use Rattle.cilk_tree.specs.declared.event_order.EventOrder.{EventOrder}
use Rattle.cilk_shared.specs.Values.{YardValue}
use Rattle.cilk_shared.specs.declared.reducers.Reducers.{Reducers}
use Rattle.cilk_shared.specs.Pieces.{PieceValue}
use Rattle.cilk_join.specs.declared.row.Wait as declared
use Rattle.cilk_join.specs.AwaitedRows as awaited
pub use Rattle.cilk_join.specs.AwaitedRows.{ahead, is_empty, row, wait}

-- a yard, and the reducers of its run
pub record RunValue : Type 0 where
  pub of : TableId
  pub event_order : EventOrder
  pub reducers : Reducers

abbrev pub run_of : YardValue → Reducers → RunValue
run_of y r = record { of = y.of; event_order = y.event_order; reducers = r }

abbrev pub yard_of : RunValue → YardValue
yard_of y = record { of = y.of; event_order = y.event_order }

-- the piece of a run of arrived keys, if there is one
abbrev pub Run : Type 0
Run = Option PieceValue

-- a stolen child that hasn't arrived, the position at which its parent continues, and the run from
-- there on
abbrev pub Wait : Type 0
Wait = declared.Wait ℕ PieceValue

-- the run before the first awaited key, and the awaited keys in ascending order
abbrev pub Row : Type 0
Row = awaited.RowValue ℕ PieceValue

-- a row, and the run of the program to which it belongs
pub record Rows : Type 0 where
  pub of : RunValue
  pub row : Row

abbrev pub rows : RunValue → Row → Rows
rows y r = record { of = y; row = r }

-- ---- pieces beside one another

abbrev pub begin_of : Run → ℕ → ℕ
begin_of None a = a
begin_of (Some p) a = p.from

abbrev pub end_of : Run → ℕ → ℕ
end_of None b = b
end_of (Some p) b = p.upto

-- one piece of a piece and the runs beside it
abbrev pub between : Run → PieceValue → Run → PieceValue
between left x right = record { of = x.of; event_order = x.event_order; reducers = x.reducers; from = begin_of left x.from; upto = end_of right x.upto }

-- the piece belongs to the program's run
abbrev pub OfRun : RunValue → PieceValue → Type 0
OfRun y p = (p.of ≡ y.of) × (p.event_order ≡ y.event_order) × (p.reducers ≡ y.reducers)

-- the piece belongs to the run and is not empty
abbrev pub IsGood : RunValue → PieceValue → Type 0
IsGood y p = OfRun y p × (p.from < p.upto)

abbrev pub IsGoodRun : RunValue → Run → Type 0
IsGoodRun y None = Unit {0}
IsGoodRun y (Some p) = IsGood y p

abbrev pub AreGood : RunValue → Run → PieceValue → Run → Type 0
AreGood y left x right = IsGoodRun y left × IsGood y x × IsGoodRun y right

abbrev pub EndsAt : Run → ℕ → Type 0
EndsAt None a = Unit {0}
EndsAt (Some p) a = p.upto ≡ a

abbrev pub BeginsAt : Run → ℕ → Type 0
BeginsAt None a = Unit {0}
BeginsAt (Some p) a = p.from ≡ a

-- ---- what holds of a row

-- the end of a run, where a piece after it must begin; a if there is no run
abbrev pub behind : Run → ℕ → ℕ
behind None a = a
behind (Some p) a = p.upto

-- After a start that ends at `b`: each run after an awaited key begins where the key's parent
-- continues, which is not before the end of what comes before it. So the pieces don't overlap, and
-- are in the order of the run.
abbrev pub Met : RunValue → ℕ → List Wait → Type 0
Met y b [] = Unit {0}
Met y b (w ∷ ws) = (b ≤ w.goes_on) × IsGoodRun y w.run × BeginsAt w.run w.goes_on × Met y (behind w.run w.goes_on) ws

abbrev pub MetRows : Rows → Type 0
MetRows j = let r = j.row in IsGoodRun j.of r.run × Met j.of (behind r.run 0) r.waits

-- where the row ends, after a start that ends at `b`
abbrev pub last_end : ℕ → List Wait → ℕ
last_end b [] = b
last_end b (w ∷ ws) = last_end (behind w.run w.goes_on) ws

abbrev pub end_in : Rows → ℕ
end_in j = let r = j.row in last_end (behind r.run 0) r.waits

-- the pieces, in order
abbrev pub pieces_of : Run → List Wait → List PieceValue
pieces_of None [] = []
pieces_of None (w ∷ ws) = pieces_of w.run ws
pieces_of (Some p) [] = p ∷ []
pieces_of (Some p) (w ∷ ws) = p ∷ pieces_of w.run ws

-- each piece belongs to the run, is not empty, and begins at b or later, not before the end of the
-- previous one
abbrev pub LieApart : RunValue → ℕ → List PieceValue → Type 0
LieApart y b [] = Unit {0}
LieApart y b (p ∷ ps) = (b ≤ p.from) × IsGood y p × LieApart y p.upto ps

abbrev pub PiecesLieApart : Rows → Type 0
PiecesLieApart j = let r = j.row in LieApart j.of 0 (pieces_of r.run r.waits)

-- ---- a piece comes

-- the row after a piece has come: it makes one run with its neighbours
abbrev pub placed : Run → List Wait → ℕ → PieceValue → Row
placed run ws k x = awaited.placed between run ws k x

abbrev pub IfHere : Bool → Type 0 → Type 0 → Type 0
IfHere true A B = A
IfHere false A B = B

-- The piece begins where the run before it ends, or at `a` if there is none; and it ends where its
-- key's parent continues.
abbrev pub FitsRow : ℕ → Run → List Wait → ℕ → PieceValue → Type 0
FitsRow a run [] k x = x.from ≡ behind run a
FitsRow a run (w ∷ ws) k x = IfHere (nat_eq w.key k) ((x.from ≡ behind run a) × (x.upto ≡ w.goes_on)) (FitsRow w.goes_on w.run ws k x)

-- before all runs and keys it may begin anywhere
abbrev pub FitsIn : Rows → ℕ → PieceValue → Type 0
FitsIn j k x = let r = j.row in FitsRow x.from r.run r.waits k x

-- The place of the key k is before all runs and awaited keys: no piece is before the first awaited
-- key, and that is k, or none is awaited.
abbrev pub IsBeforeAll : Run → List Wait → ℕ → Type 0
IsBeforeAll None [] k = Unit {0}
IsBeforeAll None (w ∷ ws) k = w.key ≡ k
IsBeforeAll (Some p) ws k = ⊥

-- k is the lowest key: no lower one is awaited, and none has arrived
abbrev pub IsLowest : Rows → ℕ → Type 0
IsLowest j k = let r = j.row in IsBeforeAll r.run r.waits k

abbrev pub placed_in : Rows → ℕ → PieceValue → Rows
placed_in j k x = let r = j.row in rows j.of (placed r.run r.waits k x)

abbrev pub awaiting : Rows → ℕ → ℕ → Rows
awaiting j k a = rows j.of (awaited.awaiting j.row k a)

-- how many runs
abbrev pub parts_in : Rows → ℕ
parts_in j = awaited.parts_of j.row

-- the same as `FitsRow`, given where the piece must begin
abbrev pub FitsFrom : ℕ → List Wait → ℕ → PieceValue → Type 0
FitsFrom b [] k x = x.from ≡ b
FitsFrom b (w ∷ ws) k x = IfHere (nat_eq w.key k) ((x.from ≡ b) × (x.upto ≡ w.goes_on)) (FitsFrom (behind w.run w.goes_on) ws k x)
