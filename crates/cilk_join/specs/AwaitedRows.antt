-- A row of awaited keys, with the runs of arrived keys between them, for runs of any type. With an
-- awaited key stands where its child's parent continues, if that is kept.
use Rattle.std.specs.Prelude.{◌≡◌, ◌+◌, ℕ, zero, suc, nat_eq, Bool, true, false, ◌⊎◌, if◌then◌else◌, List, [], ◌∷◌, ◌++◌, map, take, drop, Option, Some, None, option_map}
use Rattle.cilk_join.specs.declared.row.Parts.{Parts}
use Rattle.cilk_join.specs.declared.row.Wait.{Wait}

-- the run before the first awaited key, and the awaited keys in ascending order
pub record RowValue (P V : Type 0) : Type 0 where
  pub run : Option V
  pub waits : List (Wait P V)

abbrev pub row : {P V : Type 0} → Option V → List (Wait P V) → RowValue P V
row run waits = record { run = run; waits = waits }

abbrev pub wait : {P V : Type 0} → ℕ → P → Option V → Wait P V
wait key goes_on run = record { key = key; goes_on = goes_on; run = run }

-- a run before a row, with an awaited key between
abbrev pub ahead : {P V : Type 0} → Option V → ℕ → P → RowValue P V → RowValue P V
ahead run key goes_on r = row run (wait key goes_on r.run ∷ r.waits)

-- one more awaited key
abbrev pub awaiting : {P V : Type 0} → RowValue P V → ℕ → P → RowValue P V
awaiting r key goes_on = row r.run (r.waits ++ wait key goes_on None ∷ [])

abbrev pub keys : {P V : Type 0} → List (Wait P V) → List ℕ
keys [] = []
keys (w ∷ ws) = w.key ∷ keys ws

-- the key is among these
abbrev pub Stands : List ℕ → ℕ → Type 0
Stands [] k = ⊥
Stands (j ∷ js) k = (j ≡ k) ⊎ Stands js k

abbrev pub is_empty : {A : Type 0} → List A → Bool
is_empty [] = true
is_empty (x ∷ xs) = false

-- 1 where there is a run
abbrev pub count : {V : Type 0} → Option V → ℕ
count None = 0
count (Some p) = 1

-- the number of runs after the awaited keys
abbrev pub runs_in : {P V : Type 0} → List (Wait P V) → ℕ
runs_in [] = 0
runs_in (w ∷ ws) = count w.run + runs_in ws

abbrev pub parts_of : {P V : Type 0} → RowValue P V → ℕ
parts_of r = count r.run + runs_in r.waits

-- A piece comes to its place and makes one run with its neighbours. Its place is that of its key
-- if the key is awaited, and else the end.
abbrev pub placed : {P V : Type 0} → (Option V → V → Option V → V) → Option V → List (Wait P V) → ℕ → V → RowValue P V
placed between run [] k x = row (Some (between run x None)) []
placed between run (w ∷ ws) k x = if nat_eq w.key k then row (Some (between run x w.run)) ws else ahead run w.key w.goes_on (placed between w.run ws k x)

-- what a row shows, if each run shows a value
abbrev pub wait_shown : {P V W : Type 0} → (V → W) → Wait P V → Wait P W
wait_shown f w = wait w.key w.goes_on (option_map f w.run)

abbrev pub row_shown : {P V W : Type 0} → (V → W) → RowValue P V → RowValue P W
row_shown f r = row (option_map f r.run) (map (wait_shown f) r.waits)

-- ---- by places: run 0 is before the first awaited key, run n + 1 follows the one at place n

-- the place of an awaited key, or the end
abbrev pub place_of : {P V : Type 0} → List (Wait P V) → ℕ → ℕ
place_of [] k = 0
place_of (w ∷ ws) k = if nat_eq w.key k then 0 else suc (place_of ws k)

abbrev pub run_at : {P V : Type 0} → Option V → List (Wait P V) → ℕ → Option V
run_at run ws zero = run
run_at run [] (suc n) = None
run_at run (w ∷ ws) (suc n) = run_at w.run ws n

abbrev pub with_run : {P V : Type 0} → Option V → List (Wait P V) → ℕ → Option V → RowValue P V
with_run run ws zero x = row x ws
with_run run [] (suc n) x = row run []
with_run run (w ∷ ws) (suc n) x = ahead run w.key w.goes_on (with_run w.run ws n x)

abbrev pub replaced : {P V : Type 0} → RowValue P V → ℕ → Option V → RowValue P V
replaced r n x = with_run r.run r.waits n x

-- other runs beside the awaited key at a place
abbrev pub with_beside : {P V : Type 0} → RowValue P V → ℕ → Option V → Option V → RowValue P V
with_beside r n left right = replaced (replaced r n left) (suc n) right

-- the runs beside a place are taken out
abbrev pub opened : {P V : Type 0} → RowValue P V → ℕ → RowValue P V
opened r n = with_beside r n None None

-- a piece that comes there, with those runs
abbrev pub parts_at : {P V : Type 0} → RowValue P V → ℕ → V → Parts V
parts_at r n x = record { left = run_at r.run r.waits n; piece = x; right = run_at r.run r.waits (suc n) }

-- the whole goes in, and the awaited key is forgotten
abbrev pub closed : {P V : Type 0} → RowValue P V → ℕ → V → RowValue P V
closed r n m = let s = replaced r n (Some m) in row s.run (take n s.waits ++ drop (suc n) s.waits)
