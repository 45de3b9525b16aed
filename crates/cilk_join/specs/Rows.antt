-- A row of awaited keys, with the runs of arrived keys between them, for any type with an operation
-- and a unit.
use Rattle.std.specs.Prelude.{ℕ, List, Option, Some, None}
use Rattle.cilk_join.specs.declared.row.Wait as declared
use Rattle.cilk_join.specs.AwaitedRows as awaited
pub use Rattle.cilk_join.specs.AwaitedRows.{Stands, count, is_empty, keys, parts_of, runs_in}

-- a stolen child that hasn't arrived, and the product of the run between it and the next awaited
-- key, if a key has arrived there
abbrev pub Wait : Type 0 → Type 0
Wait V = declared.Wait (Unit {0}) V

-- the run before the first awaited key, and the awaited keys in ascending order
abbrev pub Row : Type 0 → Type 0
Row V = awaited.RowValue (Unit {0}) V

abbrev pub row : {V : Type 0} → Option V → List (Wait V) → Row V
row run waits = awaited.row run waits

abbrev pub wait : {V : Type 0} → ℕ → Option V → Wait V
wait key run = awaited.wait key tt run

-- a run before a row, with an awaited key between
abbrev pub ahead : {V : Type 0} → Option V → ℕ → Row V → Row V
ahead run key r = awaited.ahead run key tt r

module _ {V : Type 0} (unit : V) (times : V → V → V) where
  abbrev pub or_unit : Option V → V
  or_unit None = unit
  or_unit (Some v) = v

  -- a piece between two runs, left first
  abbrev pub between : Option V → V → Option V → V
  between left x right = times (times (or_unit left) x) (or_unit right)

  -- a piece comes to its place and makes one run with its neighbours
  abbrev pub placed : Option V → List (Wait V) → ℕ → V → Row V
  placed run ws k x = awaited.placed between run ws k x
