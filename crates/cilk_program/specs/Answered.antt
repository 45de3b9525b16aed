-- The effect of a serial run's events on memory and output.
use Rattle.std.specs.Prelude.{◌≡◌, ◌≤◌, ℕ, ℤ, nat_eq, if◌then◌else◌, List, [], ◌∷◌, ◌++◌, length}
use Rattle.cilk_types.specs.declared.event.Event.{Event}
use Rattle.cilk_types.specs.declared.event.Event.TheVariants as events
use Rattle.cilk_types.specs.declared.limits.TheConstants.{MAX_FRAMES, MAX_CELLS}
use Rattle.cilk_types.specs.declared.outcome.Outcome.{Outcome}
use Rattle.cilk_program.specs.declared.ask.Callee.TheVariants as callees
use Rattle.cilk_program.specs.Syntax.{Source}
use Rattle.cilk_program.specs.Outcomes.{cells_from}
use Rattle.cilk_program.specs.SerialRun.{Transcript, before_root}
use Rattle.cilk_program.specs.Numbering.{unbegun, entered, counts_after}

-- the cells after an event
abbrev pub written : Event → (ℕ → ℤ) → ℕ → ℤ
written (events.Write c v) cells = λ n. if nat_eq c n then v else cells n
written e cells = cells

-- a read gives the value of its cell
abbrev pub IsRightRead : Event → (ℕ → ℤ) → Type 0
IsRightRead (events.Read c v) cells = v ≡ cells c
IsRightRead e cells = Unit {0}

-- each read gives the last value written to its cell before it, or the cell's value at the
-- beginning
abbrev pub AreRight : (ℕ → ℤ) → List Event → Type 0
AreRight cells [] = Unit {0}
AreRight cells (e ∷ es) = IsRightRead e cells × AreRight (written e cells) es

abbrev pub cells_after : List Event → (ℕ → ℤ) → ℕ → ℤ
cells_after [] cells = cells
cells_after (e ∷ es) cells = cells_after es (written e cells)

abbrev pub printed_by : Event → List ℤ
printed_by (events.Print v) = v ∷ []
printed_by e = []

-- the printed numbers, in order
abbrev pub prints : List Event → List ℤ
prints [] = []
prints (e ∷ es) = printed_by e ++ prints es

-- the cells when a program begins
abbrev pub opening_cells : Source → List ℤ → ℕ → ℤ
opening_cells p inputs = let m = before_root p inputs 0 in m.store.cells

-- the final globals and the output are those that the events produce
pub record IsLeft (p : Source) (inputs : List ℤ) (es : List Event) (outcome : Outcome) : Type 0 where
  pub globals : outcome.globals ≡ cells_from 0 (length p.openings) (cells_after es (opening_cells p inputs))
  pub output : outcome.output ≡ prints es

-- a run is within the limits of frames and cells
pub record IsSmall (p : Source) (r : Transcript) : Type 0 where
  pub frames : (counts_after p r (entered p callees.Root (unbegun p))).frames ≤ MAX_FRAMES
  pub cells : (counts_after p r (entered p callees.Root (unbegun p))).cells ≤ MAX_CELLS
