-- The serial elision and the serial run agree.
use Rattle.std.specs.Prelude.{◌≡◌, ◌≤◌, ◌⊎◌, ℕ, ℤ, List, IsTrue}
use Rattle.cilk_types.specs.declared.fault.Fault.{Fault}
use Rattle.cilk_types.specs.declared.fault.Fault.TheVariants.{DivisionByZero, IndexOutside, InputOutside, TooManyEvents, TooManyFrames, TooManyCells}
use Rattle.cilk_types.specs.declared.event.Event.{Event}
use Rattle.cilk_program.specs.Syntax.{Source}
use Rattle.cilk_program.specs.WellNamed.{is_well_named}
use Rattle.cilk_program.specs.Outcomes.{Conclusion, Leaves, StopsBy}
use Rattle.cilk_program.specs.Elision.{IsElision}
use Rattle.cilk_program.specs.SerialRun.{Transcript, IsSerialRunWithin}

-- the fault is a limit of runs, not a fault of the program itself
abbrev pub IsLimit : Fault → Type 0
IsLimit DivisionByZero = ⊥
IsLimit IndexOutside = ⊥
IsLimit InputOutside = ⊥
IsLimit TooManyEvents = Unit {0}
IsLimit TooManyFrames = Unit {0}
IsLimit TooManyCells = Unit {0}

-- a limit that doesn't depend on the ticks and events that a run has
abbrev pub IsCrowd : Fault → Type 0
IsCrowd DivisionByZero = ⊥
IsCrowd IndexOutside = ⊥
IsCrowd InputOutside = ⊥
IsCrowd TooManyEvents = ⊥
IsCrowd TooManyFrames = Unit {0}
IsCrowd TooManyCells = Unit {0}

-- the run met a limit
abbrev pub IsCutOff : Conclusion → Type 0
IsCutOff (Leaves o) = ⊥
IsCutOff (StopsBy f) = IsLimit f

-- the run had too many frames or too many cells
abbrev pub IsCrowded : Conclusion → Type 0
IsCrowded (Leaves o) = ⊥
IsCrowded (StopsBy f) = IsCrowd f

-- Within any ticks and events, a program ends as its elision does: with the same result, globals,
-- output and reducers, or by the same fault. The only exception is a run that met a limit.
abbrev pub EndsAsElided : Source → List ℤ → Type 0
EndsAsElided p inputs =
    IsTrue (is_well_named p) → (ticks room : ℕ) (r : Transcript) (es : List Event) (c : Conclusion) → IsSerialRunWithin p inputs ticks room r es c → ¬ (IsCutOff c) → IsElision p inputs c

-- the elision ends in at most one way
abbrev pub HasOneElision : Source → List ℤ → Type 0
HasOneElision p inputs = (c c' : Conclusion) → IsElision p inputs c → IsElision p inputs c' → c ≡ c'

-- The elision's end is reached: with enough ticks and events, each serial run ends in that way,
-- unless it has too many frames or cells. Those limits are the same for all runs.
abbrev pub IsReached : Source → List ℤ → Type 0
IsReached p inputs =
    IsTrue (is_well_named p) → (c : Conclusion) → IsElision p inputs c
    → (enough : ℕ) × ((ticks room : ℕ) → enough ≤ ticks → enough ≤ room → (r : Transcript) (es : List Event) (c' : Conclusion) → IsSerialRunWithin p inputs ticks room r es c' → (c' ≡ c) ⊎ IsCrowded c')
