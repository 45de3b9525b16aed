-- Data of a program for its runs, apart from instructions: opening values, and the contents of
-- frames.
use Rattle.std.specs.Prelude.{◌≡◌, ℕ, pos, ◌-ℤ◌, if◌then◌else◌, List, [], slice_get, unwrap_or}
use Rattle.std.specs.Ordering.{int_eq}
use Rattle.cilk_monoid.specs.declared.kind.MonoidKind.{MonoidKind}
use Rattle.cilk_program.specs.declared.ask.Callee.{Callee}
use Rattle.cilk_program.specs.declared.ask.Callee.TheVariants as callees
use Rattle.cilk_program.specs.Syntax.{Source, Function}
use Rattle.cilk_program.specs.Inside.{body_of}
use Rattle.cilk_program.specs.Numbering.{Block}
use Rattle.cilk_program.specs.SerialRun.{cells_of, own_reducers}
use Rattle.cilk_lower.specs.declared.layout.FunctionLayout.{FunctionLayout}
use Rattle.cilk_lower.specs.declared.layout.Layout.{Layout}
use Rattle.cilk_lower.specs.declared.layout.PlannedFrame.{PlannedFrame}
use Rattle.cilk_lower.specs.Plain.{is_plain}

-- the frame of a function
abbrev pub frame_of : Function → FunctionLayout
frame_of f = record { cells = f.cells; reducers = f.reducers }

-- a frame without cells and reducers
abbrev pub bare : FunctionLayout
bare = record { cells = 0; reducers = [] }

abbrev pub function_frame : Layout → ℕ → FunctionLayout
function_frame l k = unwrap_or (slice_get l.functions k) bare

-- the number of cells of a callee's frame; a frame that halves the turns of a loop has none
abbrev pub cells_in : Layout → Callee → ℕ
cells_in l callees.Root = let f = function_frame l l.main in f.cells
cells_in l (callees.Function c) = let f = function_frame l c.function in f.cells
cells_in l (callees.Loop part) = if int_eq (part.high -ℤ part.low) (pos 1) then unwrap_or (slice_get l.loops part.number) 0 else 0

-- the monoids of the reducers that a callee's frame declares, and retires when it ends
abbrev pub reducers_in : Layout → Callee → List MonoidKind
reducers_in l callees.Root = let f = function_frame l l.main in f.reducers
reducers_in l (callees.Function c) = let f = function_frame l c.function in f.reducers
reducers_in l (callees.Loop part) = []

-- a frame of a run, by its callee and its block of cells
abbrev pub planned_frame : Source → Callee → Block → PlannedFrame
planned_frame p callee b = record { body = body_of p callee; first_cell = b.first; cells = b.cells }

-- the layout agrees with the program
pub record LaysOut (p : Source) (l : Layout) : Type 0 where
  pub openings : l.openings ≡ p.openings
  pub reducers : l.reducers ≡ p.reducers
  pub cells : (callee : Callee) → cells_in l callee ≡ cells_of p callee
  pub own : (callee : Callee) → reducers_in l callee ≡ own_reducers p callee
  pub plain : l.plain ≡ is_plain p
