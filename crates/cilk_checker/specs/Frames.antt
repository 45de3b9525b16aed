-- The bodies and the cells of the frames of a serial run.
use Rattle.std.specs.Prelude.{◌≡◌, ℕ, ◌+◌, ◌-◌, ℤ, List, [], ◌∷◌, length, Option, Some, option_map, slice_get}
use Rattle.cilk_types.specs.declared.event.Event.{Event}
use Rattle.cilk_types.specs.declared.outcome.Outcome.{Outcome}
use Rattle.cilk_program.specs.declared.ask.Callee.{Callee}
use Rattle.cilk_program.specs.declared.ask.Callee.TheVariants as callees
use Rattle.cilk_program.specs.declared.program.Body.TheVariants as bodies
use Rattle.cilk_program.specs.Inside.{body_of}
use Rattle.cilk_program.specs.Outcomes.{Leaves}
use Rattle.cilk_program.specs.SerialRun.{Transcript, IsSerialRun, cells_of}
use Rattle.cilk_program.specs.Syntax.{Source}
use Rattle.cilk_program.specs.Numbering.{Block, frame_at}
use Rattle.cilk_lower.specs.Layout.{cells_in, function_frame, planned_frame}
use Rattle.cilk_lower.specs.declared.layout.Layout.{Layout}
use Rattle.cilk_lower.specs.declared.layout.PlannedFrame.{PlannedFrame}
use Rattle.cilk_program.specs.Sources.{source}
use Rattle.cilk_serial.specs.SoFar.{RunView, IsIntact, BeginsNext, callees_of}
use Rattle.cilk_serial.specs.declared.serial_run.Target.{Target}
use Rattle.cilk_serial.specs.declared.serial_run.Target.TheVariants as targets
use Rattle.cilk_determinacy.specs.Numbers.{frame_runs}
use Rattle.cilk_checker.specs.declared.frames.Own.{Own}

-- a frame that begins when there are `cells` cells
abbrev pub frame_begun : Source → ℕ → Callee → PlannedFrame
frame_begun p cells c = record { body = body_of p c; first_cell = cells; cells = cells_of p c }

-- frames that begin one after the other, the first when there are `cells` cells
abbrev pub frames_from : Source → ℕ → List Callee → List PlannedFrame
frames_from p cells [] = []
frames_from p cells (c ∷ cs) = frame_begun p cells c ∷ frames_from p (cells + cells_of p c) cs

-- The frames of a run, in the order of their numbers. The cells of the globals come first, then
-- those of each frame as it begins.
abbrev pub frames_of : Source → Transcript → List PlannedFrame
frames_of p r = frames_from p (length p.openings) (callees_of r)

-- the frames of the serial run with these events and this outcome
abbrev pub AreFramesIn : Source → List ℤ → List Event → Outcome → List PlannedFrame → Type 0
AreFramesIn p inputs es o frames = (run : Transcript) → IsSerialRun p inputs run es (Leaves o) → frames ≡ frames_of p run

-- the body of a callee's frame, and how many cells it has
abbrev pub own_of : Source → Layout → Callee → Own
own_of p l c = record { body = body_of p c; cells = cells_in l c }

-- the same of a callee without its arguments
abbrev pub own_by : Layout → Target → Own
own_by l (targets.Function n) = let f = function_frame l n in record { body = bodies.Function n; cells = f.cells }
own_by l (targets.Loop part) = record { body = bodies.Loop part.number; cells = cells_in l (callees.Loop part) }

-- the same for the frame that the run's next event begins, if it begins one
pub record BeginsOwn (p : Source) (l : Layout) (v : RunView) (own : Option Own) : Type 0 where
  pub callee : Option Callee
  pub is : own ≡ option_map (own_of p l) callee
  pub begins : IsIntact v.stage → BeginsNext (source v.program) v.inputs v.events callee

-- A frame, given by its path, is in the list at its number, from 1, with its body, its first cell
-- and the count of its cells.
abbrev pub FramesStandAtTheirNumbers : Type 0
FramesStandAtTheirNumbers =
    (p : Source) (r : Transcript) (path : List ℕ) (b : Block) (callee : Callee) → frame_at p r path ≡ Some b → frame_runs r path ≡ Some callee
    → slice_get (frames_of p r) (b.number - 1) ≡ Some (planned_frame p callee b)
