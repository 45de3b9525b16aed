-- The outcome of a run by names is the serial elision's.
use Rattle.std.specs.Prelude.{◌≤◌, IsTrue, List, [], ◌∷◌, ◌++◌, ℤ, length, reverse}
use Rattle.cilk_types.specs.declared.limits.TheConstants.{MAX_EVENTS, MAX_FRAMES, MAX_CELLS}
use Rattle.cilk_types.specs.declared.outcome.Outcome.{Outcome}
use Rattle.cilk_program.specs.Elision.{IsElision}
use Rattle.cilk_program.specs.Outcomes.{Leaves, cells_from}
use Rattle.cilk_program.specs.Syntax.{Source}
use Rattle.cilk_program.specs.WellNamed.{is_well_named}
use Rattle.cilk_determinacy.specs.Costs.{EventTotal, FrameTotal, CellTotal, whole}
use Rattle.cilk_determinacy.specs.Monoids.{unit_of}
use Rattle.cilk_determinacy.specs.Runs.{Global, Passes, Prints, Deed, Does, Run}
use Rattle.cilk_determinacy.specs.Serial.{value_after}
use Rattle.cilk_determinacy.specs.Traces.{trace}
use Rattle.cilk_determinacy.specs.Views.{view_after}
use Rattle.cilk_determinacy.specs.FrameEnvMachine.{opening_values, costs}
use Rattle.cilk_determinacy.specs.Reducers.{monoid_of}
use Rattle.cilk_determinacy.specs.Steps.{finals_in, result_in}
use Rattle.cilk_determinacy.specs.FrameEnvs.{FrameEnv, first_env}
use Rattle.cilk_determinacy.specs.Words.{HasWords, InputsAreWords}
use Rattle.cilk_replay.specs.Frames.{IsSerialRunOn}

-- what a deed prints
abbrev pub printed_by : Deed FrameEnv → List ℤ
printed_by (Does (Passes (Prints x))) = x ∷ []
printed_by d = []

-- all that is printed, in order
abbrev pub printed_in : List (Deed FrameEnv) → List ℤ
printed_in [] = []
printed_in (d ∷ ds) = printed_by d ++ printed_in ds

-- The outcome of a run of a program on these inputs: the value of its last end, the last values of
-- the global cells, its output, and the last values of the global reducers.
abbrev pub left_by : Source → List ℤ → Run FrameEnv → Outcome
left_by p inputs t = record {
  result = result_in (reverse (trace t));
  globals = cells_from 0 (length p.openings) (λ n. value_after t (Global n) (opening_values p inputs (Global n)));
  output = printed_in (trace t);
  reducers = finals_in (λ i. view_after (monoid_of i) i t (unit_of monoid_of i)) 0 p.reducers;
}

-- the run makes no more events, frames and cells than a run may, however many ticks it uses
pub record KeepsCounts (p : Source) (inputs : List ℤ) (u : Run FrameEnv) : Type 0 where
  pub events : whole (costs p inputs) (first_env p) u EventTotal ≤ MAX_EVENTS
  pub frames : whole (costs p inputs) (first_env p) u FrameTotal ≤ MAX_FRAMES
  pub cells : whole (costs p inputs) (first_env p) u CellTotal ≤ MAX_CELLS

-- A serial run in the sense of courses, which gives each frame all the ticks of a run, has the
-- outcome of the serial elision, however many ticks all its frames use together.
abbrev pub RunsAreElided : Type 0
RunsAreElided =
    (p : Source) (inputs : List ℤ) (u : Run FrameEnv) → IsTrue (is_well_named p) → HasWords p → InputsAreWords inputs
    → IsSerialRunOn p inputs u → KeepsCounts p inputs u → IsElision p inputs (Leaves (left_by p inputs u))
