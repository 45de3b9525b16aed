use Rattle.cilk_program.proofs.Creations.{runs_create, runs_inside}
use Rattle.cilk_program.proofs.Remembered.{runs_small, runs_right, runs_leave}
use Rattle.cilk_program.proofs.runs.serial_runs_are_sound.Goals as goal

pub returns : goal.returns
returns c = λ p inputs well. record {
  small = runs_small p well inputs;
  cells = runs_inside p well inputs;
  reducers = runs_create p well inputs;
  reads = runs_right p well inputs;
  leaves = runs_leave p well inputs;
}
