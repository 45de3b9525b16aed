use Rattle.cilk_program.proofs.Behaving.{runs_behave}
use Rattle.cilk_program.proofs.runs.frames_behave.Goals as goal

pub returns : goal.returns
returns c = runs_behave
