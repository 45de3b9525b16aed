use Rattle.cilk_program.proofs.Orderly.{runs_orderly}
use Rattle.cilk_program.proofs.runs.frames_are_in_order.Goals as goal

pub returns : goal.returns
returns c = runs_orderly
