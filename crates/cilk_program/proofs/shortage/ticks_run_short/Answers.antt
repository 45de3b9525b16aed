use Rattle.cilk_program.proofs.Ticking.{runs_short}
use Rattle.cilk_program.proofs.shortage.ticks_run_short.Goals as goal

pub returns : goal.returns
returns c = runs_short
