use Rattle.cilk_threads.proofs.Settled.{runs_settled}
use Rattle.cilk_threads.proofs.laws.race_free_runs_are_settled.Goals as goal

pub returns : goal.returns
returns c = runs_settled
