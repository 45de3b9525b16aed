use Rattle.std.proofs.Common.{◌≤◌}
use Rattle.std.specs.Prelude.{All}
use Rattle.cilk_workers.specs.Activities.{IsExitReason}
use Rattle.cilk_threads.specs.Answers.{tells}
use Rattle.cilk_threads.proofs.pool.best.Given as goal

abbrev pub invariant-each : goal.invariant-each
invariant-each l = IsExitReason l.shared l.best × All (λ r. tells r ≤ tells l.best) l.yielded
