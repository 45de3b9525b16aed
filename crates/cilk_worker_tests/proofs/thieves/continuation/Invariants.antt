use Rattle.cilk_workers.specs.Turns.{Works}
use Rattle.cilk_worker_tests.proofs.thieves.continuation.Given as goal

abbrev pub invariant-each : goal.invariant-each
invariant-each g l = Works l.shared l.work
