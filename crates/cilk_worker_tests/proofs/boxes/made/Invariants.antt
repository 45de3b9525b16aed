use Rattle.std.specs.Prelude.{◌≡◌, IfSome}
use Rattle.cilk_workers.specs.Turns.{Works}
use Rattle.cilk_worker_tests.proofs.boxes.made.Given as goal

abbrev pub invariant-each : goal.invariant-each
invariant-each g l = Works l.shared l.work × IfSome l.task (λ t. t.of ≡ l.shared.replay)
