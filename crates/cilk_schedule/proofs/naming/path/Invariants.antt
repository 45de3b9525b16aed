use Rattle.std.proofs.Common.{◌<◌, ℕ, length}
use Rattle.cilk_determinacy.specs.Runs.{Name}
use Rattle.cilk_scheduler.specs.Numbered.{AreNamed}
use Rattle.cilk_schedule.proofs.Paths.{IsOnWay}
use Rattle.cilk_schedule.proofs.naming.path.Given as goal

abbrev pub invariant-each : goal.invariant-each
invariant-each l = (name : ℕ → Name) → AreNamed l.frames name → l.fn.frame < length l.frames → IsOnWay name l.fn.frame l.path.items l.place l.counter
