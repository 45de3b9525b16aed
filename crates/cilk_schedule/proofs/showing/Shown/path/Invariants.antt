use Rattle.std.proofs.Common.{◌<◌, ℕ, length}
use Rattle.cilk_determinacy.specs.Runs.{Name}
use Rattle.cilk_schedule.specs.Showing.{AreLinked}
use Rattle.cilk_schedule.proofs.Paths.{IsOnWay}
use Rattle.cilk_schedule.proofs.showing.Shown.path.Given as goal

abbrev pub invariant-each : goal.invariant-each
invariant-each l = (name : ℕ → Name) → AreLinked (let f = l.self.frames in f.items) name → l.fn.place < length (let f = l.self.frames in f.items) → IsOnWay name l.fn.place l.path.items l.at l.counter
