use Rattle.std.proofs.Common.{◌≡◌}
use Rattle.std.specs.Prelude.{take}
use Rattle.cilk_trace.proofs.Grains.{doubled}
use Rattle.cilk_trace.proofs.histories.Page.halve.Given as goal

abbrev pub invariant-each : goal.invariant-each
invariant-each l = l.halves.items ≡ doubled (take l.place l.self.grains.items)
