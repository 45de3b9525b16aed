use Rattle.std.proofs.Common.{◌≡◌, ◌++◌, pos, replicate}
use Rattle.cilk_scheduler.proofs.beginning.add_cells.Given as goal

abbrev pub invariant-each : goal.invariant-each
invariant-each l = l.cells.items ≡ l.initial.cells.items ++ replicate l.counter (pos 0)
