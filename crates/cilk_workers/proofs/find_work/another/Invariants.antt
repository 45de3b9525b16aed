use Rattle.std.specs.Prelude.{◌≡◌, length}
use Rattle.cilk_workers.specs.Held.{all_stolen}
use Rattle.cilk_workers.proofs.find_work.another.Given as goal

abbrev pub invariant-each : goal.invariant-each
invariant-each g l = (all_stolen l.pickers.items ≡ all_stolen l.fn.pickers.items) × (length l.pickers.items ≡ length l.fn.pickers.items)
