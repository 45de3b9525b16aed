use Rattle.std.proofs.Common.{◌≡◌, map, take}
use Rattle.cilk_lower.proofs.layout.loop_cells.Given as goal

abbrev pub invariant-each : goal.invariant-each
invariant-each l = l.cells.items ≡ map (λ x. x.cells) (take l.l-index l.loops)
