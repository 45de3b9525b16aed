use Rattle.std.proofs.Common.{◌-◌}
use Rattle.cilk_scheduler.proofs.Trees.{Stands}
use Rattle.cilk_scheduler.proofs.tally.Tally.find.Given as goal

abbrev pub invariant-down : goal.invariant-down
invariant-down l = Stands l.self-inside.nodes.items l.self-inside.count l.fn.rest l.node l.rest

abbrev pub decreases-down : goal.decreases-down
decreases-down l = l.self-inside.count - l.node
