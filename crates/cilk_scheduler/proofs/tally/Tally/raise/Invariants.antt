use Rattle.std.proofs.Common.{◌+◌, ◌-◌, sum, set, slice_index}
use Rattle.cilk_scheduler.proofs.Trees.{Lifts}
use Rattle.cilk_scheduler.proofs.tally.Tally.raise.Given as goal

abbrev pub invariant-up : goal.invariant-up
invariant-up l = Lifts l.self-inside.nodes.items l.self-inside.count l.node (sum l.fn.self) (set l.fn.self l.at (slice_index l.fn.self l.at + 1)) 1 0

abbrev pub decreases-up : goal.decreases-up
decreases-up l = l.node
