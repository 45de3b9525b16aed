use Rattle.std.proofs.Common.{◌+◌, ◌≤◌, length}
use Rattle.std.specs.Vec.{vec_capacity}
use Rattle.cilk_tree.specs.Placing.{AreBegun}
use Rattle.cilk_tree.proofs.plan_strands.strands.Given as goal

abbrev pub invariant-loop-event : goal.invariant-loop-event
invariant-loop-event l = AreBegun l.event-items l.event-index l.strand l.column.items × (length l.event-items + 1 ≤ vec_capacity l.column)
