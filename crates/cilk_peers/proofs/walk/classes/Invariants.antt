use Rattle.std.proofs.Common.{vec_len}
use Rattle.cilk_peers.proofs.Walks.{Walked}
use Rattle.cilk_peers.proofs.walk.classes.Given as goal

abbrev pub invariant-loop-node : goal.invariant-loop-node
invariant-loop-node l = Walked l.node-items l.node-index (vec_len l.numbers) l.numbers.items l.waiting
