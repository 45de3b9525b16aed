use Rattle.cilk_workers.proofs.Moves.{pops, finds}
use Rattle.cilk_workers.proofs.rack.Rack.newest.Goals as goal

pub pop_as-requires-clause-lifo : goal.pop_as-requires-clause-lifo
pop_as-requires-clause-lifo g c _ = pops g.N.Naming.replay g.N.Naming.taken _ c.args.self.now.owner _ c.args.self.now.first

pub pop_as-requires-clause-empty : goal.pop_as-requires-clause-empty
pop_as-requires-clause-empty g c = finds g.N.Naming.replay g.N.Naming.taken _ c.args.self.now.owner _
