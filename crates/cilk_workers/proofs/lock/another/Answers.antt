use Rattle.cilk_workers.proofs.RackKeys.{forks}
use Rattle.cilk_workers.proofs.lock.another.Goals as goal

pub another-requires-clause-rule : goal.another-requires-clause-rule
another-requires-clause-rule g c = forks g.N.Naming.run g.N.Naming.replay _ _ c.requires.0 c.requires.1.1
