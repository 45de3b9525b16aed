use Rattle.cilk_workers.proofs.RackKeys.{begins, empty, opens}
use Rattle.cilk_workers.proofs.lock.new_locked.Goals as goal

pub ruled-requires-clause-rule : goal.ruled-requires-clause-rule
ruled-requires-clause-rule g c = begins g.N.Naming.run g.N.Naming.replay

pub push_as-requires-clause-rule : goal.push_as-requires-clause-rule
push_as-requires-clause-rule g c = (opens g.N.Naming.run g.N.Naming.replay _ _ _ _ c.in_ok-lock.ensures.3 c.requires.0 c.requires.1, empty g.N.Naming.run g.N.Naming.replay _ _)
