use Rattle.cilk_workers.proofs.RackKeys.{empty, unlocks}
use Rattle.cilk_workers.proofs.lock.unlock.Goals as goal

pub push_as-requires-clause-rule : goal.push_as-requires-clause-rule
push_as-requires-clause-rule g c = (unlocks g.N.Naming.run g.N.Naming.replay _ _ _ c.requires.back.0 _ c.requires.back.1 c.requires.back.2 c.requires.back.3, empty g.N.Naming.run g.N.Naming.replay _ _)
