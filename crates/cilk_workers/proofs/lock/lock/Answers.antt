use Rattle.std.proofs.Common.{subst}
use Rattle.cilk_workers.specs.Locks.{IsPopped}
use Rattle.cilk_workers.specs.declared.lock.KeyState.{KeyState}
use Rattle.cilk_workers.proofs.RackKeys.{locks}
use Rattle.cilk_workers.proofs.lock.lock.Goals as goal

pub pop_as-requires-clause-rule : goal.pop_as-requires-clause-rule
pop_as-requires-clause-rule g c = (locks g.N.Naming.run g.N.Naming.replay _ _, λ _ _ _ _. tt)

pub returns-in-Some-pop_as-clause-found : goal.returns-in-Some-pop_as-clause-found
returns-in-Some-pop_as-clause-found g c = subst (λ (v : KeyState). IsPopped g.N.Naming.run g.N.Naming.replay v c.in-Some-pop_as.found) c.loop.invariant.1 c.in-Some-pop_as.ensures.rule.0
