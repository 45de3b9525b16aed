use Rattle.cilk_threads.specs.WorkerSeeds.{IsWorkerSeed}
use Rattle.cilk_threads.proofs.Popped.{rest, one}
use Rattle.cilk_threads.proofs.pool.last_seed.Goals as goal

pub returns-clause-rest : goal.returns-clause-rest
returns-clause-rest g c = rest (IsWorkerSeed c.args.shared.now c.args.locks.now.items) _ _ _ c.pop.ensures.items c.requires

pub returns-clause-one : goal.returns-clause-one
returns-clause-one g c = one (IsWorkerSeed c.args.shared.now c.args.locks.now.items) _ _ _ c.pop.ensures.items c.requires
