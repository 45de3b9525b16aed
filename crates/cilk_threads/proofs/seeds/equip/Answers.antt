use Rattle.cilk_threads.specs.WorkerSeeds.{IsWorkerSeed}
use Rattle.cilk_threads.proofs.Popped.{more}
use Rattle.cilk_threads.proofs.seeds.equip.Goals as goal

pub returns : goal.returns
returns g c = more (IsWorkerSeed c.args.shared.now c.args.locks.now.items) _ _ _ c.in_ok-push.ensures.items c.requires.seeds c.requires.seed
