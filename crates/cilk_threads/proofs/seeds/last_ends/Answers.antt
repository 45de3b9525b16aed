use Rattle.std.specs.Prelude.{All}
use Rattle.cilk_threads.specs.WorkerSeeds.{IsTake}
use Rattle.cilk_threads.proofs.Popped.{rest, one}
use Rattle.cilk_threads.proofs.seeds.last_ends.Goals as goal

pub returns-clause-rest : goal.returns-clause-rest
returns-clause-rest g c = rest (λ ts. All IsTake ts.items) _ _ _ c.pop.ensures.items c.requires

pub returns-clause-one : goal.returns-clause-one
returns-clause-one g c = one (λ ts. All IsTake ts.items) _ _ _ c.pop.ensures.items c.requires
