use Rattle.std.proofs.Common.{◌≡◌}
use Rattle.cilk_threads.proofs.Popped.{rest, one}
use Rattle.cilk_threads.proofs.pool.last_handle.Goals as goal

pub returns-clause-rest : goal.returns-clause-rest
returns-clause-rest c = rest (λ h. h.promise.shared.now ≡ c.args.shared.now) _ _ _ c.pop.ensures.items c.requires

pub returns-clause-one : goal.returns-clause-one
returns-clause-one c = one (λ h. h.promise.shared.now ≡ c.args.shared.now) _ _ _ c.pop.ensures.items c.requires
