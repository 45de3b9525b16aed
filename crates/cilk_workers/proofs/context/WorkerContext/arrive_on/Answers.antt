use Rattle.std.proofs.Common.{◌∙◌}
use Rattle.cilk_workers.proofs.Arrivals.{arrives, marked}
use Rattle.cilk_workers.proofs.context.WorkerContext.arrive_on.Goals as goal

pub returns-clause-arrived : goal.returns-clause-arrived
returns-clause-arrived g c =
    let found = c.in-Ok.found in
    let after = c.arrive_at-met.new.found in
    let met = c.arrive_at-met.result in
    arrives c.args.shelf.now c.taken_from.new.shelf c.put.new.self c.args.block.sync c.args.arrival found after met c.wait_if_passed.ensures c.in-Ok.ensures.taken c.arrive_at-met.ensures.may c.arrive_at-met.ensures.fits c.arrive_at-met.ensures.answers c.put.ensures.put
    (marked c.args.shelf.now c.taken_from.new.shelf c.put.new.self c.args.block.sync after met c.is_pass-passes.result c.taken_from.ensures.passed (c.arrive_at-met.ensures.same.2 ∙ c.in-Ok.ensures.of.1) c.is_pass-passes.ensures c.put.ensures.passed)
