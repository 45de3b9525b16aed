use Rattle.std.proofs.Common.{suc}
use Rattle.crossbeam_queue.specs.Passes.{view}
use Rattle.cilk_workers.specs.Locks.{uses}
use Rattle.cilk_workers.specs.ShelfHistories.{ArrivesAt, ShelfStep}
use Rattle.cilk_workers.proofs.Steps.{keeps, makes, put_back, unlocked}
use Rattle.cilk_workers.proofs.context.WorkerContext.arrive_locked.Goals as goal

pub unlock-requires-clause-back : goal.unlock-requires-clause-back
unlock-requires-clause-back g c =
    let key = c.requires.key in
    let popped = c.lock-shelf.ensures.found in
    let step : ShelfStep = ArrivesAt c.args.block.sync c.args.arrival c.arrive_on-met.result in
    let its = keeps g.N.Naming.run c.args.self.now.shared.now.run key.0 c.lock-shelf.result c.args.block.number step c.requires.context.name.run popped.0.0 (popped.1 key.0 key.1.1) c.requires.number key.2 (c.requires.block, c.requires.ends) in
    (c.lock-shelf.result, uses (view c.args.key.now), c.lock-shelf.ensures.key.1, (step, (c.arrive_on-met.ensures.shelf, its, c.arrive_on-met.ensures.arrived)))

pub returns-clause-key : goal.returns-clause-key
returns-clause-key g c =
    let n = uses (view c.args.key.now) in
    let is = put_back (view c.lock-shelf.new.key) (view c.unlock.new.key) c.lock-shelf.result c.arrive_on-met.new.shelf n c.lock-shelf.ensures.key.1 c.unlock.ensures.1 in
    unlocked c.args.shelf_lock.now c.args.key.now c.lock-shelf.result c.arrive_on-met.new.shelf (suc n) c.unlock.new.key c.lock-shelf.ensures.found.1 c.arrive_on-met.ensures.shelf c.unlock.ensures.0 is

pub returns-clause-made : goal.returns-clause-made
returns-clause-made g c =
    let step : ShelfStep = ArrivesAt c.args.block.sync c.args.arrival c.arrive_on-met.result in
    makes c.args.key.now c.unlock.new.key (view c.lock-shelf.new.key) step c.lock-shelf.result c.arrive_on-met.new.shelf c.lock-shelf.ensures.key.1 c.unlock.ensures.1 c.arrive_on-met.ensures.arrived
