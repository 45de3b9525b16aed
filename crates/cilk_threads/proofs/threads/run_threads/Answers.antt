use Rattle.cilk_threads.proofs.Left.{own_outcome}
use Rattle.cilk_threads.proofs.Whole.{stays}
use Rattle.cilk_threads.proofs.threads.run_threads.Goals as goal

pub returns-in-Ok-left-clause-own : goal.returns-in-Ok-left-clause-own
returns-in-Ok-left-clause-own g c =
    λ same. own_outcome c.args.plan.now.run c.laws.ensures.determinate c.args.input.now c.in-Ok-left.outcome c.in-Ok-left.ensures.outcome same

pub returns-clause-stays : goal.returns-clause-stays
returns-clause-stays g c = λ same. stays c.own_event_order.ensures c.args.plan.now c.args.input.now c.args.workers c.in-Err.fault c.laws.ensures.plan c.in-Err.ensures.err same
