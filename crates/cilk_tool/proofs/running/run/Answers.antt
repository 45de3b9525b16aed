use Rattle.std.proofs.Common.{sym}
use Rattle.cilk_tool.proofs.Accepted.{departs, ran, starved}
use Rattle.cilk_tool.proofs.running.run.Goals as goal

pub returns-in-Ok-clause-answer : goal.returns-in-Ok-clause-answer
returns-in-Ok-clause-answer g c =
    ran c.in_ok-plan.plan c.args.accepted.now c.args.numbers.now c.args.workers c.in-Ok.outcome c.ended.result c.in_ok-plan.ensures c.in-Ok.ensures.ok
    c.in-Ok.ensures.own c.in-Ok.ensures.follows c.ended.ensures.answer

pub returns-in-Ok-clause-failure : goal.returns-in-Ok-clause-failure
returns-in-Ok-clause-failure g c = starved c.args.accepted.now c.args.numbers.now c.args.workers c.ended.result c.ended.ensures.failure

pub returns-in-Err-Departs-clause-answer : goal.returns-in-Err-Departs-clause-answer
returns-in-Err-Departs-clause-answer g c =
    departs c.in_ok-plan.plan c.args.accepted.now c.args.numbers.now c.args.workers _ c.in-Err-Departs.at _ c.in_ok-plan.ensures c.in-Err-Departs.field-0-is
    (sym c.in-Err-Departs.at-is) c.laws.ensures.plan c.in-Err-Departs.ensures.err c.in-Err-Departs.ensures.stays
