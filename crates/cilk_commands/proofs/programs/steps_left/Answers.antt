use Rattle.cilk_checker.specs.Judging.{meant}
use Rattle.cilk_commands.proofs.Replying.{fault_shown, left_err, left_ok}
use Rattle.cilk_commands.proofs.programs.steps_left.Goals as goal

pub returns-in-Ok-clause-ok : goal.returns-in-Ok-clause-ok
returns-in-Ok-clause-ok c =
    left_ok c.left.result c.args.workers c.args.steps.now (meant c.args.program.now) c.args.input.now c.in-Ok.outcome c.in-Ok.ensures.left c.in-Ok.ensures.settled
    c.left.ensures.ok

pub returns-in-Ok-clause-err : goal.returns-in-Ok-clause-err
returns-in-Ok-clause-err c = left_err c.left.result c.args.workers c.args.steps.now (meant c.args.program.now) c.args.input.now c.left.ensures.err

pub returns-in-Err-clause-err : goal.returns-in-Err-clause-err
returns-in-Err-clause-err c =
    fault_shown c.args.workers c.args.steps.now (meant c.args.program.now) c.args.input.now c.in-Err.fault _ c.in-Err.ensures.fault c.in-Err.ensures.no_stop c.unplayed.ensures
