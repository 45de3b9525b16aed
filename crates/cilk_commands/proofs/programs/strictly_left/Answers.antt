use Rattle.cilk_checker.specs.Judging.{meant}
use Rattle.cilk_commands.proofs.Replying.{strict_fault_shown, strict_left_err, strict_left_ok}
use Rattle.cilk_commands.proofs.programs.strictly_left.Goals as goal

pub returns-in-Ok-clause-ok : goal.returns-in-Ok-clause-ok
returns-in-Ok-clause-ok c =
    strict_left_ok c.left.result c.args.workers c.args.steps.now (meant c.args.program.now) c.args.input.now c.in-Ok.outcome c.in-Ok.ensures.left c.in-Ok.ensures.settled c.in-Ok.ensures.all
    c.left.ensures.ok

pub returns-in-Ok-clause-err : goal.returns-in-Ok-clause-err
returns-in-Ok-clause-err c = strict_left_err c.left.result c.args.workers c.args.steps.now (meant c.args.program.now) c.args.input.now c.left.ensures.err

pub returns-in-Err-clause-err : goal.returns-in-Err-clause-err
returns-in-Err-clause-err c =
    strict_fault_shown c.args.workers c.args.steps.now (meant c.args.program.now) c.args.input.now c.in-Err.fault _ c.in-Err.ensures.fault c.in-Err.ensures.no_stop c.unmade.ensures
