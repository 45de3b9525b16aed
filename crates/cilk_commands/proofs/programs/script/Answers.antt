use Rattle.cilk_checker.specs.Judging.{meant}
use Rattle.cilk_commands.proofs.Replying.{steps_fail, steps_shown}
use Rattle.cilk_commands.proofs.programs.script.Goals as goal

pub returns-clause-ok : goal.returns-clause-ok
returns-clause-ok c =
    steps_shown c.manner_left.result c.args.manner c.args.text.now c.in_ok-steps.steps.items c.as_slice.result.now (meant c.args.program.now) c.args.input.now
    c.in_ok-steps.ensures.ok c.as_slice.ensures.value c.manner_left.ensures.ok

pub returns-clause-err : goal.returns-clause-err
returns-clause-err c =
    steps_fail c.manner_left.result c.args.manner c.args.text.now c.in_ok-steps.steps.items c.as_slice.result.now (meant c.args.program.now) c.args.input.now
    c.in_ok-steps.ensures.ok c.as_slice.ensures.value c.manner_left.ensures.err
