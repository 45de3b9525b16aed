use Rattle.std.proofs.Common.{◌∙◌}
use Rattle.cilk_checker.specs.Judging.{meant}
use Rattle.cilk_commands.proofs.Replying.{both_given, handed, input_refused, input_unread, program_refused}
use Rattle.cilk_commands.proofs.running.given.Goals as goal

pub returns-in_err-program-clause-failure : goal.returns-in_err-program-clause-failure
returns-in_err-program-clause-failure g c =
    handed c.from_residual-in_err-program.result c.in_err-program.field-0.0 _ c.from_residual-in_err-program.ensures.1
    (program_refused _ _ _ _ _ _ c.in_ok-text.ensures.given c.as_slice.ensures.value c.in_err-program.ensures.err
    c.in_ok-text.ensures.uncounted)

pub returns-in_err-text-2-clause-failure : goal.returns-in_err-text-2-clause-failure
returns-in_err-text-2-clause-failure g c =
    handed c.from_residual-in_err-text-2.result c.in_err-text-2.field-0.0 _ c.from_residual-in_err-text-2.ensures.1
    (input_unread _ _ _ _ _ _ (meant c.in_ok-program.program) _ c.in_ok-text.ensures.given c.as_slice.ensures.value c.in_ok-program.ensures.ok c.in_ok-text.ensures.uncounted
    c.in_err-text-2.ensures.fault)

pub returns-in_err-input-clause-failure : goal.returns-in_err-input-clause-failure
returns-in_err-input-clause-failure g c =
    handed c.from_residual-in_err-input.result c.in_err-input.field-0.0 _ c.from_residual-in_err-input.ensures.1
    (input_refused _ _ _ _ _ _ (meant c.in_ok-program.program) _ _ _ c.in_ok-text.ensures.given c.as_slice.ensures.value c.in_ok-program.ensures.ok c.read_program.ensures.same
    c.in_ok-text-2.ensures.given c.as_slice-2.ensures.value c.in_err-input.ensures.err
    (c.in_ok-text-2.ensures.uncounted ∙ c.in_ok-text.ensures.uncounted))

pub returns-clause-given : goal.returns-clause-given
returns-clause-given g c =
    both_given _ _ _ _ _ (meant c.in_ok-program.program) _ _ _ c.in_ok-input.input c.in_ok-text.ensures.given c.as_slice.ensures.value c.in_ok-program.ensures.ok
    c.read_program.ensures.same c.in_ok-text-2.ensures.given c.as_slice-2.ensures.value c.in_ok-input.ensures.ok
