use Rattle.cilk_checker.specs.Judging.{meant}
use Rattle.cilk_commands.specs.Serving.{Unjudged}
use Rattle.cilk_commands.specs.Shown.{CheckShows}
use Rattle.cilk_commands.proofs.Replying.{checked_err, checked_ok, given_later, handed, judged_err, judged_ok}
use Rattle.cilk_tool.proofs.helping.check_by_helpers.Goals as goal

pub returns-in_err-program-clause-failure : goal.returns-in_err-program-clause-failure
returns-in_err-program-clause-failure g c =
    handed c.from_residual.result c.in_err-program.field-0.0 _ c.from_residual.ensures.1 (Unjudged c.in_err-program.ensures.failure)

pub returns-clause-answer : goal.returns-clause-answer
returns-clause-answer g c =
    judged_ok (CheckShows c.args.order.now.certificate.now (g.F.Files.holds c.args.files.now c.args.order.now.certificate.now)
    (g.F.Files.failed c.args.files.now) (g.F.Files.failed c.checked.new.files)) c.checked.result _ _ _ (meant c.in_ok-program.program) c.in_ok-program.input
    (given_later _ _ _ _ _ _ _ _ _ c.in_ok-program.ensures.given)
    (checked_ok c.checked.result c.args.order.now.certificate.now _ _ _ _ (g.F.Files.failed c.checked.new.files) (meant c.in_ok-program.program)
    c.in_ok-program.input (c.given.ensures.same c.args.order.now.certificate.now) c.in_ok-program.ensures.uncounted c.checked.ensures.answer)

pub returns-clause-failure : goal.returns-clause-failure
returns-clause-failure g c =
    judged_err (CheckShows c.args.order.now.certificate.now (g.F.Files.holds c.args.files.now c.args.order.now.certificate.now)
    (g.F.Files.failed c.args.files.now) (g.F.Files.failed c.checked.new.files)) c.checked.result _ _ _ (meant c.in_ok-program.program) c.in_ok-program.input
    (given_later _ _ _ _ _ _ _ _ _ c.in_ok-program.ensures.given)
    (checked_err c.checked.result c.args.order.now.certificate.now _ _ _ _ (g.F.Files.failed c.checked.new.files) (meant c.in_ok-program.program)
    c.in_ok-program.input (c.given.ensures.same c.args.order.now.certificate.now) c.in_ok-program.ensures.uncounted c.checked.ensures.failure)
