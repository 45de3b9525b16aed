use Rattle.cilk_checker.specs.Judging.{meant}
use Rattle.cilk_commands.specs.Serving.{Unjudged}
use Rattle.cilk_commands.proofs.Replying.{given_later, handed, judged_err}
use Rattle.cilk_tool.specs.Shown.{ThreadsShow}
use Rattle.cilk_messages.specs.ThreadsWords.{order_view}
use Rattle.cilk_tool.proofs.Accepted.{earlier_err, earlier_ok, judged_ok}
use Rattle.cilk_tool.proofs.running.carry_out.Goals as goal

pub returns-in_err-program-clause-failure : goal.returns-in_err-program-clause-failure
returns-in_err-program-clause-failure g c =
    handed c.from_residual.result c.in_err-program.field-0.0 _ c.from_residual.ensures.1 (Unjudged c.in_err-program.ensures.failure)

pub returns-clause-answer : goal.returns-clause-answer
returns-clause-answer g c =
    judged_ok (ThreadsShow (g.F.Files.holds c.args.files.now) (g.F.Files.failed c.args.files.now) (g.F.Files.failed c.judged.new.files) (order_view c.args.order.now))
    c.judged.result _ _ _ (meant c.in_ok-program.program) c.in_ok-program.input
    (given_later _ _ _ _ _ _ _ _ _ c.in_ok-program.ensures.given)
    (earlier_ok (g.F.Files.holds c.args.files.now) (g.F.Files.holds c.given.new.files) (g.F.Files.failed c.args.files.now) (g.F.Files.failed c.given.new.files)
    (g.F.Files.failed c.judged.new.files) c.given.ensures.same c.in_ok-program.ensures.uncounted c.judged.result (order_view c.args.order.now)
    (meant c.in_ok-program.program) c.in_ok-program.input c.judged.ensures.answer)

pub returns-clause-failure : goal.returns-clause-failure
returns-clause-failure g c =
    judged_err (ThreadsShow (g.F.Files.holds c.args.files.now) (g.F.Files.failed c.args.files.now) (g.F.Files.failed c.judged.new.files) (order_view c.args.order.now))
    c.judged.result _ _ _ (meant c.in_ok-program.program) c.in_ok-program.input
    (given_later _ _ _ _ _ _ _ _ _ c.in_ok-program.ensures.given)
    (earlier_err (g.F.Files.holds c.args.files.now) (g.F.Files.holds c.given.new.files) (g.F.Files.failed c.args.files.now) (g.F.Files.failed c.given.new.files)
    (g.F.Files.failed c.judged.new.files) c.given.ensures.same c.in_ok-program.ensures.uncounted c.judged.result (order_view c.args.order.now)
    (meant c.in_ok-program.program) c.in_ok-program.input c.judged.ensures.failure)
