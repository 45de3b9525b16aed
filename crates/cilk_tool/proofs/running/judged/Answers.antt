use Rattle.cilk_messages.specs.ThreadsWords.{order_view}
use Rattle.cilk_checker.specs.Judging.{meant}
use Rattle.cilk_tool.proofs.Accepted.{accepts, beside, with_run_err, with_run_ok}
use Rattle.cilk_tool.proofs.running.judged.Goals as goal

pub returns-in-Accepted-clause-answer : goal.returns-in-Accepted-clause-answer
returns-in-Accepted-clause-answer g c =
    let met = accepts (meant c.args.program) c.args.input c.args.order.now.certificate.now
    (g.F.Files.holds c.args.files.now c.args.order.now.certificate.now) (g.F.Files.holds c.args.files.now c.unwrap_or.result.now)
    (g.F.Files.holds c.checked.new.files c.unwrap_or.result.now) (g.F.Files.failed c.args.files.now) (g.F.Files.failed c.checked.new.files)
    c.in_ok-accepted.field-0 c.in-Accepted.accepted c.in-Accepted.is
    c.in_ok-accepted.ensures.verdict c.in_ok-accepted.ensures.beside in
    with_run_ok (g.F.Files.holds c.args.files.now) (g.F.Files.holds c.checked.new.files) (g.F.Files.failed c.args.files.now)
    (g.F.Files.failed c.checked.new.files) (g.F.Files.failed c.accepted_run.new.files) (order_view c.args.order.now) (meant c.args.program) c.args.input
    c.in-Accepted.accepted met.0 met.1
    (beside (g.F.Files.holds c.args.files.now) (g.F.Files.holds c.checked.new.files) c.args.order.now.on c.args.order.now.certificate
    c.unwrap_or.result c.unwrap_or.ensures met.2)
    c.accepted_run.result c.accepted_run.ensures.answer

pub returns-in-Accepted-clause-failure : goal.returns-in-Accepted-clause-failure
returns-in-Accepted-clause-failure g c =
    let met = accepts (meant c.args.program) c.args.input c.args.order.now.certificate.now
    (g.F.Files.holds c.args.files.now c.args.order.now.certificate.now) (g.F.Files.holds c.args.files.now c.unwrap_or.result.now)
    (g.F.Files.holds c.checked.new.files c.unwrap_or.result.now) (g.F.Files.failed c.args.files.now) (g.F.Files.failed c.checked.new.files)
    c.in_ok-accepted.field-0 c.in-Accepted.accepted c.in-Accepted.is
    c.in_ok-accepted.ensures.verdict c.in_ok-accepted.ensures.beside in
    with_run_err (g.F.Files.holds c.args.files.now) (g.F.Files.holds c.checked.new.files) (g.F.Files.failed c.args.files.now)
    (g.F.Files.failed c.checked.new.files) (g.F.Files.failed c.accepted_run.new.files) (order_view c.args.order.now) (meant c.args.program) c.args.input
    c.in-Accepted.accepted met.0 met.1
    (beside (g.F.Files.holds c.args.files.now) (g.F.Files.holds c.checked.new.files) c.args.order.now.on c.args.order.now.certificate
    c.unwrap_or.result c.unwrap_or.ensures met.2)
    c.accepted_run.result c.accepted_run.ensures.failure
