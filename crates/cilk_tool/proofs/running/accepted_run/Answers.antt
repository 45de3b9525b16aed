use Rattle.std.proofs.Common.{refl}
use Rattle.cilk_checker.specs.Judging.{meant}
use Rattle.cilk_commands.specs.Replies.{failure_view}
use Rattle.cilk_commands.proofs.Replying.{handed}
use Rattle.cilk_tool.proofs.Accepted.{fails, named_numbers, own_numbers, runs, ungiven}
use Rattle.cilk_tool.proofs.running.accepted_run.Goals as goal

pub returns-in_err-numbers-in-Some-clause-failure : goal.returns-in_err-numbers-in-Some-clause-failure
returns-in_err-numbers-in-Some-clause-failure g c =
    handed c.from_residual.result c.in_err-numbers-in-Some.field-0.0 _ c.from_residual.ensures.1
    (ungiven (g.F.Files.holds c.args.files.now) (g.F.Files.failed c.args.files.now) (g.F.Files.failed c.numbers.new.files) c.in-Some.path c.args.on
    c.args.workers c.args.accepted.now (meant c.args.accepted.now.program) (failure_view c.in_err-numbers-in-Some.field-0.0) c.in-Some.is
    c.in_err-numbers-in-Some.ensures.failure)

pub returns-in-None-clause-answer : goal.returns-in-None-clause-answer
returns-in-None-clause-answer g c =
    runs (g.F.Files.holds c.args.files.now) (g.F.Files.failed c.args.files.now) (g.F.Files.failed c.args.files.now) c.run.result _ _ c.args.workers
    c.args.accepted.now (meant c.args.accepted.now.program) refl
    (own_numbers (g.F.Files.holds c.args.files.now) c.args.on c.args.accepted.now.input c.input.result.now c.in-None.is c.input.ensures.value)
    c.run.ensures.answer

pub returns-in-None-clause-failure : goal.returns-in-None-clause-failure
returns-in-None-clause-failure g c =
    fails (g.F.Files.holds c.args.files.now) (g.F.Files.failed c.args.files.now) (g.F.Files.failed c.args.files.now) c.run.result _ _ c.args.workers
    c.args.accepted.now (meant c.args.accepted.now.program) refl
    (own_numbers (g.F.Files.holds c.args.files.now) c.args.on c.args.accepted.now.input c.input.result.now c.in-None.is c.input.ensures.value)
    c.run.ensures.failure

pub returns-in_ok-numbers-in-Some-clause-answer : goal.returns-in_ok-numbers-in-Some-clause-answer
returns-in_ok-numbers-in-Some-clause-answer g c =
    runs (g.F.Files.holds c.args.files.now) (g.F.Files.failed c.args.files.now) (g.F.Files.failed c.numbers.new.files) c.run-in-Some.result _ _ c.args.workers
    c.args.accepted.now (meant c.args.accepted.now.program) c.in_ok-numbers-in-Some.ensures.uncounted
    (named_numbers (g.F.Files.holds c.args.files.now) c.args.on c.in-Some.path c.args.accepted.now.input c.in_ok-numbers-in-Some.numbers c.in-Some.is
    c.in_ok-numbers-in-Some.ensures.numbers)
    c.run-in-Some.ensures.answer

pub returns-in_ok-numbers-in-Some-clause-failure : goal.returns-in_ok-numbers-in-Some-clause-failure
returns-in_ok-numbers-in-Some-clause-failure g c =
    fails (g.F.Files.holds c.args.files.now) (g.F.Files.failed c.args.files.now) (g.F.Files.failed c.numbers.new.files) c.run-in-Some.result _ _ c.args.workers
    c.args.accepted.now (meant c.args.accepted.now.program) c.in_ok-numbers-in-Some.ensures.uncounted
    (named_numbers (g.F.Files.holds c.args.files.now) c.args.on c.in-Some.path c.args.accepted.now.input c.in_ok-numbers-in-Some.numbers c.in-Some.is
    c.in_ok-numbers-in-Some.ensures.numbers)
    c.run-in-Some.ensures.failure
