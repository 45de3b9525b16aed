use Rattle.cilk_checker.specs.Judging.{meant}
use Rattle.cilk_commands.specs.Serving.{Unjudged}
use Rattle.cilk_commands.specs.Shown.{PlayShows}
use Rattle.cilk_commands.proofs.Replying.{given_later, handed, judged_err, judged_ok, played_err, played_ok}
use Rattle.cilk_commands.proofs.running.play.Goals as goal

pub returns-in_err-program-clause-failure : goal.returns-in_err-program-clause-failure
returns-in_err-program-clause-failure g c =
    handed c.from_residual.result c.in_err-program.field-0.0 _ c.from_residual.ensures.1 (Unjudged c.in_err-program.ensures.failure)

pub returns-clause-answer : goal.returns-clause-answer
returns-clause-answer g c =
    judged_ok (PlayShows c.args.script.now (g.F.Files.holds c.args.files.now c.args.script.now)
    (g.F.Files.failed c.args.files.now) (g.F.Files.failed c.played.new.files) c.args.manner) c.played.result _ _ _ (meant c.in_ok-program.program) c.in_ok-program.input
    (given_later _ _ _ _ _ _ _ _ _ c.in_ok-program.ensures.given)
    (played_ok c.played.result c.args.script.now _ _ _ _ (g.F.Files.failed c.played.new.files) c.args.manner (meant c.in_ok-program.program) c.in_ok-program.input
    (c.given.ensures.same c.args.script.now) c.in_ok-program.ensures.uncounted c.played.ensures.answer)

pub returns-clause-failure : goal.returns-clause-failure
returns-clause-failure g c =
    judged_err (PlayShows c.args.script.now (g.F.Files.holds c.args.files.now c.args.script.now)
    (g.F.Files.failed c.args.files.now) (g.F.Files.failed c.played.new.files) c.args.manner) c.played.result _ _ _ (meant c.in_ok-program.program) c.in_ok-program.input
    (given_later _ _ _ _ _ _ _ _ _ c.in_ok-program.ensures.given)
    (played_err c.played.result c.args.script.now _ _ _ _ (g.F.Files.failed c.played.new.files) c.args.manner (meant c.in_ok-program.program) c.in_ok-program.input
    (c.given.ensures.same c.args.script.now) c.in_ok-program.ensures.uncounted c.played.ensures.failure)
