use Rattle.cilk_checker.specs.Judging.{meant}
use Rattle.cilk_commands.specs.Replies.{failure_view}
use Rattle.cilk_commands.proofs.Replying.{handed, script_unread, texts_fail, texts_played}
use Rattle.cilk_commands.proofs.running.played.Goals as goal

pub returns-in_err-text-clause-failure : goal.returns-in_err-text-clause-failure
returns-in_err-text-clause-failure g c =
    handed c.from_residual.result c.in_err-text.field-0.0 _ c.from_residual.ensures.1
    (script_unread c.args.path.now (g.F.Files.holds c.args.files.now c.args.path.now) (g.F.Files.failed c.args.files.now) (g.F.Files.failed c.read_file.new.files)
    c.args.manner (meant c.args.program.now) c.args.input.now (failure_view c.in_err-text.field-0.0) c.in_err-text.ensures.fault)

pub returns-clause-answer : goal.returns-clause-answer
returns-clause-answer g c =
    texts_played c.args.path.now (g.F.Files.holds c.args.files.now c.args.path.now) (g.F.Files.failed c.args.files.now) (g.F.Files.failed c.read_file.new.files)
    c.in_ok-text.ensures.uncounted c.args.manner (meant c.args.program.now) c.args.input.now c.script.result _ _ c.in_ok-text.ensures.held
    c.as_slice.ensures.value c.script.ensures.ok

pub returns-clause-failure : goal.returns-clause-failure
returns-clause-failure g c =
    texts_fail c.args.path.now (g.F.Files.holds c.args.files.now c.args.path.now) (g.F.Files.failed c.args.files.now) (g.F.Files.failed c.read_file.new.files)
    c.in_ok-text.ensures.uncounted c.args.manner (meant c.args.program.now) c.args.input.now c.script.result _ _ c.in_ok-text.ensures.held
    c.as_slice.ensures.value c.script.ensures.err
