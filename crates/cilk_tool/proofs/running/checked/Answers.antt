use Rattle.std.proofs.Common.{ap, ap₂, rules}
use Rattle.cilk_checker.proofs.Uncounted.{refused_by}
use Rattle.cilk_checker.specs.Judging.{meant}
use Rattle.cilk_program.specs.Sources.{source}
use Rattle.cilk_commands.proofs.Kept.{stays}
use Rattle.cilk_commands.specs.Replies.{failure_view}
use Rattle.cilk_commands.proofs.Replying.{accepted_whole, handed, refused_whole}
use Rattle.cilk_commands.proofs.Unread.{unread}
use Rattle.cilk_tool.proofs.Checked.{refuses, starves, unread_apart}
use Rattle.cilk_tool.proofs.Moments.{still}
use Rattle.cilk_tool.proofs.running.checked.Goals as goal

pub returns-in-Ok-clause-beside : goal.returns-in-Ok-clause-beside
returns-in-Ok-clause-beside g c =
    let made = c.new.ensures in
    still (λ files. g.F.Files.failed files) (λ files. g.F.Files.holds files) g.M.Moment.failed c.args.files.now c.new.result.files.now
    c.check_run.new.source.parts.files.now _ _ _ _ _ _ _ c.args.paths.path.now c.args.paths.other.now made.files made.path made.other c.check_run.ensures.kept
    (search rules) c.in-Ok.ensures.uncounted c.requires.moment c.check_run.new.source.same

pub returns-in-Err-Unread-clause-failure : goal.returns-in-Err-Unread-clause-failure
returns-in-Err-Unread-clause-failure g c =
    let made = c.new.ensures in (
      unread_apart c.args.paths.path.now,
      unread (λ files. g.F.Files.failed files) (λ files. g.F.Files.holds files) c.args.files.now c.new.result.files.now c.check_run.new.source.parts.files.now _
          _ _ _ _ _ _ c.args.paths.path.now c.args.paths.other.now made.files made.path made.other c.check_run.ensures.kept (search rules)
          c.new.result.at c.check_run.new.source.parts.at _ made.at made.before c.check_run.new.source.parts.stopped (meant c.args.program) c.args.input
          c.in-Err-Unread.field-0 c.in-Err-Unread.field-0-is c.in-Err-Unread.ensures.unaccepted c.in-Err-Unread.ensures.part,
    )

pub returns-in_ok-refused-in-Err-Refusal-clause-verdict : goal.returns-in_ok-refused-in-Err-Refusal-clause-verdict
returns-in_ok-refused-in-Err-Refusal-clause-verdict g c =
    let made = c.new.ensures in
    refuses (λ files. g.F.Files.failed files) c.args.files.now _ c.in_ok-refused-in-Err-Refusal.field-0 c.args.paths.path.now
    (g.F.Files.holds c.args.files.now c.args.paths.path.now) (meant c.args.program) c.args.input c.in-Err-Refusal.refusal
    c.in_ok-refused-in-Err-Refusal.ensures.answer
    (stays (λ files. g.F.Files.failed files) (λ files. g.F.Files.holds files) c.args.files.now c.new.result.files.now c.check_run.new.source.parts.files.now _
    _ _ _ _ _ _ c.args.paths.path.now c.args.paths.other.now made.files made.path made.other c.check_run.ensures.kept (search rules)
    (refused_by _ _ c.in-Err-Refusal.field-0 c.in-Err-Refusal.refusal (search rules) c.in-Err-Refusal.ensures.unfailed)).0
    (refused_whole _ _ _ _ _ _ _ c.in-Err-Refusal.field-0 _ (ap₂ (λ files path. g.F.Files.holds files path) made.files made.path)
    made.at (search rules) c.in-Err-Refusal.ensures.unaccepted)

pub returns-in_err-refused-in-Err-Refusal-clause-failure : goal.returns-in_err-refused-in-Err-Refusal-clause-failure
returns-in_err-refused-in-Err-Refusal-clause-failure g c =
    let made = c.new.ensures in
    handed c.from_residual.result c.in_err-refused-in-Err-Refusal.field-0.0 _ c.from_residual.ensures.1
    (starves (λ files. g.F.Files.failed files) c.args.files.now _ (failure_view c.in_err-refused-in-Err-Refusal.field-0.0) c.args.paths.path.now
    (g.F.Files.holds c.args.files.now c.args.paths.path.now) (meant c.args.program) c.args.input c.in_err-refused-in-Err-Refusal.ensures.failure
    (stays (λ files. g.F.Files.failed files) (λ files. g.F.Files.holds files) c.args.files.now c.new.result.files.now c.check_run.new.source.parts.files.now _
    _ _ _ _ _ _ c.args.paths.path.now c.args.paths.other.now made.files made.path made.other c.check_run.ensures.kept (search rules)
    (refused_by _ _ c.in-Err-Refusal.field-0 c.in-Err-Refusal.refusal (search rules) c.in-Err-Refusal.ensures.unfailed)).0)

pub returns-in-Ok-clause-verdict : goal.returns-in-Ok-clause-verdict
returns-in-Ok-clause-verdict g c =
    let made = c.new.ensures in
    let a = c.in-Ok.accepted in record {
      program = ap meant c.in-Ok.ensures.program;
      input = c.in-Ok.ensures.input;
      certified = accepted_whole (source c.args.program) c.args.input _ _ _ a.trace a.outcome
          (ap₂ (λ files path. g.F.Files.holds files path) made.files made.path) made.at c.in-Ok.ensures.accepted;
    }
