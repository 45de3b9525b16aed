use Rattle.std.proofs.Common.{ap₂, rules}
use Rattle.cilk_checker.proofs.Uncounted.{refused_by}
use Rattle.cilk_checker.specs.Judging.{meant}
use Rattle.cilk_program.specs.Sources.{source}
use Rattle.cilk_commands.proofs.Kept.{stays}
use Rattle.cilk_commands.proofs.Unread.{unread}
use Rattle.cilk_commands.proofs.Replying.{accepted_whole, refused_err, refused_ok, refused_whole}
use Rattle.cilk_commands.proofs.running.checked.Goals as goal

pub returns-in-Err-Refusal-clause-answer : goal.returns-in-Err-Refusal-clause-answer
returns-in-Err-Refusal-clause-answer g c =
    let made = c.new-source.ensures in
    refused_ok c.refused.result c.args.path.now (g.F.Files.holds c.args.files.now c.args.path.now) (λ files. g.F.Files.failed files) c.args.files.now _
    (meant c.args.program) c.args.input c.in-Err-Refusal.refusal c.refused.ensures.answer
    (stays (λ files. g.F.Files.failed files) (λ files. g.F.Files.holds files) c.args.files.now c.new-source.result.files.now c.check_run.new.source.files.now _
    _ _ _ _ _ _ c.args.path.now c.args.path.now made.files made.path made.other c.check_run.ensures.kept (search rules)
    (refused_by _ _ c.in-Err-Refusal.field-0 c.in-Err-Refusal.refusal (search rules) c.in-Err-Refusal.ensures.unfailed)).0
    (refused_whole _ _ _ _ _ _ _ c.in-Err-Refusal.field-0 _ (ap₂ (λ files path. g.F.Files.holds files path) made.files made.path)
    made.at (search rules) c.in-Err-Refusal.ensures.unaccepted)

pub returns-in-Err-Refusal-clause-failure : goal.returns-in-Err-Refusal-clause-failure
returns-in-Err-Refusal-clause-failure g c =
    let made = c.new-source.ensures in
    refused_err c.refused.result c.args.path.now (g.F.Files.holds c.args.files.now c.args.path.now) (λ files. g.F.Files.failed files) c.args.files.now _
    (meant c.args.program) c.args.input c.refused.ensures.failure
    (stays (λ files. g.F.Files.failed files) (λ files. g.F.Files.holds files) c.args.files.now c.new-source.result.files.now c.check_run.new.source.files.now _
    _ _ _ _ _ _ c.args.path.now c.args.path.now made.files made.path made.other c.check_run.ensures.kept (search rules)
    (refused_by _ _ c.in-Err-Refusal.field-0 c.in-Err-Refusal.refusal (search rules) c.in-Err-Refusal.ensures.unfailed)).0

pub returns-in-Ok-clause-answer : goal.returns-in-Ok-clause-answer
returns-in-Ok-clause-answer g c =
    let made = c.new-source.ensures in
    let a = c.in-Ok._accepted in (
      (stays (λ files. g.F.Files.failed files) (λ files. g.F.Files.holds files) c.args.files.now c.new-source.result.files.now c.check_run.new.source.files.now _
          _ _ _ _ _ _ c.args.path.now c.args.path.now made.files made.path made.other c.check_run.ensures.kept (search rules) c.in-Ok.ensures.uncounted).0,
      (
        a.trace,
        a.outcome,
        accepted_whole (source c.args.program) c.args.input _ _ _ a.trace a.outcome
            (ap₂ (λ files path. g.F.Files.holds files path) made.files made.path) made.at c.in-Ok.ensures.accepted,
      ),
    )

pub returns-in-Err-Unread-clause-failure : goal.returns-in-Err-Unread-clause-failure
returns-in-Err-Unread-clause-failure g c =
    let made = c.new-source.ensures in
    unread (λ files. g.F.Files.failed files) (λ files. g.F.Files.holds files) c.args.files.now c.new-source.result.files.now c.check_run.new.source.files.now _
    _ _ _ _ _ _ c.args.path.now c.args.path.now made.files made.path made.other c.check_run.ensures.kept (search rules)
    c.new-source.result.at c.check_run.new.source.at _ made.at made.before c.check_run.new.source.stopped (meant c.args.program) c.args.input
    c.in-Err-Unread.field-0 c.in-Err-Unread.field-0-is c.in-Err-Unread.ensures.unaccepted c.in-Err-Unread.ensures.part
