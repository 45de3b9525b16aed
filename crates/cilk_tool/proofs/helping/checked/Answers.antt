use Rattle.std.proofs.Common.{Some, rules, subst, ◌∙◌}
use Rattle.cilk_checker.specs.Answers.{IsCertified}
use Rattle.cilk_checker.specs.Judging.{meant}
use Rattle.cilk_program.specs.Sources.{source}
use Rattle.cilk_commands.specs.Replies.{Text, failure_view}
use Rattle.cilk_commands.proofs.Replying.{handed, none_failed, refused_err, refused_ok}
use Rattle.cilk_tool.proofs.Helped.{certified_held, refused_text, unread_file}
use Rattle.cilk_tool.proofs.helping.checked.Goals as goal

pub returns-clause-answer : goal.returns-clause-answer
returns-clause-answer g c =
    refused_ok c.refused.result c.args.path.now (g.F.Files.holds c.args.files.now c.args.path.now) (λ files. g.F.Files.failed files) c.args.files.now _
    (meant c.args.program) c.args.input c.in-Err-Refusal.refusal c.refused.ensures.answer
    (none_failed (g.F.Files.failed c.args.files.now) (g.F.Files.failed c.read_file.new.files) c.args.path.now c.in_ok-text.ensures.uncounted)
    (refused_text _ _ _ c.in_ok-text.text.items _ _ _ c.in-Err-Refusal.field-0 _ c.in_ok-text.ensures.held
    (c.new-source.ensures ∙ c.as_slice-text.ensures.value) (search rules) c.in-Err-Refusal.ensures.unaccepted)

pub returns-in-Ok-check_end-clause-answer : goal.returns-in-Ok-check_end-clause-answer
returns-in-Ok-check_end-clause-answer g c =
    let a = c.in-Ok-check_end._accepted in (
      none_failed (g.F.Files.failed c.args.files.now) (g.F.Files.failed c.read_file.new.files) c.args.path.now c.in_ok-text.ensures.uncounted,
      (
        a.trace,
        a.outcome,
        certified_held (source c.args.program) c.args.input (g.F.Files.holds c.args.files.now c.args.path.now) c.in_ok-text.text.items a.trace a.outcome
            c.in_ok-text.ensures.held
            (subst (λ (t : Text). IsCertified (source c.args.program) c.args.input (Some t) a.trace a.outcome)
            (c.new-source.ensures ∙ c.as_slice-text.ensures.value) c.in-Ok-check_end.ensures.accepted),
      ),
    )

pub returns-in_err-text-clause-failure : goal.returns-in_err-text-clause-failure
returns-in_err-text-clause-failure g c =
    handed c.from_residual.result c.in_err-text.field-0.0 _ c.from_residual.ensures.1
    (unread_file c.args.path.now (g.F.Files.holds c.args.files.now c.args.path.now) (g.F.Files.failed c.args.files.now) (g.F.Files.failed c.read_file.new.files)
    (meant c.args.program) c.args.input (failure_view c.in_err-text.field-0.0) c.in_err-text.ensures.fault)

pub returns-clause-failure : goal.returns-clause-failure
returns-clause-failure g c =
    refused_err c.refused.result c.args.path.now (g.F.Files.holds c.args.files.now c.args.path.now) (λ files. g.F.Files.failed files) c.args.files.now _
    (meant c.args.program) c.args.input c.refused.ensures.failure
    (none_failed (g.F.Files.failed c.args.files.now) (g.F.Files.failed c.read_file.new.files) c.args.path.now c.in_ok-text.ensures.uncounted)
