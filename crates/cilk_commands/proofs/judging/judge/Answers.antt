use Rattle.std.proofs.Common.{ap, ap₂, refl, rules}
use Rattle.std.specs.Prelude.{Err}
use Rattle.cilk_commands.specs.TraceTexts.{GivesText, HasNoMalformedLine, HasVerdict}
use Rattle.cilk_commands.proofs.Kept.{fails, holds_to, own, reached, stays}
use Rattle.cilk_commands.proofs.TraceReplies.{fault_shown, from_first, numbered, verdict_shown}
use Rattle.cilk_commands.proofs.judging.judge.Goals as goal

pub shown-requires : goal.shown-requires
shown-requires g c = numbered _ c.in-Ok.verdict c.in-Ok.ensures.verdict

pub returns-in-Ok-clause-answer : goal.returns-in-Ok-clause-answer
returns-in-Ok-clause-answer g c =
    let made = c.new-source.ensures in
    verdict_shown c.args.trace.now (g.F.Files.holds c.args.files.now c.args.trace.now) (λ files. g.F.Files.failed files) c.args.files.now _ c.in-Ok.verdict _ c.shown.ensures
    (stays (λ files. g.F.Files.failed files) (λ files. g.F.Files.holds files) c.args.files.now c.new-source.result.files.now c.judge_text.new.source.files.now _
    _ _ _ _ _ _ c.args.trace.now c.args.trace.now made.files made.path made.other c.judge_text.ensures.kept (search rules) c.in-Ok.ensures.uncounted).0
    (from_first (λ known. GivesText known (λ text. HasVerdict text c.in-Ok.verdict)) _ _ _ (ap₂ (λ files path. g.F.Files.holds files path) made.files made.path)
    made.at c.in-Ok.ensures.verdict)

pub returns-in-Err-clause-failure : goal.returns-in-Err-clause-failure
returns-in-Err-clause-failure g c =
    let made = c.new-source.ensures in
    fault_shown c.args.trace.now (g.F.Files.holds c.args.files.now c.args.trace.now) _ _ (λ files. g.F.Files.failed files) c.args.files.now _ _ _
    c.in-Err.fault _
    (ap₂ (λ files path. g.F.Files.holds files path) made.files made.path) made.at c.unjudged.ensures
    (λ same. let kept = stays (λ files. g.F.Files.failed files) (λ files. g.F.Files.holds files) c.args.files.now c.new-source.result.files.now c.judge_text.new.source.files.now _
    _ _ _ _ _ _ c.args.trace.now c.args.trace.now made.files made.path made.other c.judge_text.ensures.kept (search rules) same in kept.0)
    (fails (λ files. g.F.Files.failed files) (λ files. g.F.Files.holds files) c.args.files.now c.new-source.result.files.now c.judge_text.new.source.files.now _
    _ _ _ _ _ _ c.args.trace.now c.args.trace.now made.files made.path made.other c.judge_text.ensures.kept (search rules))
    (λ is less.
    holds_to HasNoMalformedLine (g.F.Files.holds c.args.files.now c.args.trace.now) _ _ c.new-source.result.at c.judge_text.new.source.at _
    (ap₂ (λ files path. g.F.Files.holds files path) made.files made.path)
    (own (λ files. g.F.Files.failed files) (λ files. g.F.Files.holds files) c.args.files.now c.new-source.result.files.now c.judge_text.new.source.files.now _
    _ _ _ _ _ _ c.args.trace.now c.args.trace.now made.files made.path made.other c.judge_text.ensures.kept refl)
    made.at
    (reached (λ files. g.F.Files.failed files) (λ files. g.F.Files.holds files) c.args.files.now c.new-source.result.files.now c.judge_text.new.source.files.now _
    _ _ _ _ _ _ c.args.trace.now c.args.trace.now made.files made.path made.other c.judge_text.ensures.kept (search rules)
    c.judge_text.new.source.at made.before c.judge_text.new.source.stopped less)
    (c.in-Err.ensures.part (ap Err is)))
    c.in-Err.ensures.fault
