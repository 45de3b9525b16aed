use Rattle.std.proofs.Common.{List, ap, refl, subst, sym, ◌∙◌}
use Rattle.cilk_report.proofs.Replies.{silent, starved}
use Rattle.cilk_report.proofs.Standard.{some_check, some_words}
use Rattle.cilk_report.specs.Explained.{Checked, Schedules}
use Rattle.cilk_commands.specs.Replies.{Text}
use Rattle.cilk_messages.specs.Words.{texts}
use Rattle.cilk_report.proofs.scheduling.serve_schedule.Goals as goal

pub returns-in-Ok-clause-shown : goal.returns-in-Ok-clause-shown
returns-in-Ok-clause-shown g c =
    subst (λ (ws : List Text). Schedules ws (g.F.Files.holds c.args.files.now) (g.R.CountedRead.remaining c.args.input.now)
    (g.F.Files.failed c.args.files.now) (g.F.Files.failed c.serve_checked.new.files) c.serve_checked.result (g.O.Write.contents c.args.out.now) (g.O.Write.contents c.serve_checked.new.out)
    (g.E.Write.contents c.args.err.now) (g.E.Write.contents c.serve_checked.new.err)) (ap texts c.as_slice.ensures.value ∙ c.in-Ok.ensures) c.serve_checked.ensures.shown

pub returns-in-Err-clause-shown : goal.returns-in-Err-clause-shown
returns-in-Err-clause-shown g c =
    Checked (silent _ _ _ _ _ _ _ c.complain.result.told _ _ _ _ (starved _ _ _ _ _ _ _ refl c.complain.ensures))

pub returns-in-Ok-clause-untouched : goal.returns-in-Ok-clause-untouched
returns-in-Ok-clause-untouched g c =
    c.serve_checked.ensures.untouched (some_words _ (λ none. some_check (texts c.args.words.now) (sym (ap texts c.as_slice.ensures.value ∙ c.in-Ok.ensures) ∙ none)))
