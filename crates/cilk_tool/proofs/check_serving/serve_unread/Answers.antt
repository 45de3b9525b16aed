use Rattle.std.proofs.Common.{◌≡◌, ◌<◌, ◌≤◌, List, ap, length, refl, rules, subst, ◌∙◌}
use Rattle.cilk_messages.proofs.Plain.{as_many, fewer}
use Rattle.cilk_report.proofs.Replies.{silence}
use Rattle.cilk_messages.specs.Asked.{unflagged}
use Rattle.cilk_commands.specs.Replies.{Text}
use Rattle.cilk_commands.specs.Serving.{world}
use Rattle.cilk_messages.specs.Words.{texts}
use Rattle.cilk_tool.proofs.CheckShowing.{fails, no_words, starved}
use Rattle.cilk_tool.specs.Helped.{Explained, HelpedThenExplains, Plain}
use Rattle.cilk_tool.proofs.check_serving.serve_unread.Goals as goal

pub returns-in-Ok-clause-served : goal.returns-in-Ok-clause-served
returns-in-Ok-clause-served g c =
    let same : texts c.as_slice.result.now ≡ unflagged (texts c.args.words.now) =
    ap texts c.as_slice.ensures.value ∙ c.in-Ok.ensures in
    let less : length c.as_slice.result.now < length c.args.words.now = search rules in
    Explained c.requires.unread (fewer _ _ same less)
    (subst (λ (ws : List Text). HelpedThenExplains ws (world (g.F.Files.holds c.args.files.now) (g.R.CountedRead.remaining c.args.input.now)
    (g.F.Files.failed c.args.files.now) (g.F.Files.failed c.serve_flagged.new.files)) c.serve_flagged.result (g.O.Write.contents c.args.out.now) (g.O.Write.contents c.serve_flagged.new.out)
    (g.E.Write.contents c.args.err.now) (g.E.Write.contents c.serve_flagged.new.err)) same c.serve_flagged.ensures.shown)

pub returns-in-Ok-clause-explained : goal.returns-in-Ok-clause-explained
returns-in-Ok-clause-explained g c = λ _.
    let same : texts c.as_slice.result.now ≡ unflagged (texts c.args.words.now) =
    ap texts c.as_slice.ensures.value ∙ c.in-Ok.ensures in
    subst (λ (ws : List Text). HelpedThenExplains ws (world (g.F.Files.holds c.args.files.now) (g.R.CountedRead.remaining c.args.input.now)
    (g.F.Files.failed c.args.files.now) (g.F.Files.failed c.serve_flagged.new.files)) c.serve_flagged.result (g.O.Write.contents c.args.out.now) (g.O.Write.contents c.serve_flagged.new.out)
    (g.E.Write.contents c.args.err.now) (g.E.Write.contents c.serve_flagged.new.err)) same c.serve_flagged.ensures.shown

pub returns-in-Ok-2-clause-served : goal.returns-in-Ok-2-clause-served
returns-in-Ok-2-clause-served g c =
    Plain c.complain.result.told (fails _ _ _ _ c.advised.result _ _ _ (no_words _ _ _ c.requires.unread refl c.advised.ensures) c.complain.ensures)

pub returns-in-Ok-2-clause-explained : goal.returns-in-Ok-2-clause-explained
returns-in-Ok-2-clause-explained g c = λ less.
    let same : texts c.in-Ok-2.field-0.items ≡ unflagged (texts c.args.words.now) =
    c.in-Ok-2.ensures in
    let many : length c.args.words.now ≤ length c.in-Ok-2.field-0.items = search rules in
    absurd (as_many _ _ same many less)

pub returns-in-Err-clause-served : goal.returns-in-Err-clause-served
returns-in-Err-clause-served g c = Plain c.complain-in-Err.result.told (starved _ _ _ _ _ _ _ refl c.complain-in-Err.ensures)

pub returns-in-Err-clause-explained : goal.returns-in-Err-clause-explained
returns-in-Err-clause-explained g c = λ _. (
  g.E.Write.contents c.complain-in-Err.new.err,
  c.complain-in-Err.result.told,
  starved _ _ _ _ _ _ _ refl c.complain-in-Err.ensures,
  silence _ _,
)
