use Rattle.std.proofs.Common.{refl, subst, sym}
use Rattle.cilk_messages.specs.declared.words.WordsFault.{WordsFault}
use Rattle.cilk_report.proofs.Replies.{IsUsage, of_kept, silence}
use Rattle.cilk_messages.specs.Asked.{unflagged}
use Rattle.cilk_commands.specs.Serving.{world}
use Rattle.cilk_messages.specs.Words.{texts}
use Rattle.cilk_tool.specs.Helped.{HelpedThenExplains, IsHelpedReply, Plain}
use Rattle.cilk_tool.proofs.CheckShowing.{answered, asked, ends, fails, starved, unasked}
use Rattle.cilk_tool.proofs.check_serving.serve_check.Goals as goal

pub returns-in-Ok-check_by_helpers-clause-served : goal.returns-in-Ok-check_by_helpers-clause-served
returns-in-Ok-check_by_helpers-clause-served g c =
    Plain c.show.result.told
    (ends _ _ _ _ _ _ _ _ _ (answered _ _ _ _ c.in-Ok.ensures.order c.in-Ok-check_by_helpers.ensures.answer) c.show.ensures)

pub returns-in-Ok-check_by_helpers-clause-explained : goal.returns-in-Ok-check_by_helpers-clause-explained
returns-in-Ok-check_by_helpers-clause-explained g c = λ none _. absurd (asked _ _ c.in-Ok.ensures.order none)

pub returns-in-Err-clause-served : goal.returns-in-Err-clause-served
returns-in-Err-clause-served g c =
    Plain c.complain.result.told
    (fails _ _ _ _ _ _ _ _ (answered _ _ _ _ c.in-Ok.ensures.order c.in-Err.ensures.failure) c.complain.ensures)

pub returns-in-Err-clause-explained : goal.returns-in-Err-clause-explained
returns-in-Err-clause-explained g c = λ none _. absurd (asked _ _ c.in-Ok.ensures.order none)

pub serve_unread-requires-clause-unread : goal.serve_unread-requires-clause-unread
serve_unread-requires-clause-unread g c = λ _ _.
    unasked _ _ (subst (λ (e : WordsFault). IsUsage e) (sym c.in-Err-Usage.field-0-is) tt) c.in-Err-Usage.ensures.fault

pub returns-in-Err-Usage-clause-explained : goal.returns-in-Err-Usage-clause-explained
returns-in-Err-Usage-clause-explained g c = λ _ less.
    of_kept (λ fs f. HelpedThenExplains (unflagged (texts c.args.words.now)) (world fs (g.R.CountedRead.remaining c.args.input.now) f (g.F.Files.failed c.serve_unread.new.files))
    c.serve_unread.result (g.O.Write.contents c.args.out.now) (g.O.Write.contents c.serve_unread.new.out) (g.E.Write.contents c.args.err.now)
    (g.E.Write.contents c.serve_unread.new.err)) _ _ _ _ c.keep.ensures.failures c.keep.ensures.same (c.serve_unread.ensures.explained less)

pub returns-in-Err-Usage-clause-served : goal.returns-in-Err-Usage-clause-served
returns-in-Err-Usage-clause-served g c =
    of_kept (λ fs f. IsHelpedReply (texts c.args.words.now) (world fs (g.R.CountedRead.remaining c.args.input.now) f (g.F.Files.failed c.serve_unread.new.files))
    c.serve_unread.result (g.O.Write.contents c.args.out.now) (g.O.Write.contents c.serve_unread.new.out) (g.E.Write.contents c.args.err.now)
    (g.E.Write.contents c.serve_unread.new.err)) _ _ _ _ c.keep.ensures.failures c.keep.ensures.same c.serve_unread.ensures.served

pub returns-in-Err-Memory-clause-served : goal.returns-in-Err-Memory-clause-served
returns-in-Err-Memory-clause-served g c =
    Plain c.complain-in-Err-Memory.result.told (starved _ _ _ _ _ _ _ refl c.complain-in-Err-Memory.ensures)

pub returns-in-Err-Memory-clause-explained : goal.returns-in-Err-Memory-clause-explained
returns-in-Err-Memory-clause-explained g c = λ _ _. (
  g.E.Write.contents c.complain-in-Err-Memory.new.err,
  c.complain-in-Err-Memory.result.told,
  starved _ _ _ _ _ _ _ refl c.complain-in-Err-Memory.ensures,
  silence _ _,
)
