use Rattle.std.proofs.Common.{ap, false, refl, subst, sym, true, ◌∙◌}
use Rattle.std.proofs.lemmas.Bool.{true≢false}
use Rattle.cilk_report.proofs.About.{unanswered}
use Rattle.cilk_report.proofs.Batches as batches
use Rattle.cilk_report.proofs.Measuring as measuring
use Rattle.cilk_report.proofs.Replies.{IsUsage, of_kept, other, silence, silent, starved, starved_or_settled, unasked, yes}
use Rattle.cilk_report.proofs.Standard.{some_left, some_words}
use Rattle.cilk_report.specs.Explained.{Checked, Measures, Schedules, Served, ServesExplained, ServesThenExplains, Settles, Settling}
use Rattle.cilk_messages.specs.Asked.{explains_itself, unflagged, words_of_check}
use Rattle.cilk_messages.specs.Words.{texts}
use Rattle.cilk_messages.specs.declared.words.WordsFault.{WordsFault}
use Rattle.cilk_report.proofs.serving.serve_explained.Goals as goal

pub returns-in-Ok-2-clause-served : goal.returns-in-Ok-2-clause-served
returns-in-Ok-2-clause-served g c =
    Served c.serve.ensures.served.0 (other _ _ _ c.in-Ok.ensures.order c.explains_itself.ensures c.if-explains_itself.false) c.serve.ensures.served.1

pub returns-in-Ok-2-clause-measured : goal.returns-in-Ok-2-clause-measured
returns-in-Ok-2-clause-measured g c = λ empty _. absurd (measuring.asked _ _ c.in-Ok.ensures.order empty)

pub serve_other-requires-clause-other : goal.serve_other-requires-clause-other
serve_other-requires-clause-other g c =
    unasked _ _ (subst (λ (e : WordsFault). IsUsage e) (sym c.in-Err-Usage.field-0-is) tt) c.in-Err-Usage.ensures-1.fault

pub returns-in-Err-Usage-clause-measured : goal.returns-in-Err-Usage-clause-measured
returns-in-Err-Usage-clause-measured g c = λ _ measures.
    of_kept (λ fs f. Measures (texts c.args.words.now) fs (g.R.CountedRead.remaining c.args.input.now) f (g.F.Files.failed c.serve_other.new.files)
    c.serve_other.result (g.O.Write.contents c.args.out.now) (g.O.Write.contents c.serve_other.new.out) (g.E.Write.contents c.args.err.now)
    (g.E.Write.contents c.serve_other.new.err)) _ _ _ _ c.keep-in-Err-Usage.ensures.failures c.keep-in-Err-Usage.ensures.same (c.serve_other.ensures.measured measures)

pub returns-in-Err-Usage-clause-served : goal.returns-in-Err-Usage-clause-served
returns-in-Err-Usage-clause-served g c =
    of_kept (λ fs f. ServesExplained (texts c.args.words.now) fs (g.R.CountedRead.remaining c.args.input.now) f (g.F.Files.failed c.serve_other.new.files)
    c.serve_other.result (g.O.Write.contents c.args.out.now) (g.O.Write.contents c.serve_other.new.out) (g.E.Write.contents c.args.err.now)
    (g.E.Write.contents c.serve_other.new.err)) _ _ _ _ c.keep-in-Err-Usage.ensures.failures c.keep-in-Err-Usage.ensures.same c.serve_other.ensures.served

pub returns-in-Err-Memory-clause-served : goal.returns-in-Err-Memory-clause-served
returns-in-Err-Memory-clause-served g c = starved_or_settled _ _ _ _ _ _ _ _ _ _ refl c.complain.ensures

pub returns-in-Err-Memory-clause-measured : goal.returns-in-Err-Memory-clause-measured
returns-in-Err-Memory-clause-measured g c = λ _ _. measuring.starved _ _ _ _ _ _ _ _ _ _ _ _ refl c.complain.ensures (silence _ _) refl

pub returns-in-Ok-2-clause-explained : goal.returns-in-Ok-2-clause-explained
returns-in-Ok-2-clause-explained g c = λ empty _ _ _ _ _. absurd (measuring.asked _ _ c.in-Ok.ensures.order empty)

pub returns-in-Err-Usage-clause-explained : goal.returns-in-Err-Usage-clause-explained
returns-in-Err-Usage-clause-explained g c = λ _ isnt other settles about less.
    of_kept (λ fs f. ServesThenExplains (unflagged (texts c.args.words.now)) true fs (g.R.CountedRead.remaining c.args.input.now) f (g.F.Files.failed c.serve_other.new.files)
    c.serve_other.result (g.O.Write.contents c.args.out.now) (g.O.Write.contents c.serve_other.new.out) (g.E.Write.contents c.args.err.now)
    (g.E.Write.contents c.serve_other.new.err)) _ _ _ _ c.keep-in-Err-Usage.ensures.failures c.keep-in-Err-Usage.ensures.same (c.serve_other.ensures.explained isnt other settles about less)

pub returns-in-Err-Memory-clause-explained : goal.returns-in-Err-Memory-clause-explained
returns-in-Err-Memory-clause-explained g c =
    λ _ _ _ _ _ _. silent _ _ _ _ _ _ _ c.complain.result.told _ _ _ _ (starved _ _ _ _ _ _ _ refl c.complain.ensures)

pub returns-in-Ok-2-clause-scheduled : goal.returns-in-Ok-2-clause-scheduled
returns-in-Ok-2-clause-scheduled g c = λ empty _ _. absurd (measuring.asked _ _ c.in-Ok.ensures.order empty)

pub returns-in-Err-Usage-clause-scheduled : goal.returns-in-Err-Usage-clause-scheduled
returns-in-Err-Usage-clause-scheduled g c = λ _ isnt schedules.
    of_kept (λ fs f. Schedules (words_of_check (texts c.args.words.now)) fs (g.R.CountedRead.remaining c.args.input.now) f (g.F.Files.failed c.serve_other.new.files)
    c.serve_other.result (g.O.Write.contents c.args.out.now) (g.O.Write.contents c.serve_other.new.out) (g.E.Write.contents c.args.err.now)
    (g.E.Write.contents c.serve_other.new.err)) _ _ _ _ c.keep-in-Err-Usage.ensures.failures c.keep-in-Err-Usage.ensures.same (c.serve_other.ensures.scheduled isnt schedules)

pub returns-in-Err-Memory-clause-scheduled : goal.returns-in-Err-Memory-clause-scheduled
returns-in-Err-Memory-clause-scheduled g c =
    λ _ _ _. Checked (silent _ _ _ _ _ _ _ c.complain.result.told _ _ _ _ (starved _ _ _ _ _ _ _ refl c.complain.ensures))

pub returns-in-Ok-2-clause-settled : goal.returns-in-Ok-2-clause-settled
returns-in-Ok-2-clause-settled g c = λ yes.
    absurd (true≢false (sym yes ∙ other _ _ _ c.in-Ok.ensures.order c.explains_itself.ensures c.if-explains_itself.false))

pub returns-in-Err-Usage-clause-settled : goal.returns-in-Err-Usage-clause-settled
returns-in-Err-Usage-clause-settled g c = λ yes.
    absurd (true≢false (sym yes ∙ ap explains_itself (unasked _ _ (subst (λ (e : WordsFault). IsUsage e) (sym c.in-Err-Usage.field-0-is) tt) c.in-Err-Usage.ensures-1.fault)))

pub returns-in-Err-Memory-clause-settled : goal.returns-in-Err-Memory-clause-settled
returns-in-Err-Memory-clause-settled g c =
    λ _. silent _ _ _ _ _ _ _ c.complain.result.told _ _ _ _ (starved _ _ _ _ _ _ _ refl c.complain.ensures)

pub returns-in-Ok-clause-served : goal.returns-in-Ok-clause-served
returns-in-Ok-clause-served g c =
    Settling (yes _ _ _ c.in-Ok.ensures.order c.explains_itself.ensures c.if-explains_itself.true)
    (of_kept (λ fs f. ServesThenExplains (texts c.args.words.now) false fs (g.R.CountedRead.remaining c.args.input.now) f (g.F.Files.failed c.serve_flagged.new.files)
    c.serve_flagged.result (g.O.Write.contents c.args.out.now) (g.O.Write.contents c.serve_flagged.new.out) (g.E.Write.contents c.args.err.now)
    (g.E.Write.contents c.serve_flagged.new.err)) _ _ _ _ c.keep.ensures.failures c.keep.ensures.same c.serve_flagged.ensures.shown)

pub returns-in-Ok-clause-settled : goal.returns-in-Ok-clause-settled
returns-in-Ok-clause-settled g c = λ _.
    of_kept (λ fs f. ServesThenExplains (texts c.args.words.now) false fs (g.R.CountedRead.remaining c.args.input.now) f (g.F.Files.failed c.serve_flagged.new.files)
    c.serve_flagged.result (g.O.Write.contents c.args.out.now) (g.O.Write.contents c.serve_flagged.new.out) (g.E.Write.contents c.args.err.now)
    (g.E.Write.contents c.serve_flagged.new.err)) _ _ _ _ c.keep.ensures.failures c.keep.ensures.same c.serve_flagged.ensures.shown

pub returns-in-Ok-clause-measured : goal.returns-in-Ok-clause-measured
returns-in-Ok-clause-measured g c = λ empty _. absurd (measuring.asked _ _ c.in-Ok.ensures.order empty)

pub returns-in-Ok-clause-scheduled : goal.returns-in-Ok-clause-scheduled
returns-in-Ok-clause-scheduled g c = λ empty _ _. absurd (measuring.asked _ _ c.in-Ok.ensures.order empty)

pub returns-in-Ok-clause-explained : goal.returns-in-Ok-clause-explained
returns-in-Ok-clause-explained g c = λ empty _ _ _ _ _. absurd (measuring.asked _ _ c.in-Ok.ensures.order empty)

pub returns-in-Ok-clause-settles : goal.returns-in-Ok-clause-settles
returns-in-Ok-clause-settles g c = λ empty _ _ _. absurd (measuring.asked _ _ c.in-Ok.ensures.order empty)

pub returns-in-Ok-2-clause-settles : goal.returns-in-Ok-2-clause-settles
returns-in-Ok-2-clause-settles g c = λ empty _ _ _. absurd (measuring.asked _ _ c.in-Ok.ensures.order empty)

pub returns-in-Err-Usage-clause-settles : goal.returns-in-Err-Usage-clause-settles
returns-in-Err-Usage-clause-settles g c = λ _ isnt other held.
    of_kept (λ fs f. Settles (texts c.args.words.now) fs (g.R.CountedRead.remaining c.args.input.now) f (g.F.Files.failed c.serve_other.new.files)
    c.serve_other.result (g.O.Write.contents c.args.out.now) (g.O.Write.contents c.serve_other.new.out) (g.E.Write.contents c.args.err.now)
    (g.E.Write.contents c.serve_other.new.err)) _ _ _ _ c.keep-in-Err-Usage.ensures.failures c.keep-in-Err-Usage.ensures.same (c.serve_other.ensures.settles isnt other held)

pub returns-in-Err-Memory-clause-settles : goal.returns-in-Err-Memory-clause-settles
returns-in-Err-Memory-clause-settles g c = λ _ _ _ _. batches.starved _ _ _ _ _ _ _ _ _ _ refl c.complain.ensures

pub returns-in-Ok-clause-untouched : goal.returns-in-Ok-clause-untouched
returns-in-Ok-clause-untouched g c = λ some. c.serve_flagged.ensures.untouched (some_words _ (some_left _ some))

pub returns-in-Ok-2-clause-untouched : goal.returns-in-Ok-2-clause-untouched
returns-in-Ok-2-clause-untouched g c = λ some. c.serve.ensures.untouched (some_words _ (some_left _ some))

pub returns-in-Ok-clause-about : goal.returns-in-Ok-clause-about
returns-in-Ok-clause-about g c = λ empty _ _ _ _. absurd (measuring.asked _ _ c.in-Ok.ensures.order empty)

pub returns-in-Ok-2-clause-about : goal.returns-in-Ok-2-clause-about
returns-in-Ok-2-clause-about g c = λ empty _ _ _ _. absurd (measuring.asked _ _ c.in-Ok.ensures.order empty)

pub returns-in-Err-Usage-clause-about : goal.returns-in-Err-Usage-clause-about
returns-in-Err-Usage-clause-about g c = λ _. c.serve_other.ensures.about

pub returns-in-Err-Memory-clause-about : goal.returns-in-Err-Memory-clause-about
returns-in-Err-Memory-clause-about g c = λ _ _ _ _ _. unanswered _ _ _ _ _ _ c.complain.ensures
