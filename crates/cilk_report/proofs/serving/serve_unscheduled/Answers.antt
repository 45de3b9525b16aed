use Rattle.std.proofs.Common.{◌≡◌, ◌<◌, ◌≤◌, List, ap, length, refl, rules, string_bytes, subst, sym, true, ◌∙◌}
use Rattle.std.proofs.lemmas.Bool.{true≢false}
use Rattle.cilk_messages.proofs.Plain.{as_many, fewer}
use Rattle.cilk_report.proofs.About.{error_about, text_about, unanswered}
use Rattle.cilk_report.proofs.Replies.{any_more, refused, silent, starved}
use Rattle.cilk_report.proofs.Standard.{some_words}
use Rattle.cilk_report.specs.Explained.{About, Explained, Served, ServesThenExplains}
use Rattle.cilk_messages.specs.Asked.{explains_itself, unflagged}
use Rattle.cilk_commands.specs.Replies.{Text}
use Rattle.cilk_messages.specs.Words.{texts}
use Rattle.cilk_report.proofs.serving.serve_unscheduled.Goals as goal

pub returns-in-Ok-Text-clause-about : goal.returns-in-Ok-Text-clause-about
returns-in-Ok-Text-clause-about g c = λ _.
    text_about (texts c.args.words.now) (string_bytes c.in-Ok-Text.text) c.as_bytes.result.now _ _ _ _ _ c.as_bytes.ensures.value
    (λ asked. rw c.in-Ok-Text.field-0-is at c.in-Ok-Text.ensures.version asked)
    (λ asked. rw c.in-Ok-Text.field-0-is at c.in-Ok-Text.ensures.help asked)
    (λ asked. rw c.in-Ok-Text.field-0-is at c.in-Ok-Text.ensures.help_on asked)
    (λ asked. rw c.in-Ok-Text.field-0-is at c.in-Ok-Text.ensures.list asked)
    (λ asked. rw c.in-Ok-Text.field-0-is at c.in-Ok-Text.ensures.meaning asked)
    (λ asked. rw c.in-Ok-Text.field-0-is at c.in-Ok-Text.ensures.unknown asked) c.tell_text.ensures

pub returns-in-Ok-Text-clause-served : goal.returns-in-Ok-Text-clause-served
returns-in-Ok-Text-clause-served g c =
    let is = rw c.in-Ok-Text.field-0-is at c.in-Ok-Text.ensures.asked in
    About c.requires.other is refl (returns-in-Ok-Text-clause-about g c is)

pub returns-in-Ok-Text-clause-explained : goal.returns-in-Ok-Text-clause-explained
returns-in-Ok-Text-clause-explained g c =
    λ isnt _. absurd (true≢false (sym (rw c.in-Ok-Text.field-0-is at c.in-Ok-Text.ensures.asked) ∙ isnt))

pub returns-in-Ok-Wrong-clause-about : goal.returns-in-Ok-Wrong-clause-about
returns-in-Ok-Wrong-clause-about g c = λ _.
    error_about (texts c.args.words.now) (string_bytes c.in-Ok-Wrong.text) c.as_bytes-in-Ok-Wrong.result.now _ _ _ _ c.as_bytes-in-Ok-Wrong.ensures.value
    (λ asked. rw c.in-Ok-Wrong.field-0-is at c.in-Ok-Wrong.ensures.version asked)
    (λ asked. rw c.in-Ok-Wrong.field-0-is at c.in-Ok-Wrong.ensures.help asked)
    (λ asked. rw c.in-Ok-Wrong.field-0-is at c.in-Ok-Wrong.ensures.help_on asked)
    (λ asked. rw c.in-Ok-Wrong.field-0-is at c.in-Ok-Wrong.ensures.list asked)
    (λ asked. rw c.in-Ok-Wrong.field-0-is at c.in-Ok-Wrong.ensures.meaning asked)
    (λ asked. rw c.in-Ok-Wrong.field-0-is at c.in-Ok-Wrong.ensures.unknown asked) c.tell_error.ensures.status c.tell_error.ensures.told

pub returns-in-Ok-Wrong-clause-served : goal.returns-in-Ok-Wrong-clause-served
returns-in-Ok-Wrong-clause-served g c =
    let is = rw c.in-Ok-Wrong.field-0-is at c.in-Ok-Wrong.ensures.asked in
    About c.requires.other is refl (returns-in-Ok-Wrong-clause-about g c is)

pub returns-in-Ok-Wrong-clause-explained : goal.returns-in-Ok-Wrong-clause-explained
returns-in-Ok-Wrong-clause-explained g c =
    λ isnt _. absurd (true≢false (sym (rw c.in-Ok-Wrong.field-0-is at c.in-Ok-Wrong.ensures.asked) ∙ isnt))

pub returns-in-Ok-clause-served : goal.returns-in-Ok-clause-served
returns-in-Ok-clause-served g c =
    let same : texts c.as_slice.result.now ≡ unflagged (texts c.args.words.now) =
    ap texts c.as_slice.ensures.value ∙ c.in-Ok.ensures in
    let less : length c.as_slice.result.now < length c.args.words.now = search rules in
    Explained c.requires.other (fewer _ _ same less)
    (subst (λ (ws : List Text). ServesThenExplains ws true (g.F.Files.holds c.args.files.now) (g.R.CountedRead.remaining c.args.input.now)
    (g.F.Files.failed c.args.files.now) (g.F.Files.failed c.serve_flagged.new.files) c.serve_flagged.result (g.O.Write.contents c.args.out.now) (g.O.Write.contents c.serve_flagged.new.out)
    (g.E.Write.contents c.args.err.now) (g.E.Write.contents c.serve_flagged.new.err)) same (any_more _ _ _ _ _ _ _ _ _ _ _ c.serve_flagged.ensures.shown))

pub returns-in-Ok-clause-explained : goal.returns-in-Ok-clause-explained
returns-in-Ok-clause-explained g c = λ _ _.
    let same : texts c.as_slice.result.now ≡ unflagged (texts c.args.words.now) =
    ap texts c.as_slice.ensures.value ∙ c.in-Ok.ensures in
    subst (λ (ws : List Text). ServesThenExplains ws true (g.F.Files.holds c.args.files.now) (g.R.CountedRead.remaining c.args.input.now)
    (g.F.Files.failed c.args.files.now) (g.F.Files.failed c.serve_flagged.new.files) c.serve_flagged.result (g.O.Write.contents c.args.out.now) (g.O.Write.contents c.serve_flagged.new.out)
    (g.E.Write.contents c.args.err.now) (g.E.Write.contents c.serve_flagged.new.err)) same (any_more _ _ _ _ _ _ _ _ _ _ _ c.serve_flagged.ensures.shown)

pub returns-in-Ok-2-clause-served : goal.returns-in-Ok-2-clause-served
returns-in-Ok-2-clause-served g c =
    Served c.complain.result.told (ap explains_itself c.requires.other) (refused _ _ c.refusal.result _ _ _ _ _ c.requires.other refl c.refusal.ensures c.complain.ensures)

pub returns-in-Ok-2-clause-explained : goal.returns-in-Ok-2-clause-explained
returns-in-Ok-2-clause-explained g c = λ _ less.
    let same : texts c.in-Ok-2.field-0.items ≡ unflagged (texts c.args.words.now) =
    c.in-Ok-2.ensures in
    let many : length c.args.words.now ≤ length c.in-Ok-2.field-0.items = search rules in
    absurd (as_many _ _ same many less)

pub returns-in-Err-unflagged-clause-served : goal.returns-in-Err-unflagged-clause-served
returns-in-Err-unflagged-clause-served g c = Served c.complain-in-Err-unflagged.result.told (ap explains_itself c.requires.other) (starved _ _ _ _ _ _ _ refl c.complain-in-Err-unflagged.ensures)

pub returns-in-Err-unflagged-clause-explained : goal.returns-in-Err-unflagged-clause-explained
returns-in-Err-unflagged-clause-explained g c =
    λ _ _. silent _ _ _ _ _ _ _ c.complain-in-Err-unflagged.result.told _ _ _ _ (starved _ _ _ _ _ _ _ refl c.complain-in-Err-unflagged.ensures)

pub returns-in-Err-clause-served : goal.returns-in-Err-clause-served
returns-in-Err-clause-served g c = Served c.complain-in-Err.result.told (ap explains_itself c.requires.other) (starved _ _ _ _ _ _ _ refl c.complain-in-Err.ensures)

pub returns-in-Err-clause-explained : goal.returns-in-Err-clause-explained
returns-in-Err-clause-explained g c =
    λ _ _. silent _ _ _ _ _ _ _ c.complain-in-Err.result.told _ _ _ _ (starved _ _ _ _ _ _ _ refl c.complain-in-Err.ensures)

pub returns-in-Ok-clause-untouched : goal.returns-in-Ok-clause-untouched
returns-in-Ok-clause-untouched g c = λ some.
    c.serve_flagged.ensures.untouched (some_words _ (λ none. some (sym (ap texts c.as_slice.ensures.value ∙ c.in-Ok.ensures) ∙ none)))

pub returns-in-Err-clause-about : goal.returns-in-Err-clause-about
returns-in-Err-clause-about g c = λ _. unanswered _ _ _ _ _ _ c.complain-in-Err.ensures

pub returns-in-Ok-clause-about : goal.returns-in-Ok-clause-about
returns-in-Ok-clause-about g c =
    λ yes. absurd (true≢false (sym yes ∙ rw c.in-Ok-Other.field-0-is at c.in-Ok-Other.ensures.asked))

pub returns-in-Ok-2-clause-about : goal.returns-in-Ok-2-clause-about
returns-in-Ok-2-clause-about g c =
    λ yes. absurd (true≢false (sym yes ∙ rw c.in-Ok-Other.field-0-is at c.in-Ok-Other.ensures.asked))

pub returns-in-Err-unflagged-clause-about : goal.returns-in-Err-unflagged-clause-about
returns-in-Err-unflagged-clause-about g c =
    λ yes. absurd (true≢false (sym yes ∙ rw c.in-Ok-Other.field-0-is at c.in-Ok-Other.ensures.asked))
