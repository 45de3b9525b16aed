use Rattle.std.proofs.Common.{Some, refl, subst, sym, true}
use Rattle.std.proofs.lemmas.Bool.{true≢false}
use Rattle.cilk_report.proofs.Replies.{IsUsage, answered, asked_for, complained, refused, silent, starved, unasked, unshown}
use Rattle.std.specs.String.{string_bytes}
use Rattle.cilk_report.specs.Explained.{Checked, IsRace, IsStealingScript, Told}
use Rattle.cilk_commands.specs.Replies.{answer_view}
use Rattle.cilk_commands.proofs.Workers.{read_workers}
use Rattle.cilk_messages.specs.Words.{order_view, texts}
use Rattle.cilk_messages.specs.declared.words.WordsFault.{WordsFault}
use Rattle.cilk_report.proofs.scheduling.serve_checked.Goals as goal

pub carry_out-requires-clause-some : goal.carry_out-requires-clause-some
carry_out-requires-clause-some g c = read_workers (texts c.args.words.now) (order_view c.in-Ok.order) c.in-Ok.ensures.order

pub returns-in-Ok-Some-clause-shown : goal.returns-in-Ok-Some-clause-shown
returns-in-Ok-Some-clause-shown g c =
    let found : IsRace (answer_view c.in-Ok-carry_out.answer) × IsStealingScript (string_bytes c.in-Ok-Some.script) =
    rw c.in-Ok-Some.field-0-is at c.in-Ok-Some.ensures in
    Told (answer_view c.in-Ok-carry_out.answer) c.as_bytes.result.now
    (asked_for _ _ _ _ c.in-Ok.ensures.order c.in-Ok-carry_out.ensures.answer) found.0 (subst IsStealingScript (sym c.as_bytes.ensures.value) found.1)
    c.tell_text.ensures

pub returns-in-Ok-None-clause-shown : goal.returns-in-Ok-None-clause-shown
returns-in-Ok-None-clause-shown g c =
    Checked (answered _ (g.F.Files.holds c.args.files.now) (g.R.CountedRead.remaining c.args.input.now) (g.F.Files.failed c.args.files.now) _ _
    (Some (order_view c.in-Ok.order)) c.in-Ok.ensures.order true (answer_view c.in-Ok-carry_out.answer) _ _ c.show-served.result.told _ _ _ _ _
    c.in-Ok-carry_out.ensures.answer c.show-served.ensures c.follow.ensures.status (λ _. refl) c.follow.ensures.follows (λ _ none. absurd (true≢false none)))

pub returns-in-Ok-carry_out-clause-shown : goal.returns-in-Ok-carry_out-clause-shown
returns-in-Ok-carry_out-clause-shown g c =
    Checked (silent _ _ _ _ _ _ _ c.complain.result.told _ _ _ _ (unshown _ _ (answer_view c.in-Ok-carry_out.answer) _ _ _ _ _
    (asked_for _ _ _ _ c.in-Ok.ensures.order c.in-Ok-carry_out.ensures.answer) c.complain.ensures))

pub returns-in-Ok-clause-shown : goal.returns-in-Ok-clause-shown
returns-in-Ok-clause-shown g c =
    Checked (complained _ (g.F.Files.holds c.args.files.now) (g.R.CountedRead.remaining c.args.input.now) (g.F.Files.failed c.args.files.now) _ _
    (Some (order_view c.in-Ok.order)) c.in-Ok.ensures.order true c.in-Err.failure _ _ c.complain-served.result.told _ _ _ _
    c.in-Err.ensures.failure c.complain-served.ensures c.follow-in-Err.ensures.status (λ _. refl) c.follow-in-Err.ensures.follows)

pub returns-in-Err-Usage-clause-shown : goal.returns-in-Err-Usage-clause-shown
returns-in-Err-Usage-clause-shown g c =
    Checked (silent _ _ _ _ _ _ _ c.complain-in-Err-Usage.result.told _ _ _ _ (refused _ _ c.wrong_words.result _ _ _ _ _
    (unasked _ _ (subst (λ (e : WordsFault). IsUsage e) (sym c.in-Err-Usage.field-0-is) tt) c.in-Err-Usage.ensures.fault)
    refl c.wrong_words.ensures c.complain-in-Err-Usage.ensures))

pub returns-clause-shown : goal.returns-clause-shown
returns-clause-shown g c =
    Checked (silent _ _ _ _ _ _ _ c.complain-in-Err-Memory.result.told _ _ _ _ (starved _ _ _ _ _ _ _ refl c.complain-in-Err-Memory.ensures))
