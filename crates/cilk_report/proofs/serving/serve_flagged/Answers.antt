use Rattle.std.proofs.Common.{Some, refl, subst, sym}
use Rattle.cilk_commands.specs.Replies.{answer_view}
use Rattle.cilk_commands.proofs.Workers.{read_workers}
use Rattle.cilk_messages.specs.Words.{order_view, texts}
use Rattle.cilk_report.specs.Silence.{asks_more}
use Rattle.cilk_report.proofs.Replies.{IsUsage, answered, complained, refused, silent, starved, unasked}
use Rattle.cilk_messages.specs.declared.words.WordsFault.{WordsFault}
use Rattle.cilk_report.proofs.serving.serve_flagged.Goals as goal

pub carry_out-requires-clause-some : goal.carry_out-requires-clause-some
carry_out-requires-clause-some g c = read_workers (texts c.args.words.now) (order_view c.in-Ok.order) c.in-Ok.ensures.order

pub answered-requires : goal.answered-requires
answered-requires g c = read_workers (texts c.args.words.now) (order_view c.in-Ok.order) c.in-Ok.ensures.order

pub failed-requires : goal.failed-requires
failed-requires g c = read_workers (texts c.args.words.now) (order_view c.in-Ok.order) c.in-Ok.ensures.order

pub returns-in-Ok-carry_out-clause-shown : goal.returns-in-Ok-carry_out-clause-shown
returns-in-Ok-carry_out-clause-shown g c =
    answered _ (g.F.Files.holds c.args.files.now) (g.R.CountedRead.remaining c.args.input.now) (g.F.Files.failed c.args.files.now) _ _
    (Some (order_view c.in-Ok.order)) c.in-Ok.ensures.order (asks_more c.args.extras) (answer_view c.in-Ok-carry_out.answer) _ _ c.show-served.result.told _ _ _ _ _ c.in-Ok-carry_out.ensures.answer c.show-served.ensures c.follow.ensures.status
    c.answered.ensures.unread c.follow.ensures.follows (λ tells none. c.follow.ensures.silent (c.answered.ensures.silent none tells))

pub returns-in-Err-clause-shown : goal.returns-in-Err-clause-shown
returns-in-Err-clause-shown g c =
    complained _ (g.F.Files.holds c.args.files.now) (g.R.CountedRead.remaining c.args.input.now) (g.F.Files.failed c.args.files.now) _ _
    (Some (order_view c.in-Ok.order)) c.in-Ok.ensures.order (asks_more c.args.extras) c.in-Err.failure _ _ c.complain-served.result.told _ _ _ _ c.in-Err.ensures.failure c.complain-served.ensures c.follow-in-Err.ensures.status
    c.failed.ensures c.follow-in-Err.ensures.follows

pub returns-in-Err-Usage-clause-shown : goal.returns-in-Err-Usage-clause-shown
returns-in-Err-Usage-clause-shown g c =
    silent _ _ _ _ _ _ _ c.complain.result.told _ _ _ _ (refused _ _ c.refusal.result _ _ _ _ _
    (unasked _ _ (subst (λ (e : WordsFault). IsUsage e) (sym c.in-Err-Usage.field-0-is) tt) c.in-Err-Usage.ensures.fault)
    refl c.refusal.ensures c.complain.ensures)

pub returns-in-Err-Memory-clause-shown : goal.returns-in-Err-Memory-clause-shown
returns-in-Err-Memory-clause-shown g c =
    silent _ _ _ _ _ _ _ c.complain-in-Err-Memory.result.told _ _ _ _ (starved _ _ _ _ _ _ _ refl c.complain-in-Err-Memory.ensures)
