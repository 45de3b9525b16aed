use Rattle.std.proofs.Common.{refl, subst, sym}
use Rattle.cilk_messages.specs.declared.words.WordsFault.{WordsFault}
use Rattle.cilk_report.proofs.Replies.{IsUsage, silence}
use Rattle.cilk_tool.proofs.Showing.{answered, ends, fails, no_words, starved, told_status, unasked}
use Rattle.cilk_tool.proofs.serving.serve_watched.Goals as goal

pub returns-in-Ok-carry_out-clause-shown : goal.returns-in-Ok-carry_out-clause-shown
returns-in-Ok-carry_out-clause-shown g c = (
  g.E.Write.contents c.show_ending-served.new.err,
  c.show_ending-served.result.told,
  told_status _ _ _ _ _ _ _ _ _
      (ends _ _ _ _ _ _ _ _ _ (answered _ _ _ _ c.in-Ok.ensures.order c.in-Ok-carry_out.ensures.answer) c.show_ending-served.ensures)
      c.follow.ensures.status,
  c.follow.ensures.follows,
)

pub returns-in-Err-clause-shown : goal.returns-in-Err-clause-shown
returns-in-Err-clause-shown g c = (
  g.E.Write.contents c.complain-served.new.err,
  c.complain-served.result.told,
  told_status _ _ _ _ _ _ _ _ _
      (fails _ _ _ _ _ _ _ _ (answered _ _ _ _ c.in-Ok.ensures.order c.in-Err.ensures.failure) c.complain-served.ensures)
      c.follow-in-Err.ensures.status,
  c.follow-in-Err.ensures.follows,
)

pub returns-in-Err-Usage-clause-shown : goal.returns-in-Err-Usage-clause-shown
returns-in-Err-Usage-clause-shown g c = (
  g.E.Write.contents c.complain.new.err,
  c.complain.result.told,
  fails _ _ _ _ c.advised.result _ _ _
      (no_words _ _ _ (unasked _ _ (subst (λ (e : WordsFault). IsUsage e) (sym c.in-Err-Usage.field-0-is) tt) c.in-Err-Usage.ensures.fault) refl c.advised.ensures)
      c.complain.ensures,
  silence _ _,
)

pub returns-in-Err-Memory-clause-shown : goal.returns-in-Err-Memory-clause-shown
returns-in-Err-Memory-clause-shown g c = (
  g.E.Write.contents c.complain-in-Err-Memory.new.err,
  c.complain-in-Err-Memory.result.told,
  starved _ _ _ _ _ _ _ refl c.complain-in-Err-Memory.ensures,
  silence _ _,
)
